-- `next` lends what `lend_next` lends, beside its prefix. Assumes `Logic`.
use Rattle.prefix_trie_map.proofs.Loans.{◌≡◌, ℕ, IfSome, IfNone, None, Some, Option, [], ◌∷◌, refl, sym, MutBor, proved, Args, named, a_type, dcons, dnil, Val, vptr, inst_fn, full_share, ent, emp, id⊢, Fml, GName, ftrue, fat, flft, ◌⊑◌, fact, fact_i, tables, ‵, raw, ◌⊛◌, some, later, ◌$◌, ◌∵◌, !, qed, done, move, drop, use0, use1, use2, use3, split, join, fsplit, fjoin, pick, await, rewrite, suffices, frame, agg, enter, of_opd, lit, addr, from, stop, no_more, and_then, returns, alloc_all, pass_all, free_all, look_at, get, through, sets, lands_as, take_at, give_at, param, bounded, Laws, param_laws, no, lone, RattleType, MutRef, mut_vals, mut_Tells, plain, mut_ref_to, nothing, heard, peeks, shows, Tuple, tuple_laws, calls_at, Lasts, lasts, triple_of, framed, Stays, stay_dropped, walk_of, ends_at, Goes-spent_ref, option_laws, Lent, lent_laws, KeptWithin, lends_within, back_within}
use Rattle.prefix_trie_map.proofs.Prelude.{none_of, lent_beside, FirstIn, IsOverIn, lends_next}
use mir.Val.{vnil}
use base.Share as half
use base.Fml.{Share}
use contract.BorrowLft.{meet_⊑_right}
use types.Match.{live}
use Rattle.std.specs.contracts.option.Option as option
use Rattle.prefix_trie_map.proofs.Writing.{HasFirst, prefix_there, first_beside, none_beside}
use Rattle.prefix_trie_map.specs.contracts.map.writing.WalkOf as walk
use Rattle.prefix_trie_map.specs.contracts.map.writing.WalkOf.next as f
use Rattle.prefix_trie_map.specs.contracts.map.writing.WalkOf.lend_next as h
use Rattle.prefix_trie_map.proofs.map.writing.WalkOf.lend_next.Met.{met as h_met}
use Rattle.prefix_trie_map.specs.contracts.map.writing.beside as b
use Rattle.prefix_trie_map.proofs.map.writing.beside.Met.{met as b_met}
use Rattle.prefix_trie_map.proofs.map.writing.WalkOf.next.Statement.{statement}
use Rattle.prefix_trie_map.proofs.map.writing.WalkOf.next.Code as code

pub next_spec : {M : Type 1} → statement M
next_spec 𝓤 𝓛 𝓜 𝓡 wired C P V S lC lP lV lS g c' p' s' mC mP mS =
    let En = f.ended C P V S g c' p' s' in
    let c = f.clauses C P V S g c' p' s' 𝓛 𝓜.mem 𝓡.returns in
    let args : Args = bounded (a_type ∷ a_type ∷ a_type ∷ a_type ∷ []) (C, (P, (V, (S, tt)))) (dcons c' (dcons p' (dcons s' dnil))) in
    let fn = inst_fn args code.function in
    let Walk : RattleType = walk.the_row (param 0 C) in
    let 𝓣 = tables 𝓤 𝓛.H 𝓜 𝓡 𝓡.env in
    let hs : Stays En.signature.params En.kept = (stay_dropped (mut_ref_to (0 ∷ []) tt (plain (λ _. Walk))) no, tt) in
    let W = walk_of 𝓛 En hs c in
    proved 𝓛 En hs c 𝓜 𝓡 (Goes-spent_ref 𝓛 5 (0 ∷ []) tt (plain (λ _. Walk)), tt)
    (f.Key.name args) fn (code.unfolded 𝓤 𝓛.H 𝓜 𝓡 wired (C, (P, (V, (S, tt)))) c' p' s')
    (λ κs. (mut_vals, tt)) (λ κs. (mut_Tells (named 0) κs.0 Walk, tt)) (λ κs qs bounds xs _ are.
    let m = xs.0 in let κ = κs.0 in let π = κs.1.1.0 in
    let y : W.Ghost = ((κs, qs, bounds, xs, (mut_vals m, tt)), tt) in
    let left : Share = half.left qs.1.1.0 in let right : Share = half.right qs.1.1.0 in
    let Prefix : RattleType = option.the_row (param 1 P) in
    let prefix_laws : Laws Prefix = option_laws (param 1 P) (param_laws 1 P lP) in
    let Found : RattleType = option.the_row (Lent 2 V κ) in
    let found_laws : Laws Found = option_laws (Lent 2 V κ) (lent_laws 2 V lV κ) in
    let Beside : RattleType = Tuple (param 1 P ∷ Lent 2 V κ ∷ []) in
    let Shown : RattleType = option.the_row Beside in
    let shown_laws : Laws Shown = option_laws Beside (tuple_laws (param 1 P ∷ Lent 2 V κ ∷ []) (param_laws 1 P lP, (lent_laws 2 V lV κ, tt))) in
    let lends : Option (MutBor V.Denot) → Fml = λ o. lends_next (param 0 C) (param 2 V) m g.Passes g.Ends o in
    let First : P.Denot → V.Denot → Type 0 = λ q x. FirstIn g.First m.now.source q x in
    let IsOver : Type 0 = IsOverIn g.Ends m.now.source in
    let given : (φ : Type 0) → φ → ent 𝓤 (emp 𝓤) (fact 𝓤 φ) = λ φ x. fact_i 𝓤 φ (emp 𝓤) x in
    let InC : Type 0 = κs.1.0 ⊑ C.lives in let InP : Type 0 = π ⊑ P.lives in let InV : Type 0 = κs.1.1.1.0 ⊑ V.lives in let InS : Type 0 = κs.1.1.1.1.0 ⊑ S.lives in
    let Self = ‵ ((MutRef (named 0) κ Walk).own_val m (mut_vals m)) in
    let tok₀ = ‵ (flft κ qs.0) in let tok₁ = ‵ (flft κs.1.0 qs.1.0) in let tok₂ = ‵ (flft π qs.1.1.0) in let tok₃ = ‵ (flft κs.1.1.1.0 qs.1.1.1.0) in
    let tok₄ = ‵ (flft κs.1.1.1.1.0 qs.1.1.1.1.0) ⊛ ‵ ftrue in
    qed 𝓛 (((tok₀ ⊛ tok₁ ⊛ tok₂ ⊛ tok₃ ⊛ tok₄) ⊛ Self ⊛ ‵ ftrue) ∷ (raw (fact 𝓤 InC) ⊛ raw (fact 𝓤 InP) ⊛ raw (fact 𝓤 InV) ⊛ raw (fact 𝓤 InS) ⊛ ‵ ftrue) ∷ []) ∵
    move ! (1 ∷ []) $ split ! $ heard ! InC (λ inC. split ! $ heard ! InP (λ inP. split ! $ heard ! InV (λ inV. split ! $ heard ! InS (λ inS. drop ! $
    split ! $ split ! $ move ! (2 ∷ []) $ split ! $ move ! (1 ∷ []) $ drop ! $ move ! (2 ∷ []) $ split ! $ move ! (1 ∷ []) $ split ! $
    use1 𝓛 (‵ (flft π left) ⊛ ‵ (flft π right)) (𝓛.lfts.lft_split π qs.1.1.0) $ split ! $
    enter ! _ _ _ _ _ $ alloc_all ! (λ l. pass_all ! refl ((tt, tt), tt) $
    -- [the prefix's token, in halves; the tokens of the value and the stop, of what it goes over; self; its token]
    let none : Val = live 0 vnil in
    use0 𝓛 (‵ (Prefix.own_val None (none ∷ []))) (none_of 𝓛 (param 1 P)) $
    peeks ! Prefix _ (shows 𝓛 Prefix) None (none ∷ []) (λ is_none. let none_ok = ((prefix_laws.lawful 𝓛).typed None (none ∷ []) is_none).0 in
    sets ! (agg ! (and_then ! (lit ! tt) (no_more !))) refl none_ok $
    sets ! (addr ! (through ! refl (stop !))) refl (tt, tt) $ sets ! (addr ! (from ! (stop !))) refl (tt, tt) $
    take_at ! 2 $ use3 𝓛 (later (some (λ (n : ℕ × GName). ‵ ((MutRef (named 1) (n.0 ∷ π) Prefix).own_val (record { ref_ptr = (l 2, 0); ghost_name = n.1; now = None }) (vptr (l 2) 0 ∷ []))
    ⊛ ‵ (flft (n.0 ∷ π) left) ⊛ raw (KeptWithin 𝓛 Prefix refl (named 1) (l 2) π left n)))) (lends_within 𝓛 Prefix refl (named 1) (l 2) π left None none) $
    await ! tt $ pick ! (λ loan. let β = loan.0 ∷ π in split ! $ move ! (1 ∷ []) $ split ! $
    -- [the loan's token; what is kept of it; the loan; half the prefix's token; the other tokens; self; its token]
    let G = triple_of 𝓛 (h.signature C P V S) (h.spec C P V S g c' p' s' 𝓛 𝓜.mem 𝓡.returns) in
    let place : MutBor (Option P.Denot) = record { ref_ptr = (l 2, 0); ghost_name = loan.1; now = None } in
    let z : G.Ghost = (((κ, (β, (κs.1.0, (π, κs.1.1.1)))), (qs.0, (left, (qs.1.0, (right, qs.1.1.1)))), (bounds.0, (meet_⊑_right (loan.0 ∷ []) π, (bounds.1.0, tt))), (m, (place, tt)), (mut_vals m, (mut_vals place, tt))), tt) in
    nothing ! $ move ! (3 ∷ 0 ∷ []) $ join ! $ move ! (6 ∷ 0 ∷ []) $ join ! $
    move ! (3 ∷ 4 ∷ []) $ join ! $ move ! (4 ∷ 0 ∷ []) $ join ! $ move ! (2 ∷ 0 ∷ []) $ join ! $ move ! (3 ∷ 0 ∷ []) $ join ! $ join ! $
    nothing ! $ use0 𝓛 (raw (fact 𝓤 InS)) (given InS inS) $ join ! $ use0 𝓛 (raw (fact 𝓤 InV)) (given InV inV) $ join ! $
    use0 𝓛 (raw (fact 𝓤 InP)) (given InP inP) $ join ! $ use0 𝓛 (raw (fact 𝓤 InC)) (given InC inC) $ join ! $ move ! (1 ∷ 0 ∷ []) $ use2 𝓛 (raw (G.pre z)) (id⊢ 𝓤 _) $
    calls_at ! (framed 𝓤 𝓛.H 𝓜 𝓣) G (h_met 𝓤 𝓛 𝓜 𝓡 (code.calls-prefix_trie_map::map::writing::WalkOf::lend_next 𝓡.env wired) C P V S lC lP lV lS g c' p' s' mC mP mS) z
    (and_then ! (get ! refl) (and_then ! (get ! refl) (no_more !))) (λ u.
    use1 𝓛 (later (some (λ (o : Option (MutBor V.Denot)). ((tok₀ ⊛ ‵ (flft β left) ⊛ tok₁ ⊛ ‵ (flft π right) ⊛ tok₃ ⊛ tok₄) ⊛ ‵ (Found.own_val o (u ∷ [])))
    ⊛ some (λ (es : Unit {0} × (Option P.Denot × Unit {0})). ‵ (lasts (h.ended C P V S g c' p' s') z.0.0 z.0.3 es) ⊛ ‵ (lends o) ⊛ raw (fact 𝓤 (HasFirst IsOver First es.1.0 o)))))) (id⊢ 𝓤 _) $
    await ! tt $ pick ! (λ o. split ! $ split ! $ split ! $ move ! (1 ∷ []) $ split ! $ move ! (1 ∷ []) $ split ! $ move ! (1 ∷ []) $ split ! $
    move ! (6 ∷ []) $ pick ! (λ es. let i = es.1.0 in split ! $ fsplit ! $ drop ! $ fsplit ! $ fsplit ! $
    move ! (7 ∷ 10 ∷ 0 ∷ []) $ use3 𝓛 (later (some (λ (x : Val). ‵ (fat full_share (lone Prefix.mir) (l 2) 0 x) ⊛ ‵ (Prefix.own_val i (x ∷ [])) ⊛ ‵ (flft π left))))
    (back_within 𝓛 Prefix refl (named 1) (l 2) π left loan i) $ await ! tt $ pick ! (λ x. split ! $ give_at ! 2 $ split ! $
    move ! (1 ∷ 5 ∷ []) $ use2 𝓛 tok₂ (𝓛.lfts.lft_join π qs.1.1.0) $ move ! (2 ∷ []) $ drop ! $ move ! (2 ∷ []) $ drop ! $
    move ! (2 ∷ []) $ split ! $ move ! (1 ∷ []) $ heard ! (HasFirst IsOver First i o) (λ first.
    -- [what self follows; the prefix's token; the prefix; the tokens of the value and the stop, of what it goes over, of self; the value lent]
    move ! (6 ∷ []) $ peeks ! Found _ (shows 𝓛 Found) o (u ∷ []) (λ is_found. let found_ok = ((found_laws.lawful 𝓛).typed o (u ∷ []) is_found).0 in
    move ! (3 ∷ []) $ peeks ! Prefix _ (shows 𝓛 Prefix) i (x ∷ []) (λ is_prefix. let prefix_ok = ((prefix_laws.lawful 𝓛).typed i (x ∷ []) is_prefix).0 in
    lands_as ! refl refl found_ok $ sets ! (of_opd ! (get ! refl)) refl prefix_ok $ sets ! (of_opd ! (get ! refl)) refl found_ok $
    let There : Type 0 = IfSome o (λ v. (q : P.Denot) × (i ≡ Some q)) in
    let B = triple_of 𝓛 (b.signature P V) (b.spec P V p' 𝓛 𝓜.mem 𝓡.returns) in
    let t : B.Ghost = (((κ, (π, (κs.1.1.1.0, tt))), (qs.0, (qs.1.1.0, (qs.1.1.1.0, tt))), (bounds.1.0, tt), (i, (o, tt)), (x ∷ [], (u ∷ [], tt))), tt) in
    nothing ! $ move ! (2 ∷ 0 ∷ []) $ join ! $ move ! (1 ∷ 0 ∷ []) $ join ! $ move ! (3 ∷ []) $ split ! $
    nothing ! $ move ! (1 ∷ 0 ∷ []) $ join ! $ move ! (4 ∷ 0 ∷ []) $ join ! $ move ! (5 ∷ 0 ∷ []) $ join ! $ move ! (0 ∷ 2 ∷ []) $ join ! $
    use0 𝓛 (raw (fact 𝓤 There)) (given There (prefix_there IsOver First i o first)) $ use0 𝓛 (raw (fact 𝓤 InV)) (given InV inV) $ join ! $ use0 𝓛 (raw (fact 𝓤 InP)) (given InP inP) $ join ! $
    move ! (1 ∷ 0 ∷ []) $ use2 𝓛 (raw (B.pre t)) (id⊢ 𝓤 _) $
    calls_at ! (framed 𝓤 𝓛.H 𝓜 𝓣) B (b_met 𝓤 𝓛 𝓜 𝓡 (code.calls-prefix_trie_map::map::writing::beside 𝓡.env wired) P V lP lV p' mP) t
    (and_then ! (get ! refl) (and_then ! (get ! refl) (no_more !))) (λ v.
    let Same : Option (P.Denot × MutBor V.Denot) → Type 0 = λ a. lent_beside a ≡ o in
    let Its : Option (P.Denot × MutBor V.Denot) → Type 0 = λ a. IfSome a (λ r. i ≡ Some r.0) in
    let BulkResult : Option (P.Denot × MutBor V.Denot) → Type 0 = λ a. IfSome a (λ r. First r.0 r.1.now) in
    let None_left : Option (P.Denot × MutBor V.Denot) → Type 0 = λ a. IfNone a IsOver in
    use1 𝓛 (later (some (λ (a : Option (P.Denot × MutBor V.Denot)). ((tok₀ ⊛ tok₂ ⊛ tok₃ ⊛ ‵ ftrue) ⊛ ‵ (Shown.own_val a (v ∷ [])))
    ⊛ some (λ (fs : Lasts (b.ended P V p') t.0.0 t.0.3). ‵ (lasts (b.ended P V p') t.0.0 t.0.3 fs) ⊛ raw (fact 𝓤 (Same a)) ⊛ raw (fact 𝓤 (Its a)))))) (id⊢ 𝓤 _) $
    await ! tt $ pick ! (λ a. split ! $ move ! (1 ∷ []) $ pick ! (λ fs. split ! $ drop ! $ split ! $ heard ! (Same a) (λ same. heard ! (Its a) (λ its.
    split ! $ split ! $ move ! (1 ∷ []) $ split ! $ move ! (1 ∷ []) $ split ! $ move ! (1 ∷ []) $ drop ! $
    move ! (0 ∷ 4 ∷ []) $ join ! $ move ! (1 ∷ 0 ∷ []) $ join ! $ move ! (4 ∷ 0 ∷ []) $ join ! $ move ! (1 ∷ 0 ∷ []) $ join ! $
    -- [the tokens; the result; what self follows]
    move ! (1 ∷ []) $ peeks ! Shown _ (shows 𝓛 Shown) a (v ∷ []) (λ is_shown. let shown_ok = ((shown_laws.lawful 𝓛).typed a (v ∷ []) is_shown).0 in
    lands_as ! refl refl shown_ok $ returns ! (look_at ! 0 refl) $ free_all ! refl $
    suffices ! _ (ends_at 𝓛 En hs c y v a (tt, tt) (tt, tt)) $
    nothing ! $ nothing ! $ fjoin ! $ join ! $ move ! (1 ∷ 0 ∷ []) $ join ! $ frame ! $
    rewrite ! 0 (λ (n : Option (MutBor V.Denot)). ‵ (lends n)) (sym same) refl $ frame ! $
    use0 𝓛 (raw (fact 𝓤 (None_left a))) (given (None_left a) (none_beside IsOver First i o a same first)) $
    use0 𝓛 (raw (fact 𝓤 (BulkResult a))) (given (BulkResult a) (first_beside IsOver First i o a same its first)) $ done !)))))))))))))))))))))
