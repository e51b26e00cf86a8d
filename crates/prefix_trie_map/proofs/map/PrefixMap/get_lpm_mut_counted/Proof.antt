-- `get_lpm_mut_counted` lends what `lend_longest` lends, beside its prefix. Assumes `Logic`.
use Rattle.prefix_trie_map.proofs.Loans.{◌≡◌, ℕ, ◌+◌, ◌/◌, ◌≤◌, length, IfSome, None, Some, Option, [], ◌∷◌, refl, sym, MutBor, arith, proved, Args, named, a_type, dcons, dnil, Val, vptr, inst_fn, full_share, ent, emp, id⊢, Fml, GName, ftrue, fat, flft, ◌⊑◌, fact, fact_i, tables, ‵, raw, ◌⊛◌, some, later, ◌$◌, ◌∵◌, !, qed, done, move, keep, drop, use0, use1, use2, use3, split, join, fsplit, fjoin, pick, await, rewrite, suffices, frame, agg, enter, of_opd, lit, addr, from, stop, no_more, and_then, returns, alloc_all, pass_all, free_all, look_at, get, through, sets, lands_as, take_at, give_at, param, copied, bounded, Laws, param_laws, yes, no, lone, RattleType, MutRef, ShrRef, mut_vals, mut_Tells, shr_vals, shr_Tells, plain, mut_ref_to, shr_ref_to, nothing, heard, peeks, shows, Tuple, tuple_laws, calls_at, Lasts, lasts, triple_of, framed, Stays, stay_dropped, walk_of, ends_at, Goes-dropped, Goes-spent_ref, option_laws, Lent, lent_laws, KeptWithin, lends_within, back_within, pair_of, pair_val}
use Rattle.prefix_trie_map.proofs.Prelude.{take, w32, lit<, MatchOption, longest_match, prefix_pair, lends_longest_if, lent_beside, ReadsPath, lent_item_mut, option_map}
use mir.Val.{vint}
use denote.Builtin.{u32}
use denote.Plain.{uint_Lawful, uint_Makes}
use denote.Ref.{shr_copy}
use denote.Steps.{owned}
use Rattle.std.specs.contracts.option.Option as option
use Rattle.prefix_trie_bits.specs.Model.Visits.{visits as nodes_read}
use Rattle.prefix_trie_map.specs.contracts.map.PrefixMap as map
use Rattle.prefix_trie_map.specs.contracts.map.visits.Visits as visits
use Rattle.prefix_trie_map.proofs.map.visits.Visits.TheLaws.{the_row_laws as visits_laws}
use Rattle.prefix_trie_map.proofs.Lending.{lent_shown}
use Rattle.prefix_trie_map.specs.contracts.map.visits.Visits.new as new
use Rattle.prefix_trie_map.proofs.map.visits.Visits.new.Met.{met as new_met}
use Rattle.prefix_trie_map.specs.contracts.map.PrefixMap.get_lpm_mut_counted as f
use Rattle.prefix_trie_map.specs.contracts.map.PrefixMap.lend_longest as h
use Rattle.prefix_trie_map.proofs.map.PrefixMap.lend_longest.Met.{met as h_met}
use Rattle.prefix_trie_map.specs.contracts.map.lending.beside as b
use Rattle.prefix_trie_map.proofs.map.lending.beside.Met.{met as b_met}
use Rattle.prefix_trie_map.proofs.map.PrefixMap.get_lpm_mut_counted.Statement.{statement}
use Rattle.prefix_trie_map.proofs.map.PrefixMap.get_lpm_mut_counted.Code as code

pub get_lpm_mut_counted_spec : {M : Type 1} → statement M
get_lpm_mut_counted_spec 𝓤 𝓛 𝓜 𝓡 wired P T A R lP lT lA lR cR p p' d d' k k' n n' e e' s s' w w' g g' xP xT xA mp md mk mn me ms mw mg gP gT gA =
    let En = f.ended P T A R p p' d d' k k' n n' e e' s s' w w' g g' xP xT xA in
    let c = f.clauses P T A R p p' d d' k k' n n' e e' s s' w w' g g' xP xT xA 𝓛 𝓜.mem 𝓡.returns in
    let args : Args = bounded (a_type ∷ a_type ∷ a_type ∷ a_type ∷ []) (P, (T, (A, (R, tt))))
    (dcons p' (dcons d' (dcons k' (dcons n' (dcons e' (dcons s' (dcons w' (dcons g' (dcons xP (dcons xT (dcons xA dnil))))))))))) in
    let fn = inst_fn args code.function in
    let Map : RattleType = map.the_row (param 0 P) (param 1 T) (param 2 A) (copied 3 R) p d k s w g in
    let 𝓣 = tables 𝓤 𝓛.H 𝓜 𝓡 𝓡.env in
    let hs : Stays En.signature.params En.kept =
    (stay_dropped (mut_ref_to (0 ∷ []) tt (plain (λ _. Map))) no, (stay_dropped (shr_ref_to (1 ∷ []) tt (plain (λ _. param 0 P))) yes, tt)) in
    let W = walk_of 𝓛 En hs c in
    proved 𝓛 En hs c 𝓜 𝓡
    (Goes-spent_ref 𝓛 6 (0 ∷ []) tt (plain (λ _. Map)), (Goes-dropped 𝓛 6 (shr_ref_to (1 ∷ []) tt (plain (λ _. param 0 P))) yes (λ κs x v. refl), tt))
    (f.Key.name args) fn (code.unfolded 𝓤 𝓛.H 𝓜 𝓡 wired (P, (T, (A, (R, tt)))) p' d' k' n' e' s' w' g' xP xT xA)
    (λ κs. (mut_vals, (shr_vals, tt))) (λ κs. (mut_Tells (named 0) κs.0 Map, (shr_Tells (named 1) κs.1.0 (param 0 P), tt))) (λ κs qs bounds xs _ are.
    let m = xs.0 in let q = xs.1.0 in let κ = κs.0 in let path = p.path q.now in
    let y : W.Ghost = ((κs, qs, bounds, xs, (mut_vals m, (shr_vals q, tt))), tt) in
    let V : RattleType = visits.the_row in
    let Found : RattleType = option.the_row (Lent 1 T κ) in
    let found_laws : Laws Found = option_laws (Lent 1 T κ) (lent_laws 1 T lT κ) in
    let Beside : RattleType = Tuple (param 0 P ∷ Lent 1 T κ ∷ []) in
    let Shown : RattleType = option.the_row Beside in
    let shown_laws : Laws Shown = option_laws Beside (tuple_laws (param 0 P ∷ Lent 1 T κ ∷ []) (param_laws 0 P lP, (lent_laws 1 T lT κ, tt))) in
    let Pair : RattleType = Tuple (Shown ∷ V ∷ []) in
    let best = longest_match m.now.entries path in
    let lends : Option (MutBor T.Denot) → Fml = λ o. lends_longest_if (param 0 P) (param 1 T) (param 2 A) (copied 3 R) p d k s w g m path o in
    let given : (φ : Type 0) → φ → ent 𝓤 (emp 𝓤) (fact 𝓤 φ) = λ φ x. fact_i 𝓤 φ (emp 𝓤) x in
    let InP : Type 0 = κs.1.1.0 ⊑ P.lives in let InT : Type 0 = κs.1.1.1.0 ⊑ T.lives in let InA : Type 0 = κs.1.1.1.1.0 ⊑ A.lives in let InR : Type 0 = κs.1.1.1.1.1.0 ⊑ R.lives in
    let Fits : Type 0 = p.IsFitting q.now in
    let Self = ‵ ((MutRef (named 0) κ Map).own_val m (mut_vals m)) in
    let Asked = ‵ ((ShrRef (named 1) κs.1.0 (param 0 P)).own_val q (shr_vals q)) in
    let tok₀ = ‵ (flft κ qs.0) in let tok₁ = ‵ (flft κs.1.0 qs.1.0) in let tok₂ = ‵ (flft κs.1.1.0 qs.1.1.0) in let tok₃ = ‵ (flft κs.1.1.1.0 qs.1.1.1.0) in
    let tok₅ = ‵ (flft κs.1.1.1.1.1.0 qs.1.1.1.1.1.0) ⊛ ‵ ftrue in let others = tok₂ ⊛ tok₃ ⊛ ‵ (flft κs.1.1.1.1.0 qs.1.1.1.1.0) ⊛ tok₅ in
    qed 𝓛 (((tok₀ ⊛ tok₁ ⊛ others) ⊛ Self ⊛ Asked ⊛ ‵ ftrue) ∷ (raw (fact 𝓤 InP) ⊛ raw (fact 𝓤 InT) ⊛ raw (fact 𝓤 InA) ⊛ raw (fact 𝓤 InR) ⊛ raw (fact 𝓤 Fits)) ∷ []) ∵
    move ! (1 ∷ []) $ split ! $ heard ! InP (λ inP. split ! $ heard ! InT (λ inT. split ! $ heard ! InA (λ inA. split ! $ heard ! InR (λ inR. heard ! Fits (λ fits.
    split ! $ split ! $ move ! (1 ∷ []) $ split ! $ move ! (3 ∷ []) $ split ! $ move ! (1 ∷ []) $ split ! $ keep ! (2 ∷ 0 ∷ 5 ∷ 3 ∷ 4 ∷ []) $
    move ! (1 ∷ []) $ use1 𝓛 (Asked ⊛ Asked) ((shr_copy 𝓛 (named 1) κs.1.0 (param 0 P) (param_laws 0 P lP).shr_laws).twice q (shr_vals q)) $ split ! $
    enter ! _ _ _ _ _ $ alloc_all ! (λ l. pass_all ! refl ((tt, tt), ((tt, tt), tt)) $
    -- [prefix, twice; self; the tokens of self, of prefix, and of the type parameters]
    let G₀ = triple_of 𝓛 new.signature (new.spec 𝓛 𝓜.mem 𝓡.returns) in
    let z₀ : G₀.Ghost = ((tt, tt, tt, tt, tt), tt) in
    nothing ! $ nothing ! $ nothing ! $ join ! $ use2 𝓛 (raw (G₀.pre z₀)) (id⊢ 𝓤 _) $
    calls_at ! (framed 𝓤 𝓛.H 𝓜 𝓣) G₀ (new_met 𝓤 𝓛 𝓜 𝓡 (code.calls-prefix_trie_map::map::visits::Visits::new 𝓡.env wired)) z₀ (no_more !) (λ v.
    use1 𝓛 (later (some (λ (r : ℕ). (‵ ftrue ⊛ ‵ (V.own_val r (v ∷ []))) ⊛ some (λ (ws : Unit {0}). ‵ (lasts new.ended z₀.0.0 z₀.0.3 ws) ⊛ raw (fact 𝓤 (r ≡ 0)))))) (id⊢ 𝓤 _) $
    await ! tt $ pick ! (λ r. split ! $ split ! $ drop ! $ move ! (1 ∷ []) $ pick ! (λ ws. split ! $ drop ! $ heard ! (r ≡ 0) (λ none.
    peeks ! V _ (shows 𝓛 V) r (v ∷ []) (λ is. let ok = ((visits_laws.lawful 𝓛).typed r (v ∷ []) is).0 in
    lands_as ! refl refl ok $ sets ! (of_opd ! (get ! refl)) refl ok $ sets ! (of_opd ! (lit ! tt)) refl (tt, record { fits = lit< tt }) $
    sets ! (addr ! (through ! refl (stop !))) refl (tt, tt) $ sets ! (addr ! (from ! (stop !))) refl (tt, tt) $ sets ! (addr ! (from ! (stop !))) refl (tt, tt) $
    take_at ! 3 $ use0 𝓛 (‵ (flft [] full_share)) (𝓛.lfts.lft-nil full_share) $ move ! (1 ∷ 2 ∷ 0 ∷ []) $ use3 𝓛 (later (some (λ (n : ℕ × GName). ‵ ((MutRef (named 3) (n.0 ∷ []) V).own_val (record { ref_ptr = (l 3, 0); ghost_name = n.1; now = r }) (vptr (l 3) 0 ∷ []))
    ⊛ ‵ (flft (n.0 ∷ []) full_share) ⊛ raw (KeptWithin 𝓛 V refl (named 3) (l 3) [] full_share n)))) (lends_within 𝓛 V refl (named 3) (l 3) [] full_share r v) $
    await ! tt $ pick ! (λ loan. let β = loan.0 in split ! $ move ! (1 ∷ []) $ split ! $
    owned ! u32 _ (uint_Makes 𝓛 w32) 0 _ (refl, lit< tt) $
    take_at ! 4 $ use0 𝓛 (‵ (flft [] full_share)) (𝓛.lfts.lft-nil full_share) $ move ! (1 ∷ 2 ∷ 0 ∷ []) $ use3 𝓛 (later (some (λ (n : ℕ × GName). ‵ ((MutRef (named 2) (n.0 ∷ []) u32).own_val (record { ref_ptr = (l 4, 0); ghost_name = n.1; now = 0 }) (vptr (l 4) 0 ∷ []))
    ⊛ ‵ (flft (n.0 ∷ []) full_share) ⊛ raw (KeptWithin 𝓛 u32 refl (named 2) (l 4) [] full_share n)))) (lends_within 𝓛 u32 refl (named 2) (l 4) [] full_share 0 (vint w32 0)) $
    await ! tt $ pick ! (λ other. let α = other.0 in split ! $ move ! (1 ∷ []) $ split ! $
    -- [the token of `found`, its return, the loan; the counter's likewise; prefix, twice; self; the
    -- tokens]
    let G = triple_of 𝓛 (h.signature P T A R p p' d d' k k' n n' e e' s s' w w' g g' xP xT xA) (h.spec P T A R p p' d d' k k' n n' e e' s s' w w' g g' xP xT xA 𝓛 𝓜.mem 𝓡.returns) in
    let counter : MutBor ℕ = record { ref_ptr = (l 3, 0); ghost_name = loan.1; now = r } in let found : MutBor ℕ = record { ref_ptr = (l 4, 0); ghost_name = other.1; now = 0 } in
    let z : G.Ghost = (((κ, (κs.1.0, (α ∷ [], (β ∷ [], κs.1.1)))), (qs.0, (qs.1.0, (full_share, (full_share, qs.1.1)))), bounds, (m, (q, (found, (counter, tt)))), (mut_vals m, (shr_vals q, (mut_vals found, (mut_vals counter, tt))))), tt) in
    nothing ! $ move ! (6 ∷ 0 ∷ []) $ join ! $ move ! (3 ∷ 0 ∷ []) $ join ! $ move ! (5 ∷ 0 ∷ []) $ join ! $ move ! (6 ∷ 0 ∷ []) $ join ! $
    move ! (3 ∷ 8 ∷ []) $ join ! $ move ! (2 ∷ 0 ∷ []) $ join ! $ move ! (6 ∷ 0 ∷ []) $ join ! $ move ! (5 ∷ 0 ∷ []) $ join ! $ join ! $
    use0 𝓛 (raw (fact 𝓤 Fits)) (given Fits fits) $ use0 𝓛 (raw (fact 𝓤 InR)) (given InR inR) $ join ! $ use0 𝓛 (raw (fact 𝓤 InA)) (given InA inA) $ join ! $
    use0 𝓛 (raw (fact 𝓤 InT)) (given InT inT) $ join ! $ use0 𝓛 (raw (fact 𝓤 InP)) (given InP inP) $ join ! $ move ! (1 ∷ 0 ∷ []) $ use2 𝓛 (raw (G.pre z)) (id⊢ 𝓤 _) $
    calls_at ! (framed 𝓤 𝓛.H 𝓜 𝓣) G (h_met 𝓤 𝓛 𝓜 𝓡 (code.calls-prefix_trie_map::map::PrefixMap::lend_longest 𝓡.env wired) P T A R lP lT lA lR cR p p' d d' k k' n n' e e' s s' w w' g g' xP xT xA mp md mk mn me ms mw mg gP gT gA) z
    (and_then ! (get ! refl) (and_then ! (get ! refl) (and_then ! (get ! refl) (and_then ! (get ! refl) (no_more !))))) (λ u.
    let Value : ℕ → Option (MutBor T.Denot) → Type 0 = λ i o. MatchOption o (best ≡ None) (λ value. best ≡ Some (take i path, value.now)) in
    let Within : ℕ → Option (MutBor T.Denot) → Type 0 = λ i o. IfSome o (λ value. i ≤ length (p.path q.now)) in
    let Exact : ℕ → Type 0 = λ j. j ≡ r + nodes_read m.now.nodes path in
    let Bound : ℕ → Type 0 = λ j. j ≤ r + (length path / 5 + 1) in
    use1 𝓛 (later (some (λ (o : Option (MutBor T.Denot)). ((tok₀ ⊛ tok₁ ⊛ ‵ (flft (α ∷ []) full_share) ⊛ ‵ (flft (β ∷ []) full_share) ⊛ others) ⊛ ‵ (Found.own_val o (u ∷ [])))
    ⊛ some (λ (es : Unit {0} × (Unit {0} × (ℕ × (ℕ × Unit {0})))). ‵ (lasts (h.ended P T A R p p' d d' k k' n n' e e' s s' w w' g g' xP xT xA) z.0.0 z.0.3 es)
    ⊛ ‵ (lends o) ⊛ raw (fact 𝓤 (Value es.1.1.0 o)) ⊛ raw (fact 𝓤 (Within es.1.1.0 o)) ⊛ raw (fact 𝓤 (Exact es.1.1.1.0)) ⊛ raw (fact 𝓤 (Bound es.1.1.1.0)))))) (id⊢ 𝓤 _) $
    await ! tt $ pick ! (λ o. split ! $ split ! $ split ! $ move ! (1 ∷ []) $ split ! $ move ! (1 ∷ []) $ split ! $ move ! (1 ∷ []) $ split ! $
    move ! (6 ∷ []) $ pick ! (λ es. let i = es.1.1.0 in let j = es.1.1.1.0 in split ! $ fsplit ! $ drop ! $ fsplit ! $ drop ! $ fsplit ! $ fsplit ! $ move ! (2 ∷ []) $ fsplit ! $ fsplit ! $
    move ! (6 ∷ 13 ∷ 0 ∷ []) $ use3 𝓛 (later (some (λ (x : Val). ‵ (fat full_share (lone V.mir) (l 3) 0 x) ⊛ ‵ (V.own_val j (x ∷ [])) ⊛ ‵ (flft [] full_share)))) (back_within 𝓛 V refl (named 3) (l 3) [] full_share loan j) $
    await ! tt $ pick ! (λ x. split ! $ give_at ! 3 $ split ! $ move ! (1 ∷ []) $ drop ! $
    move ! (7 ∷ 11 ∷ 3 ∷ []) $ use3 𝓛 (later (some (λ (x : Val). ‵ (fat full_share (lone u32.mir) (l 4) 0 x) ⊛ ‵ (u32.own_val i (x ∷ [])) ⊛ ‵ (flft [] full_share)))) (back_within 𝓛 u32 refl (named 2) (l 4) [] full_share other i) $
    await ! tt $ pick ! (λ length_val. split ! $ give_at ! 4 $ split ! $ move ! (1 ∷ []) $ drop ! $
    move ! (2 ∷ []) $ drop ! $ move ! (2 ∷ []) $ drop ! $ move ! (2 ∷ []) $ drop ! $ move ! (2 ∷ []) $ split ! $ move ! (1 ∷ []) $ split ! $ heard ! (Value i o) (λ value.
    split ! $ heard ! (Within i o) (λ within. split ! $ heard ! (Exact j) (λ exact. heard ! (Bound j) (λ bound.
    -- [what self follows; the length; the counter; the tokens of the type parameters, of prefix and of self; the value lent; prefix]
    move ! (6 ∷ []) $ peeks ! Found _ (shows 𝓛 Found) o (u ∷ []) (λ is_found. let found_ok = ((found_laws.lawful 𝓛).typed o (u ∷ []) is_found).0 in
    move ! (3 ∷ []) $ peeks ! V _ (shows 𝓛 V) j (x ∷ []) (λ is_count. let count_ok = ((visits_laws.lawful 𝓛).typed j (x ∷ []) is_count).0 in
    move ! (3 ∷ []) $ peeks ! u32 _ (shows 𝓛 u32) i (length_val ∷ []) (λ is_length. let length_ok = ((uint_Lawful 𝓛 w32).typed i (length_val ∷ []) is_length).0 in
    lands_as ! refl refl found_ok $ sets ! (of_opd ! (get ! refl)) refl found_ok $ sets ! (of_opd ! (get ! refl)) refl length_ok $
    let B = triple_of 𝓛 (b.signature P T R) (b.spec P T R p p' d d' k k' n n' e e' s s' w w' xP 𝓛 𝓜.mem 𝓡.returns) in
    let t : B.Ghost = (((κ, (κs.1.0, (κs.1.1.0, (κs.1.1.1.0, (κs.1.1.1.1.1.0, tt))))), (qs.0, (qs.1.0, (qs.1.1.0, (qs.1.1.1.0, (qs.1.1.1.1.1.0, tt))))), (bounds.1.0, (bounds.1.1.1.0, tt)), (o, (q, (i, tt))), (u ∷ [], (shr_vals q, (length_val ∷ [], tt)))), tt) in
    nothing ! $ move ! (1 ∷ 0 ∷ []) $ join ! $ move ! (7 ∷ 0 ∷ []) $ join ! $ move ! (2 ∷ 0 ∷ []) $ join ! $
    move ! (3 ∷ []) $ split ! $ move ! (1 ∷ []) $ split ! $ move ! (1 ∷ []) $ split ! $ move ! (1 ∷ []) $
    move ! (2 ∷ 0 ∷ []) $ join ! $ move ! (2 ∷ 0 ∷ []) $ join ! $ move ! (5 ∷ 0 ∷ []) $ join ! $ move ! (5 ∷ 0 ∷ []) $ join ! $ move ! (0 ∷ 2 ∷ []) $ join ! $
    use0 𝓛 (raw (fact 𝓤 (Within i o))) (given (Within i o) within) $ use0 𝓛 (raw (fact 𝓤 Fits)) (given Fits fits) $ join ! $ use0 𝓛 (raw (fact 𝓤 InR)) (given InR inR) $ join ! $
    use0 𝓛 (raw (fact 𝓤 InT)) (given InT inT) $ join ! $ use0 𝓛 (raw (fact 𝓤 InP)) (given InP inP) $ join ! $ move ! (1 ∷ 0 ∷ []) $ use2 𝓛 (raw (B.pre t)) (id⊢ 𝓤 _) $
    calls_at ! (framed 𝓤 𝓛.H 𝓜 𝓣) B (b_met 𝓤 𝓛 𝓜 𝓡 (code.calls-prefix_trie_map::map::lending::beside 𝓡.env wired) P T R lP lT lR cR p p' d d' k k' n n' e e' s s' w w' xP mp md mk mn me ms mw gP) t
    (and_then ! (get ! refl) (and_then ! (get ! refl) (and_then ! (get ! refl) (no_more !)))) (λ v₂.
    let Same : Option (P.Denot × MutBor T.Denot) → Type 0 = λ a. lent_beside a ≡ o in
    let Back : Option (P.Denot × MutBor T.Denot) → Type 0 = λ a. IfSome a (λ f. f.0 ≡ p.back (take i path)) in
    let BulkResult : Option (P.Denot × MutBor T.Denot) → Type 0 = λ a. option_map lent_item_mut a ≡ prefix_pair p.back best in
    use1 𝓛 (later (some (λ (a : Option (P.Denot × MutBor T.Denot)). ((tok₀ ⊛ tok₁ ⊛ tok₂ ⊛ tok₃ ⊛ tok₅) ⊛ ‵ (Shown.own_val a (v₂ ∷ [])))
    ⊛ some (λ (fs : Lasts (b.ended P T R p p' d d' k k' n n' e e' s s' w w' xP) t.0.0 t.0.3). ‵ (lasts (b.ended P T R p p' d d' k k' n n' e e' s s' w w' xP) t.0.0 t.0.3 fs) ⊛ raw (fact 𝓤 (Same a)) ⊛ raw (fact 𝓤 (Back a)))))) (id⊢ 𝓤 _) $
    await ! tt $ pick ! (λ a. split ! $ move ! (1 ∷ []) $ pick ! (λ fs. split ! $ drop ! $ split ! $ heard ! (Same a) (λ same. heard ! (Back a) (λ back.
    split ! $ split ! $ move ! (1 ∷ []) $ split ! $ move ! (1 ∷ []) $ split ! $ move ! (1 ∷ []) $ split ! $
    move ! (6 ∷ 1 ∷ []) $ join ! $ move ! (1 ∷ 0 ∷ []) $ join ! $ move ! (1 ∷ 0 ∷ []) $ join ! $ move ! (1 ∷ 0 ∷ []) $ join ! $ move ! (1 ∷ 0 ∷ []) $ join ! $
    -- [the tokens; the result; the counter; what self follows]
    move ! (1 ∷ []) $ peeks ! Shown _ (shows 𝓛 Shown) a (v₂ ∷ []) (λ is_shown. let shown_ok = ((shown_laws.lawful 𝓛).typed a (v₂ ∷ []) is_shown).0 in
    lands_as ! refl refl shown_ok $ sets ! (of_opd ! (get ! refl)) refl count_ok $
    move ! (0 ∷ 2 ∷ []) $ use2 𝓛 (‵ (Pair.own_val (a, j) (pair_val v₂ x ∷ []))) (pair_of 𝓛 Shown V a j v₂ x) $
    peeks ! Pair _ (shows 𝓛 Pair) (a, j) (pair_val v₂ x ∷ []) (λ is_pair.
    let pair_ok = (((tuple_laws (Shown ∷ V ∷ []) (shown_laws, (visits_laws, tt))).lawful 𝓛).typed (a, j) (pair_val v₂ x ∷ []) is_pair).0 in
    sets ! (agg ! (and_then ! (get ! refl) (and_then ! (get ! refl) (no_more !)))) refl pair_ok $
    returns ! (look_at ! 0 refl) $ free_all ! refl $
    let Read : Type 0 = ReadsPath m.now.nodes path j in
    suffices ! _ (ends_at 𝓛 En hs c y (pair_val v₂ x) (a, j) (tt, (tt, tt)) (tt, (tt, tt))) $
    nothing ! $ nothing ! $ fjoin ! $ nothing ! $ fjoin ! $ join ! $ move ! (1 ∷ 0 ∷ []) $ join ! $ frame ! $
    rewrite ! 0 (λ (n : Option (MutBor T.Denot)). ‵ (lends n)) (sym same) refl $ frame ! $
    use0 𝓛 (raw (fact 𝓤 Read)) (given Read (record { exact = omega (arith, none, exact); bound = omega (arith, none, bound) })) $
    use0 𝓛 (raw (fact 𝓤 (BulkResult a))) (given (BulkResult a) (lent_shown p.back best (take i path) o a same back value)) $ done !)))))))))))))))))))))))))))))))))
