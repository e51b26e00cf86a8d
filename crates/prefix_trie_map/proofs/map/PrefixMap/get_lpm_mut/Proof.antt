-- `get_lpm_mut` lends what `get_lpm_mut_counted` lends. Assumes `Logic`.
use Rattle.prefix_trie_map.proofs.Loans.{◌≡◌, ℕ, Option, [], ◌∷◌, refl, sym, MutBor, proved, Args, named, a_type, dcons, dnil, inst_fn, emp, id⊢, Fml, ftrue, flft, ◌⊑◌, fact, fact_i, tables, ‵, raw, ◌⊛◌, some, later, ◌$◌, ◌∵◌, !, qed, done, move, drop, use0, use1, use2, split, join, fjoin, pick, await, rewrite, suffices, frame, enter, addr, stop, no_more, and_then, returns, alloc_all, pass_all, free_all, look_at, get, through, sets, lands_as, param, copied, bounded, Laws, param_laws, yes, no, RattleType, MutRef, ShrRef, mut_vals, mut_Tells, shr_vals, shr_Tells, plain, mut_ref_to, shr_ref_to, nothing, heard, peeks, shows, Tuple, tuple_laws, calls_at, Lasts, lasts, triple_of, framed, Stays, stay_dropped, walk_of, ends_at, Goes-dropped, Goes-spent_ref, option_laws, Lent, lent_laws}
use Rattle.prefix_trie_map.proofs.Prelude.{subst, longest_match, prefix_pair, lends_longest_if, lent_beside, ReadsPath, lent_item_mut, option_map}
use Rattle.std.specs.contracts.option.Option as option
use Rattle.prefix_trie_map.specs.contracts.map.PrefixMap as map
use Rattle.prefix_trie_map.specs.contracts.map.visits.Visits as visits
use Rattle.prefix_trie_map.proofs.map.visits.Visits.TheLaws.{the_row_laws as visits_laws}
use Rattle.prefix_trie_map.specs.contracts.map.PrefixMap.get_lpm_mut as f
use Rattle.prefix_trie_map.specs.contracts.map.PrefixMap.get_lpm_mut_counted as h
use Rattle.prefix_trie_map.proofs.map.PrefixMap.get_lpm_mut_counted.Met.{met as h_met}
use Rattle.prefix_trie_map.specs.contracts.map.lending.not_counted as b
use Rattle.prefix_trie_map.proofs.map.lending.not_counted.Met.{met as b_met}
use Rattle.prefix_trie_map.proofs.map.PrefixMap.get_lpm_mut.Statement.{statement}
use Rattle.prefix_trie_map.proofs.map.PrefixMap.get_lpm_mut.Code as code

pub get_lpm_mut_spec : {M : Type 1} → statement M
get_lpm_mut_spec 𝓤 𝓛 𝓜 𝓡 wired P T A R lP lT lA lR cR p p' d d' k k' n n' e e' s s' w w' g g' xP xT xA mp md mk mn me ms mw mg gP gT gA =
    let En = f.ended P T A R p p' d d' k k' n n' e e' s s' w w' g g' xP xT xA in
    let c = f.clauses P T A R p p' d d' k k' n n' e e' s s' w w' g g' xP xT xA 𝓛 𝓜.mem 𝓡.returns in
    let args : Args = bounded (a_type ∷ a_type ∷ a_type ∷ a_type ∷ []) (P, (T, (A, (R, tt))))
    (dcons p' (dcons d' (dcons k' (dcons n' (dcons e' (dcons s' (dcons w' (dcons g' (dcons xP (dcons xT (dcons xA dnil))))))))))) in
    let fn = inst_fn args code.function in
    let Map : RattleType = map.the_row (param 0 P) (param 1 T) (param 2 A) (copied 3 R) p d k s w g in
    let 𝓣 = tables 𝓤 𝓛.H 𝓜 𝓡 𝓡.env in
    let hs : Stays En.signature.params En.kept =
    (stay_dropped (mut_ref_to (0 ∷ []) tt (plain (λ _. Map))) no, (stay_dropped (shr_ref_to (1 ∷ []) tt (plain (λ _. param 0 P))) yes, tt)) in
    let W = walk_of 𝓛 En hs c in
    proved 𝓛 En hs c 𝓜 𝓡
    (Goes-spent_ref 𝓛 6 (0 ∷ []) tt (plain (λ _. Map)), (Goes-dropped 𝓛 6 (shr_ref_to (1 ∷ []) tt (plain (λ _. param 0 P))) yes (λ κs x v. refl), tt))
    (f.Key.name args) fn (code.unfolded 𝓤 𝓛.H 𝓜 𝓡 wired (P, (T, (A, (R, tt)))) p' d' k' n' e' s' w' g' xP xT xA)
    (λ κs. (mut_vals, (shr_vals, tt))) (λ κs. (mut_Tells (named 0) κs.0 Map, (shr_Tells (named 1) κs.1.0 (param 0 P), tt))) (λ κs qs bounds xs _ are.
    let m = xs.0 in let q = xs.1.0 in let κ = κs.0 in let path = p.path q.now in
    let y : W.Ghost = ((κs, qs, bounds, xs, (mut_vals m, (shr_vals q, tt))), tt) in
    let V : RattleType = visits.the_row in
    let Beside : RattleType = Tuple (param 0 P ∷ Lent 1 T κ ∷ []) in
    let Found : RattleType = option.the_row Beside in
    let Pair : RattleType = Tuple (Found ∷ V ∷ []) in
    let found_laws : Laws Found = option_laws Beside (tuple_laws (param 0 P ∷ Lent 1 T κ ∷ []) (param_laws 0 P lP, (lent_laws 1 T lT κ, tt))) in
    let Value : Option (P.Denot × MutBor T.Denot) → Type 0 = λ o. option_map lent_item_mut o ≡ prefix_pair p.back (longest_match m.now.entries path) in
    let lends : Option (P.Denot × MutBor T.Denot) → Fml = λ o. lends_longest_if (param 0 P) (param 1 T) (param 2 A) (copied 3 R) p d k s w g m path (lent_beside o) in
    let Self = ‵ ((MutRef (named 0) κ Map).own_val m (mut_vals m)) in
    let Asked = ‵ ((ShrRef (named 1) κs.1.0 (param 0 P)).own_val q (shr_vals q)) in
    let toks₂ = ‵ (flft κs.1.1.1.1.0 qs.1.1.1.1.0) ⊛ ‵ (flft κs.1.1.1.1.1.0 qs.1.1.1.1.1.0) ⊛ ‵ ftrue in
    qed 𝓛 (((‵ (flft κ qs.0) ⊛ ‵ (flft κs.1.0 qs.1.0) ⊛ ‵ (flft κs.1.1.0 qs.1.1.0) ⊛ ‵ (flft κs.1.1.1.0 qs.1.1.1.0) ⊛ toks₂) ⊛ Self ⊛ Asked ⊛ ‵ ftrue)
    ∷ (raw (fact 𝓤 (κs.1.1.0 ⊑ P.lives)) ⊛ raw (fact 𝓤 (κs.1.1.1.0 ⊑ T.lives)) ⊛ raw (fact 𝓤 (κs.1.1.1.1.0 ⊑ A.lives)) ⊛ raw (fact 𝓤 (κs.1.1.1.1.1.0 ⊑ R.lives)) ⊛ raw (fact 𝓤 (p.IsFitting q.now))) ∷ []) ∵
    move ! (1 ∷ []) $ split ! $ heard ! (κs.1.1.0 ⊑ P.lives) (λ inP. split ! $ heard ! (κs.1.1.1.0 ⊑ T.lives) (λ inT. move ! (1 ∷ 0 ∷ []) $
    use0 𝓛 (raw (fact 𝓤 (κs.1.1.1.0 ⊑ T.lives))) (fact_i 𝓤 (κs.1.1.1.0 ⊑ T.lives) (emp 𝓤) inT) $ move ! (0 ∷ 2 ∷ []) $ join ! $
    use0 𝓛 (raw (fact 𝓤 (κs.1.1.0 ⊑ P.lives))) (fact_i 𝓤 (κs.1.1.0 ⊑ P.lives) (emp 𝓤) inP) $ join ! $ move ! (1 ∷ []) $
    enter ! _ _ _ _ _ $ alloc_all ! (λ l. pass_all ! refl ((tt, tt), ((tt, tt), tt)) $
    sets ! (addr ! (through ! refl (stop !))) refl (tt, tt) $
    let G = triple_of 𝓛 (h.signature P T A R p p' d d' k k' n n' e e' s s' w w' g g' xP xT xA) (h.spec P T A R p p' d d' k k' n n' e e' s s' w w' g g' xP xT xA 𝓛 𝓜.mem 𝓡.returns) in
    let z : G.Ghost = y in
    join ! $ use1 𝓛 (raw (G.pre z)) (id⊢ 𝓤 _) $
    calls_at ! (framed 𝓤 𝓛.H 𝓜 𝓣) G (h_met 𝓤 𝓛 𝓜 𝓡 (code.calls-prefix_trie_map::map::PrefixMap::get_lpm_mut_counted 𝓡.env wired) P T A R lP lT lA lR cR p p' d d' k k' n n' e e' s s' w w' g g' xP xT xA mp md mk mn me ms mw mg gP gT gA) z
    (and_then ! (get ! refl) (and_then ! (get ! refl) (no_more !))) (λ v.
    let Read : ℕ → Type 0 = λ j. ReadsPath m.now.nodes path j in
    use1 𝓛 (later (some (λ (o : Option (P.Denot × MutBor T.Denot) × ℕ).
    ((‵ (flft κ qs.0) ⊛ ‵ (flft κs.1.0 qs.1.0) ⊛ ‵ (flft κs.1.1.0 qs.1.1.0) ⊛ ‵ (flft κs.1.1.1.0 qs.1.1.1.0) ⊛ toks₂) ⊛ ‵ (Pair.own_val o (v ∷ [])))
    ⊛ some (λ (es : Unit {0} × (Unit {0} × Unit {0})). ‵ (lasts (h.ended P T A R p p' d d' k k' n n' e e' s s' w w' g g' xP xT xA) z.0.0 z.0.3 es)
    ⊛ ‵ (lends o.0) ⊛ raw (fact 𝓤 (Value o.0)) ⊛ raw (fact 𝓤 (Read o.1)))))) (id⊢ 𝓤 _) $
    await ! tt $ pick ! (λ o. split ! $ move ! (1 ∷ []) $ pick ! (λ es. split ! $ drop ! $ split ! $ move ! (1 ∷ []) $ split ! $ heard ! (Value o.0) (λ value. drop ! $
    -- [what self follows; the tokens and the pair]
    move ! (1 ∷ []) $ split ! $ move ! (1 ∷ []) $ peeks ! Pair _ (shows 𝓛 Pair) o (v ∷ []) (λ is_pair.
    lands_as ! refl refl (((tuple_laws (Found ∷ V ∷ []) (found_laws, (visits_laws, tt))).lawful 𝓛).typed o (v ∷ []) is_pair).0 $
    let B = triple_of 𝓛 (b.signature P T) (b.spec P T 𝓛 𝓜.mem 𝓡.returns) in
    let t : B.Ghost = (((κ, (κs.1.1.0, (κs.1.1.1.0, tt))), (qs.0, (qs.1.1.0, (qs.1.1.1.0, tt))), (bounds.1.0, tt), (o, tt), (v ∷ [], tt)), tt) in
    move ! (1 ∷ []) $ split ! $ move ! (1 ∷ []) $ split ! $ move ! (1 ∷ []) $ split ! $ move ! (1 ∷ []) $ split ! $
    nothing ! $ move ! (1 ∷ 0 ∷ []) $ join ! $ move ! (2 ∷ 0 ∷ []) $ join ! $ move ! (3 ∷ 0 ∷ []) $ join ! $
    nothing ! $ move ! (4 ∷ 0 ∷ []) $ join ! $ move ! (1 ∷ 0 ∷ []) $ join ! $
    nothing ! $ use0 𝓛 (raw (fact 𝓤 (κs.1.1.1.0 ⊑ T.lives))) (fact_i 𝓤 (κs.1.1.1.0 ⊑ T.lives) (emp 𝓤) inT) $ join ! $
    use0 𝓛 (raw (fact 𝓤 (κs.1.1.0 ⊑ P.lives))) (fact_i 𝓤 (κs.1.1.0 ⊑ P.lives) (emp 𝓤) inP) $ join ! $ move ! (1 ∷ 0 ∷ []) $ use2 𝓛 (raw (B.pre t)) (id⊢ 𝓤 _) $
    calls_at ! (framed 𝓤 𝓛.H 𝓜 𝓣) B (b_met 𝓤 𝓛 𝓜 𝓡 (code.calls-prefix_trie_map::map::lending::not_counted 𝓡.env wired) P T lP lT) t (and_then ! (get ! refl) (no_more !)) (λ u.
    use1 𝓛 (later (some (λ (a : Option (P.Denot × MutBor T.Denot)). ((‵ (flft κ qs.0) ⊛ ‵ (flft κs.1.1.0 qs.1.1.0) ⊛ ‵ (flft κs.1.1.1.0 qs.1.1.1.0) ⊛ ‵ ftrue) ⊛ ‵ (Found.own_val a (u ∷ [])))
    ⊛ some (λ (fs : Lasts (b.ended P T) t.0.0 t.0.3). ‵ (lasts (b.ended P T) t.0.0 t.0.3 fs) ⊛ raw (fact 𝓤 (a ≡ o.0)))))) (id⊢ 𝓤 _) $
    await ! tt $ pick ! (λ a. split ! $ move ! (1 ∷ []) $ pick ! (λ fs. split ! $ drop ! $ heard ! (a ≡ o.0) (λ same.
    split ! $ split ! $ move ! (1 ∷ []) $ split ! $ move ! (1 ∷ []) $ split ! $ move ! (1 ∷ []) $ drop ! $
    move ! (0 ∷ 4 ∷ []) $ join ! $ move ! (1 ∷ 0 ∷ []) $ join ! $ move ! (3 ∷ 0 ∷ []) $ join ! $ move ! (1 ∷ 0 ∷ []) $ join ! $
    -- [the tokens; the result; what self follows]
    move ! (1 ∷ []) $ peeks ! Found _ (shows 𝓛 Found) a (u ∷ []) (λ is_found.
    lands_as ! refl refl ((found_laws.lawful 𝓛).typed a (u ∷ []) is_found).0 $ returns ! (look_at ! 0 refl) $ free_all ! refl $
    suffices ! _ (ends_at 𝓛 En hs c y u a (tt, (tt, tt)) (tt, (tt, tt))) $
    nothing ! $ nothing ! $ fjoin ! $ nothing ! $ fjoin ! $ join ! $ move ! (1 ∷ 0 ∷ []) $ join ! $ frame ! $
    rewrite ! 0 (λ (n : Option (P.Denot × MutBor T.Denot)). ‵ (lends n)) (sym same) refl $ frame ! $
    use0 𝓛 (raw (fact 𝓤 (Value a))) (fact_i 𝓤 (Value a) (emp 𝓤) (subst Value (sym same) value)) $ done !))))))))))))))
