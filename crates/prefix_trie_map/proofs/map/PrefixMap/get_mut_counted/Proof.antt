-- `get_mut_counted` lends what `lend_entry` lends. Assumes `Logic`.
use Rattle.prefix_trie_map.proofs.Loans.{◌≡◌, ℕ, ◌+◌, ◌/◌, ◌≤◌, length, Option, [], ◌∷◌, refl, MutBor, arith, proved, Args, named, a_type, dcons, dnil, Val, vptr, inst_fn, full_share, emp, id⊢, Fml, GName, ftrue, fat, flft, fact, fact_i, tables, ‵, raw, ◌⊛◌, some, later, ◌$◌, ◌∵◌, !, qed, done, move, keep, drop, use0, use1, use2, use3, split, join, fsplit, fjoin, pick, await, suffices, frame, agg, enter, of_opd, addr, from, stop, no_more, and_then, returns, alloc_all, pass_all, free_all, look_at, get, through, sets, lands_as, take_at, give_at, param, copied, bounded, Laws, yes, no, lone, RattleType, MutRef, ShrRef, mut_vals, mut_Tells, shr_vals, shr_Tells, plain, mut_ref_to, shr_ref_to, nothing, heard, peeks, shows, Tuple, tuple_laws, calls_at, lasts, triple_of, framed, Stays, stay_dropped, walk_of, ends_at, Goes-dropped, Goes-spent_ref, option_laws, Lent, lent_laws, KeptWithin, lends_within, back_within, pair_of, pair_val}
use Rattle.std.specs.contracts.option.Option as option
use Rattle.prefix_trie_map.proofs.Prelude.{option_copied_mut, lends_entry_if, ReadsPath}
use Rattle.std.specs.FinMap.{get as lookup}
use Rattle.prefix_trie_bits.specs.Model.Visits.{visits as nodes_read}
use Rattle.prefix_trie_map.specs.contracts.map.PrefixMap as map
use Rattle.prefix_trie_map.specs.contracts.map.visits.Visits as visits
use Rattle.prefix_trie_map.specs.contracts.map.PrefixMap.get_mut_counted as f
use Rattle.prefix_trie_map.proofs.map.visits.Visits.TheLaws.{the_row_laws as visits_laws}
use Rattle.prefix_trie_map.specs.contracts.map.visits.Visits.new as new
use Rattle.prefix_trie_map.proofs.map.visits.Visits.new.Met.{met as new_met}
use Rattle.prefix_trie_map.specs.contracts.map.PrefixMap.lend_entry as h
use Rattle.prefix_trie_map.proofs.map.PrefixMap.lend_entry.Met.{met as h_met}
use Rattle.prefix_trie_map.proofs.map.PrefixMap.get_mut_counted.Statement.{statement}
use Rattle.prefix_trie_map.proofs.map.PrefixMap.get_mut_counted.Code as code

pub get_mut_counted_spec : {M : Type 1} → statement M
get_mut_counted_spec 𝓤 𝓛 𝓜 𝓡 wired P T A R lP lT lA lR cR p p' d d' k k' n n' e e' s s' w w' g g' xP xT xA mp md mk mn me ms mw mg gP gT gA =
    let En = f.ended P T A R p p' d d' k k' n n' e e' s s' w w' g g' xP xT xA in
    let c = f.clauses P T A R p p' d d' k k' n n' e e' s s' w w' g g' xP xT xA 𝓛 𝓜.mem 𝓡.returns in
    let args : Args = bounded (a_type ∷ a_type ∷ a_type ∷ a_type ∷ []) (P, (T, (A, (R, tt))))
    (dcons p' (dcons d' (dcons k' (dcons n' (dcons e' (dcons s' (dcons w' (dcons g' (dcons xP (dcons xT (dcons xA dnil))))))))))) in
    let fn = inst_fn args code.function in
    let Map : RattleType = map.the_row (param 0 P) (param 1 T) (param 2 A) (copied 3 R) p d k s w g in
    let 𝓣 = tables 𝓤 𝓛.H 𝓜 𝓡 𝓡.env in
    let hs : Stays En.signature.params En.kept =
    (stay_dropped (mut_ref_to (0 ∷ []) tt (plain (λ _. Map))) no, (stay_dropped (shr_ref_to (1 ∷ []) tt (plain (λ _. param 0 P))) yes, tt)) in
    let W = walk_of 𝓛 En hs c in
    proved 𝓛 En hs c 𝓜 𝓡
    (Goes-spent_ref 𝓛 6 (0 ∷ []) tt (plain (λ _. Map)), (Goes-dropped 𝓛 6 (shr_ref_to (1 ∷ []) tt (plain (λ _. param 0 P))) yes (λ κs x v. refl), tt))
    (f.Key.name args) fn (code.unfolded 𝓤 𝓛.H 𝓜 𝓡 wired (P, (T, (A, (R, tt)))) p' d' k' n' e' s' w' g' xP xT xA)
    (λ κs. (mut_vals, (shr_vals, tt))) (λ κs. (mut_Tells (named 0) κs.0 Map, (shr_Tells (named 1) κs.1.0 (param 0 P), tt))) (λ κs qs bounds xs _ are.
    let m = xs.0 in let q = xs.1.0 in
    let y : W.Ghost = ((κs, qs, bounds, xs, (mut_vals m, (shr_vals q, tt))), tt) in
    let κ = κs.0 in
    let V : RattleType = visits.the_row in
    let Self = ‵ ((MutRef (named 0) κ Map).own_val m (mut_vals m)) in
    let Asked = ‵ ((ShrRef (named 1) κs.1.0 (param 0 P)).own_val q (shr_vals q)) in
    let others = ‵ (flft κs.1.1.0 qs.1.1.0) ⊛ ‵ (flft κs.1.1.1.0 qs.1.1.1.0) ⊛ ‵ (flft κs.1.1.1.1.0 qs.1.1.1.1.0) ⊛ ‵ (flft κs.1.1.1.1.1.0 qs.1.1.1.1.1.0) ⊛ ‵ ftrue in
    qed 𝓛 (((‵ (flft κ qs.0) ⊛ ‵ (flft κs.1.0 qs.1.0) ⊛ others) ⊛ Self ⊛ Asked ⊛ ‵ ftrue) ∷ raw ((c κs xs).requires tt) ∷ []) ∵
    split ! $ split ! $ move ! (1 ∷ []) $ split ! $ move ! (3 ∷ []) $ split ! $ move ! (1 ∷ []) $ split ! $ keep ! (2 ∷ 0 ∷ 5 ∷ 3 ∷ 4 ∷ 6 ∷ []) $
    enter ! _ _ _ _ _ $ alloc_all ! (λ l. pass_all ! refl ((tt, tt), ((tt, tt), tt)) $
    -- [self; prefix; the tokens of self, of prefix, and of the type parameters; what is required]
    let G₀ = triple_of 𝓛 new.signature (new.spec 𝓛 𝓜.mem 𝓡.returns) in
    let z₀ : G₀.Ghost = ((tt, tt, tt, tt, tt), tt) in
    nothing ! $ nothing ! $ nothing ! $ join ! $ use2 𝓛 (raw (G₀.pre z₀)) (id⊢ 𝓤 _) $
    calls_at ! (framed 𝓤 𝓛.H 𝓜 𝓣) G₀ (new_met 𝓤 𝓛 𝓜 𝓡 (code.calls-prefix_trie_map::map::visits::Visits::new 𝓡.env wired)) z₀ (no_more !) (λ v.
    use1 𝓛 (later (some (λ (r : ℕ). (‵ ftrue ⊛ ‵ (V.own_val r (v ∷ []))) ⊛ some (λ (ws : Unit {0}). ‵ (lasts new.ended z₀.0.0 z₀.0.3 ws) ⊛ raw (fact 𝓤 (r ≡ 0)))))) (id⊢ 𝓤 _) $
    await ! tt $ pick ! (λ r. split ! $ split ! $ drop ! $ move ! (1 ∷ []) $ pick ! (λ ws. split ! $ drop ! $ heard ! (r ≡ 0) (λ none.
    peeks ! V _ (shows 𝓛 V) r (v ∷ []) (λ is. let ok = ((visits_laws.lawful 𝓛).typed r (v ∷ []) is).0 in
    lands_as ! refl refl ok $ sets ! (of_opd ! (get ! refl)) refl ok $
    sets ! (addr ! (through ! refl (stop !))) refl (tt, tt) $
    sets ! (addr ! (from ! (stop !))) refl (tt, tt) $
    take_at ! 3 $ use0 𝓛 (‵ (flft [] full_share)) (𝓛.lfts.lft-nil full_share) $ move ! (1 ∷ 2 ∷ 0 ∷ []) $ use3 𝓛 (later (some (λ (n : ℕ × GName). ‵ ((MutRef (named 2) (n.0 ∷ []) V).own_val (record { ref_ptr = (l 3, 0); ghost_name = n.1; now = r }) (vptr (l 3) 0 ∷ []))
    ⊛ ‵ (flft (n.0 ∷ []) full_share) ⊛ raw (KeptWithin 𝓛 V refl (named 2) (l 3) [] full_share n)))) (lends_within 𝓛 V refl (named 2) (l 3) [] full_share r v) $
    await ! tt $ pick ! (λ loan. let α = loan.0 in let γ = loan.1 in split ! $ move ! (1 ∷ []) $ split ! $ move ! (2 ∷ 1 ∷ []) $
    -- [the counter; its return; its token; self; prefix; the tokens of self, of prefix, and of the
    -- type parameters; what is required]
    let G = triple_of 𝓛 (h.signature P T A R p p' d d' k k' n n' e e' s s' w w' g g' xP xT xA) (h.spec P T A R p p' d d' k k' n n' e e' s s' w w' g g' xP xT xA 𝓛 𝓜.mem 𝓡.returns) in
    let counter : MutBor ℕ = record { ref_ptr = (l 3, 0); ghost_name = γ; now = r } in
    let z : G.Ghost = (((κ, (κs.1.0, (α ∷ [], κs.1.1))), (qs.0, (qs.1.0, (full_share, qs.1.1))), bounds, (m, (q, (counter, tt))), (mut_vals m, (shr_vals q, (mut_vals counter, tt)))), tt) in
    nothing ! $ move ! (1 ∷ 0 ∷ []) $ join ! $ move ! (4 ∷ 0 ∷ []) $ join ! $ move ! (3 ∷ 0 ∷ []) $ join ! $
    move ! (2 ∷ 5 ∷ []) $ join ! $ move ! (4 ∷ 0 ∷ []) $ join ! $ move ! (3 ∷ 0 ∷ []) $ join ! $ join ! $
    move ! (0 ∷ 2 ∷ []) $ use2 𝓛 (raw (G.pre z)) (id⊢ 𝓤 _) $
    calls_at ! (framed 𝓤 𝓛.H 𝓜 𝓣) G (h_met 𝓤 𝓛 𝓜 𝓡 (code.calls-prefix_trie_map::map::PrefixMap::lend_entry 𝓡.env wired) P T A R lP lT lA lR cR p p' d d' k k' n n' e e' s s' w w' g g' xP xT xA mp md mk mn me ms mw mg gP gT gA) z
    (and_then ! (get ! refl) (and_then ! (get ! refl) (and_then ! (get ! refl) (no_more !)))) (λ u.
    let Found : RattleType = option.the_row (Lent 1 T κ) in
    let found_laws : Laws Found = option_laws (Lent 1 T κ) (lent_laws 1 T lT κ) in
    let path = p.path q.now in
    let Value : Option (MutBor T.Denot) → Type 0 = λ o. option_copied_mut o ≡ lookup m.now.entries path in
    let Exact : ℕ → Type 0 = λ j. j ≡ r + nodes_read m.now.nodes path in
    let Bound : ℕ → Type 0 = λ j. j ≤ r + (length path / 5 + 1) in
    let lends : Option (MutBor T.Denot) → Fml = lends_entry_if (param 0 P) (param 1 T) (param 2 A) (copied 3 R) p d k s w g m path in
    use1 𝓛 (later (some (λ (o : Option (MutBor T.Denot)). ((‵ (flft κ qs.0) ⊛ ‵ (flft κs.1.0 qs.1.0) ⊛ ‵ (flft (α ∷ []) full_share) ⊛ others) ⊛ ‵ (Found.own_val o (u ∷ [])))
    ⊛ some (λ (es : Unit {0} × (Unit {0} × (ℕ × Unit {0}))). ‵ (lasts (h.ended P T A R p p' d d' k k' n n' e e' s s' w w' g g' xP xT xA) z.0.0 z.0.3 es)
    ⊛ ‵ (lends o) ⊛ raw (fact 𝓤 (Value o)) ⊛ raw (fact 𝓤 (Exact es.1.1.0)) ⊛ raw (fact 𝓤 (Bound es.1.1.0)))))) (id⊢ 𝓤 _) $
    await ! tt $ pick ! (λ o. split ! $ split ! $ split ! $ move ! (1 ∷ []) $ split ! $ move ! (1 ∷ []) $ split ! $
    -- [the counter's token; the tokens of the type parameters, of prefix and of self; the value
    -- lent; what is ensured; the counter's return]
    move ! (5 ∷ []) $ pick ! (λ es. let j = es.1.1.0 in split ! $ fsplit ! $ drop ! $ fsplit ! $ drop ! $ fsplit ! $ fsplit ! $
    move ! (4 ∷ 9 ∷ 0 ∷ []) $ use3 𝓛 (later (some (λ (x : Val). ‵ (fat full_share (lone V.mir) (l 3) 0 x) ⊛ ‵ (V.own_val j (x ∷ [])) ⊛ ‵ (flft [] full_share)))) (back_within 𝓛 V refl (named 2) (l 3) [] full_share loan j) $
    await ! tt $ pick ! (λ x. split ! $ give_at ! 3 $ split ! $ move ! (1 ∷ []) $ drop ! $
    move ! (1 ∷ []) $ drop ! $ move ! (1 ∷ []) $ drop ! $ move ! (1 ∷ []) $ split ! $ move ! (1 ∷ []) $ split ! $ heard ! (Value o) (λ value. split ! $ heard ! (Exact j) (λ exact. heard ! (Bound j) (λ bound.
    -- [what self follows; the counter; the tokens of the type parameters, of prefix and of self; the value lent]
    let Pair : RattleType = Tuple (Found ∷ V ∷ []) in
    let Read : Type 0 = ReadsPath m.now.nodes path j in
    move ! (5 ∷ []) $ peeks ! Found _ (shows 𝓛 Found) o (u ∷ []) (λ is_found. let found_ok = ((found_laws.lawful 𝓛).typed o (u ∷ []) is_found).0 in
    move ! (2 ∷ []) $ peeks ! V _ (shows 𝓛 V) j (x ∷ []) (λ is_count. let count_ok = ((visits_laws.lawful 𝓛).typed j (x ∷ []) is_count).0 in
    lands_as ! refl refl found_ok $ sets ! (of_opd ! (get ! refl)) refl found_ok $ sets ! (of_opd ! (get ! refl)) refl count_ok $
    move ! (1 ∷ 0 ∷ []) $ use2 𝓛 (‵ (Pair.own_val (o, j) (pair_val u x ∷ []))) (pair_of 𝓛 Found V o j u x) $
    peeks ! Pair _ (shows 𝓛 Pair) (o, j) (pair_val u x ∷ []) (λ is_pair.
    let pair_ok = (((tuple_laws (Found ∷ V ∷ []) (found_laws, (visits_laws, tt))).lawful 𝓛).typed (o, j) (pair_val u x ∷ []) is_pair).0 in
    sets ! (agg ! (and_then ! (get ! refl) (and_then ! (get ! refl) (no_more !)))) refl pair_ok $
    returns ! (look_at ! 0 refl) $ free_all ! refl $
    -- [the pair; what self follows; the tokens of the type parameters, of prefix and of self]
    suffices ! _ (ends_at 𝓛 En hs c y (pair_val u x) (o, j) (tt, (tt, tt)) (tt, (tt, tt))) $
    nothing ! $ nothing ! $ fjoin ! $ nothing ! $ fjoin ! $ join ! $
    move ! (3 ∷ 2 ∷ []) $ join ! $ move ! (3 ∷ 0 ∷ []) $ join ! $ join ! $ frame ! $ frame ! $
    use0 𝓛 (raw (fact 𝓤 Read)) (fact_i 𝓤 Read (emp 𝓤) (record { exact = omega (arith, none, exact); bound = omega (arith, none, bound) })) $
    use0 𝓛 (raw (fact 𝓤 (Value o))) (fact_i 𝓤 (Value o) (emp 𝓤) value) $ done !))))))))))))))))))
