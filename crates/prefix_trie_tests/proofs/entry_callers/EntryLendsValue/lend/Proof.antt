-- `lend` of entries lends what `Entry::get_mut` lends. Assumes `Logic`.
use Rattle.prefix_trie_map.proofs.Loans.{◌≡◌, Option, [], ◌∷◌, refl, MutBor, proved, Args, named, a_type, dcons, dnil, inst_fn, id⊢, Fml, ftrue, flft, fact, tables, ‵, raw, ◌⊛◌, some, later, ◌$◌, ◌∵◌, !, qed, done, move, drop, use1, split, join, fjoin, pick, await, suffices, frame, enter, addr, stop, no_more, and_then, returns, alloc_all, pass_all, free_all, look_at, get, through, sets, lands_as, param, copied, bounded, Laws, no, RattleType, mut_vals, mut_Tells, plain, mut_ref_to, nothing, peeks, shows, calls_at, lasts, triple_of, framed, Stays, stay_dropped, walk_of, ends_at, Goes-spent_ref, option_laws, Lent, lent_laws}
use contract.Lifetimes.{Lfts}
use denote.Signature.{named_lft}
use Rattle.std.specs.contracts.option.Option as option
use Rattle.std.specs.Option.{option_copied_mut}
use Rattle.prefix_trie_map.specs.Entry.{entry_value, lends_if_occupied}
use Rattle.prefix_trie_map.specs.contracts.map.entry.Entry as entry
use Rattle.prefix_trie_tests.specs.contracts.entry_callers.EntryLendsValue.lend as f
use Rattle.prefix_trie_map.specs.contracts.map.entry.Entry.get_mut as h
use Rattle.prefix_trie_map.proofs.map.entry.Entry.get_mut.Met.{met as h_met}
use Rattle.prefix_trie_tests.proofs.entry_callers.EntryLendsValue.lend.Statement.{statement}
use Rattle.prefix_trie_tests.proofs.entry_callers.EntryLendsValue.lend.Code as code

pub lend_spec : {M : Type 1} → statement M
lend_spec 𝓤 𝓛 𝓜 𝓡 wired P T A R lP lT lA lR cR p p' d d' k k' n n' e e' s s' w w' g g' xP xT xA mp md mk mn me ms mw mg gP gT gA =
    let En = f.ended P T A R p p' d d' k k' n n' e e' s s' w w' g g' xP xT xA in
    let c = f.clauses P T A R p p' d d' k k' n n' e e' s s' w w' g g' xP xT xA 𝓛 𝓜.mem 𝓡.returns in
    let args : Args = bounded (a_type ∷ a_type ∷ a_type ∷ a_type ∷ []) (P, (T, (A, (R, tt))))
    (dcons p' (dcons d' (dcons k' (dcons n' (dcons e' (dcons s' (dcons w' (dcons g' (dcons xP (dcons xT (dcons xA dnil))))))))))) in
    let fn = inst_fn args code.function in
    let Whole : Lfts 6 → RattleType = λ κs. entry.the_row (named_lft 6 1 tt κs) (param 0 P) (param 1 T) (param 2 A) (copied 3 R) p d k s w g in
    let hs : Stays En.signature.params En.kept = (stay_dropped (mut_ref_to (0 ∷ []) tt (plain Whole)) no, tt) in
    let W = walk_of 𝓛 En hs c in
    proved 𝓛 En hs c 𝓜 𝓡 (Goes-spent_ref 𝓛 6 (0 ∷ []) tt (plain Whole), tt)
    (f.Key.name args) fn (code.unfolded 𝓤 𝓛.H 𝓜 𝓡 wired (P, (T, (A, (R, tt)))) p' d' k' n' e' s' w' g' xP xT xA)
    (λ κs. (mut_vals, tt)) (λ κs. (mut_Tells (named 0) κs.0 (Whole κs), tt)) (λ κs qs bounds xs _ are.
    let Found : RattleType = option.the_row (Lent 1 T κs.0) in
    let found_laws : Laws Found = option_laws (Lent 1 T κs.0) (lent_laws 1 T lT κs.0) in
    let Value : Option (MutBor T.Denot) → Type 0 = λ r. option_copied_mut r ≡ entry_value xs.0.now in
    let loan : Option (MutBor T.Denot) → Fml = λ r. lends_if_occupied (param 0 P) (param 1 T) (param 2 A) (copied 3 R) d s w g xs.0 r in
    let Q = triple_of 𝓛 (h.signature P T A R p p' d d' k k' n n' e e' s s' w w' g g' xP xT xA) (h.spec P T A R p p' d d' k k' n n' e e' s s' w w' g g' xP xT xA 𝓛 𝓜.mem 𝓡.returns) in
    let z : Q.Ghost = ((κs, qs, bounds, xs, (mut_vals xs.0, tt)), tt) in
    let tokens = ‵ (flft κs.0 qs.0) ⊛ ‵ (flft κs.1.0 qs.1.0) ⊛ ‵ (flft κs.1.1.0 qs.1.1.0) ⊛ ‵ (flft κs.1.1.1.0 qs.1.1.1.0) ⊛ ‵ (flft κs.1.1.1.1.0 qs.1.1.1.1.0) ⊛ ‵ (flft κs.1.1.1.1.1.0 qs.1.1.1.1.1.0) ⊛ ‵ ftrue in
    qed 𝓛 (raw (Q.pre z) ∷ []) ∵ enter ! _ _ _ _ _ $ alloc_all ! (λ l. pass_all ! refl ((tt, tt), tt) $
    sets ! (addr ! (through ! refl (stop !))) refl (tt, tt) $
    calls_at ! (framed 𝓤 𝓛.H 𝓜 (tables 𝓤 𝓛.H 𝓜 𝓡 𝓡.env)) Q (h_met 𝓤 𝓛 𝓜 𝓡 (code.calls-prefix_trie_map::map::entry::Entry::get_mut 𝓡.env wired) P T A R lP lT lA lR cR p p' d d' k k' n n' e e' s s' w w' g g' xP xT xA mp md mk mn me ms mw mg gP gT gA) z
    (and_then ! (get ! refl) (no_more !)) (λ u.
    use1 𝓛 (later (some (λ (r : Option (MutBor T.Denot)). (tokens ⊛ ‵ (Found.own_val r (u ∷ [])))
    ⊛ some (λ (es : Unit {0} × Unit {0}). ‵ (lasts (h.ended P T A R p p' d d' k k' n n' e e' s s' w w' g g' xP xT xA) z.0.0 z.0.3 es) ⊛ ‵ (loan r) ⊛ raw (fact 𝓤 (Value r)))))) (id⊢ 𝓤 _) $
    await ! tt $ pick ! (λ r. split ! $ move ! (1 ∷ []) $ pick ! (λ es. split ! $ drop ! $ move ! (1 ∷ []) $ split ! $ move ! (1 ∷ []) $
    -- [the value, lent; the tokens; what the entry follows, and which value it is]
    peeks ! Found _ (shows 𝓛 Found) r (u ∷ []) (λ is_found.
    lands_as ! refl refl ((found_laws.lawful 𝓛).typed r (u ∷ []) is_found).0 $ returns ! (look_at ! 0 refl) $ free_all ! refl $
    suffices ! _ (ends_at 𝓛 En hs c z u r (tt, tt) (tt, tt)) $
    nothing ! $ nothing ! $ fjoin ! $ join ! $ move ! (1 ∷ 0 ∷ []) $ join ! $ frame ! $ done !))))))
