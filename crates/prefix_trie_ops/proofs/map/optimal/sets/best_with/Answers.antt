-- The value is found in the set, or it is appended as a set of its own and joined with the other.
use Rattle.std.proofs.Common.{◌≡◌, ◌∙◌, ◌++◌, List, [], ◌∷◌, length, ap, sym, refl, slice_range, arith, Ok, Err}
use Rattle.std.specs.List.Sorted.{IsStrictlySortedBy}
use Rattle.std.specs.Result.{IfOk}
use Rattle.std.specs.Set.{is_member}
use Rattle.prefix_trie_ops.specs.declared.map.optimal.sets.Set.TheVariants.{One}
use Rattle.prefix_trie_ops.specs.declared.map.optimal.sets.Span.{Span}
use Rattle.prefix_trie_ops.specs.Parts.{combined_values}
use Rattle.prefix_trie_ops.specs.ValueSets.{Appends, IsSpanOf}
use Rattle.prefix_trie_ops.proofs.Smallest.JoinedLists.{combined_member}
use Rattle.prefix_trie_ops.proofs.Smallest.StoredSets.{appended, appended_after, nothing_appended, one_sorted, span_kept}
use Rattle.prefix_trie_ops.proofs.map.optimal.sets.best_with.Goals as goal

pub returns-then-has : goal.returns-then-has
returns-then-has g c xs span sorted =
    let x = c.args.x in
    let old = c.args.values.now.items in
    let eq = g.T.PartialEq.eq in
    let set = c.args.set in
    nothing_appended old (One x) (x ∷ []) (combined_values eq g.T.Ord.cmp (x ∷ []) xs) refl
    (combined_member eq g.T.Ord.cmp g.met.T.Eq.laws g.met.T.Ord.total g.met.T.Ord.matches_eq x xs
    (ap (λ zs. is_member eq zs x) (span.2 ∙ ap (λ zs. slice_range zs set.start set.end) (sym c.as_slice.ensures.value)) ∙ sym c.has.ensures ∙ c.if-has.true))

pub returns : goal.returns
returns g c =
    let old = c.args.values.now.items in
    let middle = c.push.new.self.items in
    let now = c.push_best.new.values.items in
    let x = c.args.x in
    let eq = g.T.PartialEq.eq in
    let cmp = g.T.Ord.cmp in
    let one : Span = record { start = c.len-start.result; end = c.len-end.result } in
    let grown : middle ≡ old ++ x ∷ [] = c.in_ok-push.ensures.items in
    let first : c.len-start.result ≡ length old = c.len-start.ensures ∙ c.args.values.now.ok.0 in
    let last : c.len-end.result ≡ length middle = c.len-end.ensures ∙ c.push.new.self.ok.0 in
    let alone = appended old (x ∷ []) middle c.len-start.result c.len-end.result grown (λ bad. cons_some x bad) first last in
    elim c.push_best.result as (λ r.
    IfOk r (λ made. (xs ys : List g.row.T.Denot) → IsSpanOf middle one xs → IsSpanOf middle c.args.set ys → IsStrictlySortedBy cmp xs → IsStrictlySortedBy cmp ys
    → Appends middle now made (combined_values eq cmp xs ys))
    → IfOk r (λ made. (xs : List g.row.T.Denot) → IsSpanOf old c.args.set xs → IsStrictlySortedBy cmp xs → Appends old now made (combined_values eq cmp (x ∷ []) xs))) [
      | Err e ↦ λ _. tt
      | Ok made ↦ λ best xs span sorted.
          appended_after old (x ∷ []) middle now made (combined_values eq cmp (x ∷ []) xs) grown
          (best (x ∷ []) xs alone.holds (span_kept old (x ∷ []) middle c.args.set xs grown span) (one_sorted cmp x) sorted)
    ] c.push_best.ensures
  where
    cons_some : {X : Type 0} (x : X) → x ∷ [] ≡ [] → ⊥
    cons_some x bad = let long = ap length bad in omega arith
