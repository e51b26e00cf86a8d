-- The combined values of two sets, by the forms of the sets.
use Rattle.std.proofs.Common.{◌≡◌, true, List, [], ◌∷◌, sym, subst, refl, Ok, Err}
use Rattle.std.specs.List.Sorted.{IsStrictlySortedBy}
use Rattle.std.specs.Result.{IfOk}
use Rattle.prefix_trie_ops.specs.declared.map.optimal.sets.Set.TheVariants.{Missing}
use Rattle.prefix_trie_ops.specs.Parts.{combined_values}
use Rattle.prefix_trie_ops.specs.ValueSets.{Appends, Holds, IsSpanOf}
use Rattle.prefix_trie_ops.proofs.Smallest.JoinedLists.{combined_one}
use Rattle.prefix_trie_ops.proofs.Smallest.StoredSets.{combined_left, combined_right, nothing_appended}
use Rattle.prefix_trie_ops.proofs.map.optimal.sets.best_of.Goals as goal
use Rattle.prefix_trie_ops.proofs.map.optimal.sets.best_of.Goals.{in_default-via-in-Many+in_default, in_default-via-in-One+in_default, in_default-via-in_default}

pub returns-in-One-Many : goal.returns-in-One-Many
returns-in-One-Many g c =
    let old = c.args.values.now.items in
    let now = c.best_with.new.values.items in
    let eq = g.T.PartialEq.eq in
    let cmp = g.T.Ord.cmp in
    let x = c.in-One-Many.x in
    elim c.best_with.result as (λ r. IfOk r (λ made. (xs : List g.row.T.Denot) → IsSpanOf old c.in-One-Many.set xs → IsStrictlySortedBy cmp xs → Appends old now made (combined_values eq cmp (x ∷ []) xs))
    → IfOk r (λ set. (xs ys : List g.row.T.Denot) → Holds old c.args.left xs → Holds old c.args.right ys → IsStrictlySortedBy cmp xs → IsStrictlySortedBy cmp ys
    → ((x y : g.row.T.Denot) → eq x y ≡ true → x ≡ y) → Appends old now set (combined_values eq cmp xs ys))) [
      | Err e ↦ λ _. tt
      | Ok made ↦ λ best xs ys left right _ sorted _.
          subst (λ zs. Appends old now made (combined_values eq cmp zs ys)) (sym (subst (λ s. Holds old s xs) c.in-One-Many.is-0 left)) (best ys (subst (λ s. Holds old s ys) c.in-One-Many.is-1 right) sorted)
    ] c.best_with.ensures

pub returns-in-Many-One : goal.returns-in-Many-One
returns-in-Many-One g c =
    let old = c.args.values.now.items in
    let now = c.best_with-in-Many-One.new.values.items in
    let eq = g.T.PartialEq.eq in
    let cmp = g.T.Ord.cmp in
    let x = c.in-Many-One.x in
    elim c.best_with-in-Many-One.result as (λ r. IfOk r (λ made. (xs : List g.row.T.Denot) → IsSpanOf old c.in-Many-One.set xs → IsStrictlySortedBy cmp xs → Appends old now made (combined_values eq cmp (x ∷ []) xs))
    → IfOk r (λ set. (xs ys : List g.row.T.Denot) → Holds old c.args.left xs → Holds old c.args.right ys → IsStrictlySortedBy cmp xs → IsStrictlySortedBy cmp ys
    → ((x y : g.row.T.Denot) → eq x y ≡ true → x ≡ y) → Appends old now set (combined_values eq cmp xs ys))) [
      | Err e ↦ λ _. tt
      | Ok made ↦ λ best xs ys left right sorted _ exact.
          subst (λ zs. Appends old now made (combined_values eq cmp xs zs)) (sym (subst (λ s. Holds old s ys) c.in-Many-One.is-1 right))
          (subst (Appends old now made) (combined_one eq cmp g.met.T.Eq.laws g.met.T.Ord.total g.met.T.Ord.matches_eq exact x xs sorted)
          (best xs (subst (λ s. Holds old s xs) c.in-Many-One.is-0 left) sorted))
    ] c.best_with-in-Many-One.ensures

pub returns-in_default : goal.returns-in_default
returns-in_default g c xs ys left right left_sorted right_sorted exact =
    let old = c.args.values.now.items in
    let eq = g.T.PartialEq.eq in
    let cmp = g.T.Ord.cmp in
    let none : combined_values eq cmp xs ys ≡ [] = elim c.in_default.branch [
      | in_default-via-in-One+in_default w ↦ combined_right eq cmp xs ys (subst (λ s. Holds old s ys) w.in_default.is-1 right)
      | in_default-via-in-Many+in_default w ↦ combined_right eq cmp xs ys (subst (λ s. Holds old s ys) w.in_default.is-1 right)
      | in_default-via-in_default w ↦ combined_left eq cmp xs ys (subst (λ s. Holds old s xs) w.in_default.is-0 left)
    ] in
    nothing_appended old Missing [] (combined_values eq cmp xs ys) refl none
