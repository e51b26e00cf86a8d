-- The values that two sets share are appended, and if they share none, all values of both.
use Rattle.std.proofs.Common.{◌≡◌, ◌∙◌, ◌++◌, length, ap, sym}
use Rattle.prefix_trie_ops.specs.Parts.{combined_values, shared_values}
use Rattle.prefix_trie_ops.proofs.Smallest.Sets.{combined_not_none}
use Rattle.prefix_trie_ops.proofs.Smallest.StoredSets.{appended, combined_all, combined_shared, none_shared, span_kept, span_some}
use Rattle.prefix_trie_ops.proofs.map.optimal.sets.push_best.Goals as goal
use Rattle.prefix_trie_ops.proofs.map.optimal.sets.push_best.Goals.{then-len-start+in_ok-push_all, else-len-start}

pub returns : goal.returns
returns g c xs ys left right left_sorted right_sorted =
    let eq = g.T.PartialEq.eq in
    let cmp = g.T.Ord.cmp in
    let old = c.args.values.now.items in
    let between = c.push_shared.new.values.items in
    let now = c.if-len-start.values.items in
    let some = span_some old c.args.left xs left in
    let some' = span_some old c.args.right ys right in
    let shared : between ≡ old ++ shared_values eq xs ys = c.in_ok-push_shared.ensures xs ys left right left_sorted right_sorted in
    let grown : now ≡ old ++ combined_values eq cmp xs ys = elim c.if-len-start.branch [
      | then-len-start+in_ok-push_all w ↦
          let none = none_shared eq cmp old between xs ys shared (sym c.push_shared.new.values.ok.0 ∙ sym c.len.ensures ∙ w.if-len-start.true ∙ c.len-start.ensures ∙ c.args.values.now.ok.0) in
          combined_all eq cmp old between now xs ys some some' shared none
          (ap (λ v. v.items) w.values-is
          ∙ w.in_ok-push_all.ensures xs ys (span_kept old (shared_values eq xs ys) between c.args.left xs shared left) (span_kept old (shared_values eq xs ys) between c.args.right ys shared right) none)
      | else-len-start w ↦ combined_shared eq cmp old now xs ys some some' (ap (λ v. v.items) w.values-is ∙ shared)
          (λ same. w.if-len-start.false (c.len.ensures ∙ c.push_shared.new.values.ok.0 ∙ ap (λ v. length v.items) (sym w.values-is) ∙ same ∙ sym c.args.values.now.ok.0 ∙ sym c.len-start.ensures))
    ] in
    appended old (combined_values eq cmp xs ys) now c.len-start.result c.len-end.result grown (combined_not_none eq g.met.T.Eq.laws cmp g.met.T.Ord.matches_eq xs ys some some')
    (c.len-start.ensures ∙ c.args.values.now.ok.0) (c.len-end.ensures ∙ c.if-len-start.values.ok.0)
