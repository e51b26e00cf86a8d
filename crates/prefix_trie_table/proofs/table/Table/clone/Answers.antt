-- A copy with equal nodes and cloned values has the same shape, so entries, nodes and layout are the original's.
use Rattle.prefix_trie_table.proofs.Prelude.{refl}
use Rattle.prefix_trie_table.proofs.Tree.TableCopies.{option_pairs, copied_shape, copied_table, copied_entries, copied_nodes, copied_space, copied_sizes, copied_layout, copied_same}
use Rattle.prefix_trie_table.proofs.table.Table.clone.Goals as goal

pub invariant_of-result : goal.invariant_of-result
invariant_of-result g c =
    let means = option_pairs _ (λ _. refl) (λ _ h. absurd h) (λ _ h. h) (λ _ _ h. h) in (
      copied_shape g.T.Clone.is_clone _ means _ _ _ _ _ c.self.inside.shape c.self.invariant c.in_ok-nodes.ensures.same c.in_ok-cells.ensures.rest c.in_ok-cells.ensures.slots,
      (copied_sizes g.T.Clone.is_clone _ means _ _ _ _ _ c.self.inside.shape c.self.invariant c.in_ok-nodes.ensures.same c.in_ok-cells.ensures.rest c.in_ok-cells.ensures.slots c.self.inside.sizes, tt),
    )

pub invariant_of-result-2 : goal.invariant_of-result-2
invariant_of-result-2 g c =
    copied_table g.T.Clone.is_clone _ (option_pairs _ (λ _. refl) (λ _ h. absurd h) (λ _ h. h) (λ _ _ h. h)) _ _ _ _ _ c.self.inside.shape c.self.invariant c.in_ok-nodes.ensures.same c.in_ok-cells.ensures.rest c.in_ok-cells.ensures.slots c.result-1.given.0

pub returns : goal.returns
returns g c =
    let z = c.self.inside.sizes in
    let s2 = c.result-1.given.0 in
    let z2 = c.result-1.given.1.0 in
    let means = option_pairs _ (λ _. refl) (λ _ h. absurd h) (λ _ h. h) (λ _ _ h. h) in
    rw (← c.self.view_is) (record {
      entries = copied_entries g.T.Clone.is_clone _ means _ _ _ _ _ c.self.inside.shape c.self.invariant c.in_ok-nodes.ensures.same c.in_ok-cells.ensures.rest c.in_ok-cells.ensures.slots s2;
      nodes = copied_nodes g.T.Clone.is_clone _ means _ _ _ _ _ c.self.inside.shape c.self.invariant c.in_ok-nodes.ensures.same c.in_ok-cells.ensures.rest c.in_ok-cells.ensures.slots s2;
      space = copied_space g.T.Clone.is_clone _ means _ _ _ _ _ c.self.inside.shape c.self.invariant c.in_ok-nodes.ensures.same c.in_ok-cells.ensures.rest c.in_ok-cells.ensures.slots z s2 z2;
      layout = copied_layout g.T.Clone.is_clone _ means _ _ _ _ _ c.self.inside.shape c.self.invariant c.in_ok-nodes.ensures.same c.in_ok-cells.ensures.rest c.in_ok-cells.ensures.slots z s2 z2;
      same = λ law. copied_same g.T.Clone.is_clone _ means _ _ _ _ _ c.self.inside.shape c.self.invariant c.in_ok-nodes.ensures.same c.in_ok-cells.ensures.rest c.in_ok-cells.ensures.slots z law s2 z2;
    })
