-- The clone has the same spots over equal nodes, so the same keys come, with cloned values.
use Rattle.prefix_trie_table.proofs.Prelude.{refl, ◌∙◌, each_same}
use Rattle.prefix_trie_table.proofs.Tree.TableCopies.{option_pairs}
use Rattle.prefix_trie_table.proofs.Walk.Taking.{copied_seats, copied_walk, pairs_same}
use Rattle.prefix_trie_table.proofs.table.taking.IntoWalk.clone.Goals as goal

pub invariant_of-result : goal.invariant_of-result
invariant_of-result g c =
    let i = c.self.inside in (
      copied_seats g.K.Key.bit_width g.T.Clone.is_clone _ (option_pairs _ (λ _. refl) (λ _ h. absurd h) (λ _ h. h) (λ _ _ h. h))
          i.nodes c.in_ok-nodes.nodes i.cells c.in_ok-cells.cells i.seats (g.K.Key.bits i.key) i.stack.items c.in-Ok.stack.items c.self.invariant
          c.in_ok-nodes.ensures.same c.in_ok-cells.ensures.slots (each_same i.stack.items c.in-Ok.stack.items c.in-Ok.ensures.cases),
      tt,
    )

pub invariant_of-result-2 : goal.invariant_of-result-2
invariant_of-result-2 g c =
    let i = c.self.inside in
    (copied_walk g.K.Key.bit_width g.T.Clone.is_clone _ (option_pairs _ (λ _. refl) (λ _ h. absurd h) (λ _ h. h) (λ _ _ h. h))
    i.nodes c.in_ok-nodes.nodes i.cells c.in_ok-cells.cells i.seats (g.K.Key.bits i.key) i.stack.items c.in-Ok.stack.items c.self.invariant
    c.in_ok-nodes.ensures.same c.in_ok-cells.ensures.slots (each_same i.stack.items c.in-Ok.stack.items c.in-Ok.ensures.cases) c.result-2-1.given.0).0

pub returns : goal.returns
returns g c =
    let i = c.self.inside in
    let pairs = (copied_walk g.K.Key.bit_width g.T.Clone.is_clone _ (option_pairs _ (λ _. refl) (λ _ h. absurd h) (λ _ h. h) (λ _ _ h. h))
    i.nodes c.in_ok-nodes.nodes i.cells c.in_ok-cells.cells i.seats (g.K.Key.bits i.key) i.stack.items c.in-Ok.stack.items c.self.invariant
    c.in_ok-nodes.ensures.same c.in_ok-cells.ensures.slots (each_same i.stack.items c.in-Ok.stack.items c.in-Ok.ensures.cases) c.result-2-1.given.0).1 in
    record { pairs = rw (← c.self.view_is) pairs; same = λ law. pairs_same g.T.Clone.is_clone law _ _ pairs ∙ c.self.view_is }
