-- A new table has a blank root and no blocks, which is the empty map with the root alone.
use Rattle.prefix_trie_table.proofs.Prelude.{rules, [], ◌∷◌, Option, ap, false≢true, State, Node, node_sizes, Store}
use Rattle.prefix_trie_table.proofs.Tree.Shapes.{root_shape, root_reading, some_limit, new_holds, new_shape, new_only, new_table}
use Rattle.prefix_trie_table.proofs.Blocks.NodeLayouts.{sizes_of, root_layout}
use Rattle.prefix_trie_table.proofs.table.Table.new.Goals as goal

pub invariant_of-result : goal.invariant_of-result
invariant_of-result g c =
    let v = c.in_ok-nodes.ensures in
    let w = c.in-Ok.ensures in (
      (root_shape, new_shape _ _ _ v.empty v.sound w.empty w.sound),
      (sizes_of node_sizes root_reading ([] ∷ []) _ (new_holds _ _ _ v.empty v.sound w.empty w.sound).hold, tt),
    )

pub invariant_of-result-2 : goal.invariant_of-result-2
invariant_of-result-2 g c =
    let v = c.in_ok-nodes.ensures in
    new_table _ _ _ v.empty v.sound c.in-Ok.ensures.empty c.in-Ok.ensures.sound (some_limit c.args.limit (λ zero. false≢true (v.space zero))) c.result-1.given.0

pub returns : goal.returns
returns g c =
    let v = c.in_ok-nodes.ensures in
    let w = c.in-Ok.ensures in
    let only = new_only _ _ _ v.empty v.sound w.empty w.sound c.result-1.given.0 in
    record {
      entries = ap (λ (s : State g.row.T.Denot). s.entries) only;
      nodes = ap (λ (s : State g.row.T.Denot). s.nodes) only;
      space = search rules;
      layout = root_layout _ _ (new_holds _ _ _ v.empty v.sound w.empty w.sound)
          (ap (λ (x : Store Node). x.tiers) v.empty) (ap (λ (x : Store (Option g.row.T.Denot)). x.tiers) w.empty) c.result-1.given.1.0;
      range = search rules;
      none = search rules;
    }
