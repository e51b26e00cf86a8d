-- The new table has the limit of the array of nodes, which holds the root: so only an allocation can fail.
use Rattle.prefix_trie_table.proofs.Prelude.{◌≡◌, ◌<◌, ◌↔◌, arith, IfErr-weaker, Memory, IndexRange}
use Rattle.prefix_trie_table.proofs.Removal.ClearedTables.{root_slot}
use Rattle.prefix_trie_table.proofs.Splitting.Space.{for_memory}
use Rattle.prefix_trie_table.proofs.Tree.Invariant.{some_table}
use Rattle.prefix_trie_table.proofs.table.Table.new_like.Goals as goal

pub returns-clause-memory : goal.returns-clause-memory
returns-clause-memory g c =
    let held = c.self.invariant in
    let root = root_slot _ _ (some_table held) in
    let some : 0 < c.limit.result = omega (arith, root, held.nodes_within, held.one_limit, c.limit.ensures) in
    IfErr-weaker c.new.result (λ cause. (cause ≡ IndexRange) ↔ (c.limit.result ≡ 0)) (λ cause. cause ≡ Memory)
    (λ cause r. for_memory cause (λ e. let none = r.0 e in absurd (omega (arith, none, some)))) c.new.ensures.range
