-- Clearing both arrays leaves a blank root, no values and no blocks, as in a new table.
use Rattle.prefix_trie_table.proofs.Prelude.{[], ◌∷◌, take, ap, sym, ◌∙◌, Option, Node, Store, blank_node, node_sizes, cell_sizes}
use Rattle.prefix_trie_table.proofs.Removal.ClearedTables.{cleared_tiers, root_slot}
use Rattle.prefix_trie_table.proofs.table.removal.clear_entries.Goals as goal

pub clear-requires-clause-root : goal.clear-requires-clause-root
clear-requires-clause-root g c = root_slot c.args.nodes.now c.args.cells.now c.requires.table

pub returns-clause-nodes : goal.returns-clause-nodes
returns-clause-nodes g c =
    let hold = c.requires.table.holds.hold in
    let tiers = cleared_tiers c.args.nodes.now.tiers node_sizes hold.sizes_are in
    c.clear.ensures.value
    ∙ (λ i. record { slots = blank_node ∷ []; first = hold.first_is i; tiers = tiers i; limit = c.args.nodes.now.limit; capacities = (sym (ap (λ (x : Store Node). x.capacities) c.clear.ensures.value)) i })

pub returns-clause-cells : goal.returns-clause-cells
returns-clause-cells g c =
    let cells = c.requires.table.holds.cells in
    let tiers = cleared_tiers c.args.cells.now.tiers cell_sizes cells.sizes_are in
    c.clear-2.ensures.value
    ∙ (λ i. record { slots = take (c.requires.first i) c.args.cells.now.slots; first = c.requires.first i; tiers = tiers i; limit = c.args.cells.now.limit; capacities = (sym (ap (λ (x : Store (Option g.row.T.Denot)). x.capacities) c.clear-2.ensures.value)) i })
