-- The groups in use are those of the needed blocks.
use Rattle.std.proofs.Common.{arith}
use Rattle.std.proofs.Math.Logic.{∥∥₁_elim}
use Rattle.std.proofs.Math.Nat.{ℕ_set}
use Rattle.prefix_trie_forwarding.specs.Needs.{needed_groups}
use Rattle.prefix_trie_forwarding.proofs.NeededGroups.{needed_are}
use Rattle.prefix_trie_forwarding.proofs.Tables.{needed_blocks}
use Rattle.prefix_trie_forwarding.proofs.table.ForwardingTable.group_count.Goals as goal

pub returns : goal.returns
returns g c =
    let t = c.args.self.now in
    ∥∥₁_elim t.groups (ℕ_set _ _)
    (λ has. c.used.ensures (needed_groups t.slots.root_bits t.map.entries)
    (needed_blocks t.slots.root_bits t.slots.levels t.slots.items.items t.map.entries (needed_groups t.slots.root_bits t.map.entries) has
    (λ s stored. (let most = c.len.ensures.whole.is_map.keys_within s stored in omega (arith, most, t.divided.reads)))
    (needed_are t.slots.root_bits t.map.entries)))
