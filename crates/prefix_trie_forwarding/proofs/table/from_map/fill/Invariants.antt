-- The invariant of the loop: the slots follow entries from which inserting the items still to come leads to all of the map.
use Rattle.std.proofs.Common.{◌≡◌}
use Rattle.prefix_trie_bits.specs.Model.Entries.{Entries}
use Rattle.prefix_trie.specs.Terms.{Leads}
use Rattle.prefix_trie_forwarding.specs.Forwarding.{Follows}
use Rattle.prefix_trie_forwarding.specs.Needs.{HasNeededGroups}
use Rattle.prefix_trie_forwarding.specs.declared.hop.Hop.{Hop}
use Rattle.prefix_trie_forwarding.proofs.table.from_map.fill.Given as goal

abbrev pub invariant-loop-prefix : goal.invariant-loop-prefix
invariant-loop-prefix g l = record {
  next : (goal.iterator-loop-prefix g).can_next l.prefix-iterator;
  ends : (goal.iterator-loop-prefix g).is_finite l.prefix-iterator;
  root : l.slots.root_bits ≡ l.fn.slots.root_bits;
  levels : l.slots.levels ≡ l.fn.slots.levels;
  follows : (m : Entries Hop) × Leads g.P.Prefix.path g.P.Prefix.IsFitting l.prefix-iterator m l.map.entries
      × Follows l.fn.slots.root_bits l.fn.slots.levels l.slots.items.items m
      × ∥ HasNeededGroups l.fn.slots.root_bits l.fn.slots.levels l.slots.items.items m ∥₁;
}
