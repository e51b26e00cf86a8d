-- A table without networks has answers of no match, and no groups.
use Rattle.std.proofs.Common.{◌+◌, ◌-◌, ◌/◌, arith}
use Rattle.prefix_trie_bits.specs.Model.Entries.{no_entries}
use Rattle.prefix_trie_forwarding.specs.Forwarding.{Follows}
use Rattle.prefix_trie_forwarding.specs.Needs.{HasNeededGroups}
use Rattle.prefix_trie_forwarding.proofs.Tables.{follows_none, groups_none, moved}
use Rattle.prefix_trie_forwarding.proofs.table.ForwardingTable.with_root_bits.Goals as goal

pub invariant_of-result : goal.invariant_of-result
invariant_of-result g c =
    let r = c.min-root_bits.result in
    let levels = (c.width-width.result - c.min-root_bits.result + 7) / 8 in
    let s = c.in_ok-slots.slots in
    let m = c.in_ok-map.map.entries in
    let xs = c.in_ok-slots.slots.items.items in
    let root = c.in_ok-slots.ensures.root in
    let level = c.in_ok-slots.ensures.levels in
    record {
      divided = record {
        few = omega (arith, root, c.min-root_bits.ensures, c.clamp.ensures);
        within = omega (arith, root, c.min-root_bits.ensures, c.width-width.ensures);
        small = g.met.P.Prefix.prefix_laws.keys.at_most_128;
        reads = omega (arith, root, level, c.min-root_bits.ensures, c.width-width.ensures);
        ends = omega (arith, root, level, c.min-root_bits.ensures, c.width-width.ensures);
      };
      follows = moved (λ r k m. Follows r k xs m) r levels s.root_bits s.levels no_entries m root level c.in_ok-map.ensures.entries (follows_none c.lookup_laws.ensures r levels xs c.in_ok-slots.ensures.answers);
      groups = moved (λ r k m. ∥ HasNeededGroups r k xs m ∥₁) r levels s.root_bits s.levels no_entries m root level c.in_ok-map.ensures.entries ∣ groups_none c.stored_laws.ensures r levels xs c.in_ok-slots.ensures.none ∣₁;
    }
