-- Without networks there are no answers and no groups.
use Rattle.std.proofs.Common.{refl}
use Rattle.prefix_trie_bits.specs.Model.Entries.{no_entries}
use Rattle.prefix_trie_forwarding.specs.Forwarding.{Follows}
use Rattle.prefix_trie_forwarding.specs.Keys.{IsDivided}
use Rattle.prefix_trie_forwarding.specs.Needs.{HasNeededGroups}
use Rattle.prefix_trie_forwarding.proofs.Tables.{follows_none, groups_none, moved}
use Rattle.prefix_trie_forwarding.proofs.table.ForwardingTable.clear.Goals as goal

pub invariant_of-self : goal.invariant_of-self
invariant_of-self g c =
    let t = c.args.self.now in
    let r = t.slots.root_bits in
    let l = t.slots.levels in
    let s = c.clear-2.new.self in
    let n = c.clear.new.self.entries in
    let xs = c.clear-2.new.self.items.items in
    let root = c.clear-2.ensures.root in
    let level = c.clear-2.ensures.levels in
    record {
      divided = moved (λ r k m. IsDivided g.P.R.Key.bit_width r k) r l s.root_bits s.levels n n root level refl t.divided;
      follows = moved (λ r k m. Follows r k xs m) r l s.root_bits s.levels no_entries n root level c.clear.ensures.entries (follows_none c.lookup_laws.ensures r l xs c.clear-2.ensures.answers);
      groups = moved (λ r k m. ∥ HasNeededGroups r k xs m ∥₁) r l s.root_bits s.levels no_entries n root level c.clear.ensures.entries ∣ groups_none c.stored_laws.ensures r l xs c.clear-2.ensures.none ∣₁;
    }
