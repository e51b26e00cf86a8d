-- The copy has the same entries and the same slots, so these follow the entries.
use Rattle.std.proofs.Common.{◌≡◌, ap, subst, sym}
use Rattle.prefix_trie_forwarding.specs.Forwarding.{Follows}
use Rattle.prefix_trie_forwarding.specs.Keys.{IsDivided}
use Rattle.prefix_trie_forwarding.specs.Needs.{HasNeededGroups}
use Rattle.prefix_trie_forwarding.proofs.Tables.{moved}
use Rattle.prefix_trie_forwarding.proofs.table.ForwardingTable.clone.Goals as goal

pub invariant_of-result : goal.invariant_of-result
invariant_of-result g c =
    let t = c.args.self.now in
    let r = t.slots.root_bits in
    let l = t.slots.levels in
    let m = t.map.entries in
    let s = c.in_ok-slots.slots in
    let n = c.in_ok-map.map.entries in
    let items = c.in_ok-slots.ensures.items in
    let root = c.in_ok-slots.ensures.root in
    let level = c.in_ok-slots.ensures.levels in
    let same : c.in_ok-map.map.entries ≡ t.map.entries = ap (λ m. m.entries) (c.in_ok-map.ensures.same (λ x y e. e)) in
    record {
      divided = moved (λ r k m. IsDivided g.P.R.Key.bit_width r k) r l s.root_bits s.levels m n root level same t.divided;
      follows = moved (λ r k m. Follows r k s.items.items m) r l s.root_bits s.levels m n root level same (subst (λ xs. Follows r l xs m) (sym items) t.follows);
      groups = moved (λ r k m. ∥ HasNeededGroups r k s.items.items m ∥₁) r l s.root_bits s.levels m n root level same (subst (λ xs. ∥ HasNeededGroups r l xs m ∥₁) (sym items) t.groups);
    }
