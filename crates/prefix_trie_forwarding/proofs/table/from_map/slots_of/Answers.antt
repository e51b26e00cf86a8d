-- An empty table has the slots of no networks, which are filled.
use Rattle.std.proofs.Common.{refl, subst}
use Rattle.prefix_trie_forwarding.specs.Forwarding.{Follows}
use Rattle.prefix_trie_forwarding.specs.Needs.{HasNeededGroups}
use Rattle.prefix_trie_forwarding.proofs.Tables.{moved}
use Rattle.prefix_trie_forwarding.proofs.table.from_map.slots_of.Goals as goal

pub fill-requires-clause-follows : goal.fill-requires-clause-follows
fill-requires-clause-follows g c =
    let t = c.in_ok-empty.empty in
    subst (λ m. Follows t.slots.root_bits t.slots.levels t.slots.items.items m) c.in_ok-empty.ensures.entries t.follows

pub fill-requires-clause-groups : goal.fill-requires-clause-groups
fill-requires-clause-groups g c =
    let t = c.in_ok-empty.empty in
    subst (λ m. ∥ HasNeededGroups t.slots.root_bits t.slots.levels t.slots.items.items m ∥₁) c.in_ok-empty.ensures.entries t.groups

pub returns-clause-groups : goal.returns-clause-groups
returns-clause-groups g c =
    let t = c.in_ok-empty.empty in
    let s = c.fill.new.slots in
    let m = c.args.map.now.entries in
    moved (λ r k m. ∥ HasNeededGroups r k c.fill.new.slots.items.items m ∥₁) t.slots.root_bits t.slots.levels s.root_bits s.levels m m c.in_ok-fill.ensures.root c.in_ok-fill.ensures.levels refl
    c.in_ok-fill.ensures.groups
