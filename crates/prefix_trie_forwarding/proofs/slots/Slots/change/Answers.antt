-- The answers to the addresses of the network change, and all groups stay.
use Rattle.std.proofs.Common.{◌≡◌, ◌+◌, ◌*◌, ◌-◌, ◌^◌, length, drop, sym, subst, arith, slice_index}
use Rattle.std.proofs.lemmas.List.{take_at}
use Rattle.prefix_trie_forwarding.specs.Counts.{IsCounted}
use Rattle.prefix_trie_forwarding.specs.Keys.{first_of}
use Rattle.prefix_trie_forwarding.specs.Slots.{AreGroups}
use Rattle.prefix_trie_forwarding.specs.Walks.{HasValues, IsChanged, KeepsGroups, changed}
use Rattle.prefix_trie_forwarding.proofs.Counting.{count_kept}
use Rattle.prefix_trie_forwarding.proofs.Ends.{changed_once}
use Rattle.prefix_trie_forwarding.proofs.Filling.{changed_frees, changed_groups}
use Rattle.prefix_trie_forwarding.proofs.Points.{values_changed}
use Rattle.prefix_trie_forwarding.proofs.slots.Slots.change.Goals as goal

pub invariant_of-self : goal.invariant_of-self
invariant_of-self g c =
    let t = c.args.self.now in
    let ys = c.change_network.new.slots in
    let back = take_at ys (drop (length ys) t.items.items) t.items.len (omega (arith, c.change_network.auto.slots, c.deref_mut.ensures.len)) in
    let f = changed c.args.change.least c.args.change.most c.args.change.to in
    let once = changed_once c.args.change.least c.args.change.most c.args.change.to c.requires.small in
    let keeps = changed_groups (2 ^ t.root_bits) t.levels f once (slice_index t.items.items) (slice_index ys) (rw c.deref_mut.ensures.value at c.change_network.ensures.by) in
    let size : length ys ≡ length t.items.items = omega (arith, c.change_network.auto.slots, c.deref_mut.ensures.len) in
    record {
      sound = record {
        few_bits = t.sound.few_bits;
        few_levels = t.sound.few_levels;
        set = subst (λ zs. AreGroups t.root_bits t.groups.made zs t.groups.free.items) (sym back)
            (record { sizes = omega (arith, size, t.sound.set.sizes); small = t.sound.set.small; within = t.sound.set.within; slots_are = c.change_network.ensures.slots; free_are = changed_frees f once (slice_index t.items.items) (slice_index ys) (rw c.deref_mut.ensures.value at c.change_network.ensures.by) t.groups.made t.groups.free.items t.sound.set.free_are });
        values = subst (λ zs. HasValues (2 ^ t.root_bits) t.levels (slice_index zs)) (sym back)
            (values_changed (2 ^ t.root_bits) t.levels (first_of (t.root_bits + 8 * t.levels) (g.K.Key.bits c.args.first)) (t.root_bits + 8 * t.levels - c.args.len) f (slice_index t.items.items) (slice_index ys) once (rw c.deref_mut.ensures.value at c.change_network.ensures.changed) t.sound.values);
        counted = subst (λ zs. IsCounted t.root_bits t.levels t.groups.made (slice_index zs) t.groups.free.items) (sym back)
            (count_kept t.root_bits t.levels (slice_index t.items.items) (slice_index ys) t.groups.made t.groups.made t.groups.free.items t.groups.free.items keeps (omega arith) t.sound.counted);
      };
    }

pub returns-clause-changed : goal.returns-clause-changed
returns-clause-changed g c =
    let t = c.args.self.now in
    let ys = c.change_network.new.slots in
    let back = take_at ys (drop (length ys) t.items.items) t.items.len (omega (arith, c.change_network.auto.slots, c.deref_mut.ensures.len)) in
    subst (λ zs. IsChanged (2 ^ t.root_bits) t.levels (first_of (t.root_bits + 8 * t.levels) (g.K.Key.bits c.args.first)) (t.root_bits + 8 * t.levels - c.args.len) (changed c.args.change.least c.args.change.most c.args.change.to) (slice_index t.items.items) (slice_index zs)) (sym back) (rw c.deref_mut.ensures.value at c.change_network.ensures.changed)

pub returns-clause-groups : goal.returns-clause-groups
returns-clause-groups g c =
    let t = c.args.self.now in
    let ys = c.change_network.new.slots in
    let back = take_at ys (drop (length ys) t.items.items) t.items.len (omega (arith, c.change_network.auto.slots, c.deref_mut.ensures.len)) in
    subst (λ zs. KeepsGroups (2 ^ t.root_bits) t.levels (slice_index t.items.items) (slice_index zs)) (sym back)
    (changed_groups (2 ^ t.root_bits) t.levels (changed c.args.change.least c.args.change.most c.args.change.to) (changed_once c.args.change.least c.args.change.most c.args.change.to c.requires.small) (slice_index t.items.items) (slice_index ys) (rw c.deref_mut.ensures.value at c.change_network.ensures.by))
