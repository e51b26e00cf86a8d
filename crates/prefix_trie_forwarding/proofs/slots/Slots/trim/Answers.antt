-- No answer changes, and groups that are not used are given back.
use Rattle.std.proofs.Common.{◌+◌, ◌*◌, ◌-◌, ◌^◌, length, drop, sym, subst, arith, slice_index}
use Rattle.std.proofs.lemmas.List.{take_at}
use Rattle.prefix_trie_forwarding.specs.Counts.{IsCounted}
use Rattle.prefix_trie_forwarding.specs.Keys.{first_of}
use Rattle.prefix_trie_forwarding.specs.Slots.{AreGroups, Trims}
use Rattle.prefix_trie_forwarding.specs.Walks.{HasValues}
use Rattle.prefix_trie_forwarding.proofs.Points.{values_same}
use Rattle.prefix_trie_forwarding.proofs.slots.Slots.trim.Goals as goal

pub invariant_of-self : goal.invariant_of-self
invariant_of-self g c =
    let t = c.args.self.now in
    let ys = c.trim.new.slots in
    let back = take_at ys (drop (length ys) t.items.items) t.items.len (omega (arith, c.trim.auto.slots, c.deref_mut.ensures.len)) in
    let gs = c.trim.new.groups in
    record {
      sound = record {
        few_bits = t.sound.few_bits;
        few_levels = t.sound.few_levels;
        set = subst (λ zs. AreGroups t.root_bits gs.made zs gs.free.items) (sym back) c.trim.ensures.set;
        values = subst (λ zs. HasValues (2 ^ t.root_bits) t.levels (slice_index zs)) (sym back) (values_same (2 ^ t.root_bits) t.levels (slice_index t.items.items) (slice_index ys) (rw c.deref_mut.ensures.value at c.trim.ensures.trims).same t.sound.values);
        counted = subst (λ zs. IsCounted t.root_bits t.levels gs.made (slice_index zs) gs.free.items) (sym back) c.trim.ensures.counted;
      };
    }

pub returns-clause-trims : goal.returns-clause-trims
returns-clause-trims g c =
    let t = c.args.self.now in
    let ys = c.trim.new.slots in
    let back = take_at ys (drop (length ys) t.items.items) t.items.len (omega (arith, c.trim.auto.slots, c.deref_mut.ensures.len)) in
    subst (λ zs. Trims t.root_bits t.levels (first_of (t.root_bits + 8 * t.levels) (g.K.Key.bits c.args.first)) (t.root_bits + 8 * t.levels - c.args.len) (slice_index t.items.items) (slice_index zs)) (sym back) (rw c.deref_mut.ensures.value at c.trim.ensures.trims)
