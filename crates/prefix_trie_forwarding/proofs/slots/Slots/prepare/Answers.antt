-- More free groups change no slot.
use Rattle.std.proofs.Common.{◌+◌, ◌*◌, ◌^◌, arith, inl, inr, slice_index}
use Rattle.prefix_trie_forwarding.specs.Keys.{first_of}
use Rattle.prefix_trie_forwarding.proofs.Counting.{count_kept}
use Rattle.prefix_trie_forwarding.proofs.Points.{end_points, keeps_points, values_points}
use Rattle.prefix_trie_forwarding.proofs.slots.Slots.prepare.Goals as goal

pub invariant_of-self : goal.invariant_of-self
invariant_of-self g c =
    let t = c.args.self.now in
    let ys = c.reserve.new.slots.items in
    let same = c.reserve.ensures.points in
    record {
      sound = record {
        few_bits = t.sound.few_bits;
        few_levels = t.sound.few_levels;
        set = c.reserve.ensures.set;
        values = values_points (2 ^ t.root_bits) t.levels t.items.items ys same t.sound.values;
        counted =
            count_kept t.root_bits t.levels (slice_index t.items.items) (slice_index ys) t.groups.made c.reserve.new.groups.made t.groups.free.items c.reserve.new.groups.free.items
            (keeps_points (2 ^ t.root_bits) t.levels t.items.items ys same) (omega (arith, c.reserve.ensures.as_many)) t.sound.counted;
      };
    }

pub returns-clause-end : goal.returns-clause-end
returns-clause-end g c =
    let t = c.args.self.now in
    end_points t.root_bits t.levels (first_of (t.root_bits + 8 * t.levels) (g.K.Key.bits c.args.first)) c.args.len c.walk-end.result t.items.items c.reserve.new.slots.items c.reserve.ensures.points
    (rw c.deref.ensures.value at c.walk-end.ensures)

pub returns-clause-enough : goal.returns-clause-enough
returns-clause-enough g c = omega (arith, c.in_ok-reserve.ensures.enough, c.saturating_sub.ensures)

pub returns-clause-made : goal.returns-clause-made
returns-clause-made g c = elim c.in_ok-reserve.ensures.made [
  | inl same ↦ inl same
  | inr few ↦ inr (omega (arith, few.0, few.1, c.saturating_sub.ensures))
]
