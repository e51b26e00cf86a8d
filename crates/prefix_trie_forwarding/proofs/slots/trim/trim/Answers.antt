-- A spare group is given back, and a used one ends the loop.
use Rattle.std.proofs.Common.{◌≡◌, ◌∙◌, ◌+◌, ◌*◌, ◌-◌, ◌^◌, ◌≤◌, [], ◌∷◌, ◌++◌, length, refl, sym, subst, arith, slice_index, slice_set}
use Rattle.prefix_trie_forwarding.specs.Counts.{IsCounted}
use Rattle.prefix_trie_forwarding.specs.Keys.{first_of}
use Rattle.prefix_trie_forwarding.specs.Slots.{AreGroups}
use Rattle.prefix_trie_forwarding.proofs.Reading.{first_address}
use Rattle.prefix_trie_forwarding.proofs.Trimming.{before_end, given_counted, given_room, given_set, given_sooner, given_trims, no_before, not_spare, so_far, trims_none}
use Rattle.prefix_trie_forwarding.proofs.slots.trim.trim.Goals as goal

pub trim-init : goal.trim-init
trim-init g c = record {
  set = c.requires.set;
  made = refl;
  end = c.walk-end.ensures;
  trims = so_far c.args.root_bits c.args.levels (first_of (c.args.root_bits + 8 * c.args.levels) (g.K.Key.bits c.args.first)) (c.args.root_bits + 8 * c.args.levels - c.args.len) (slice_index c.args.slots.now);
  counted = c.requires.counted;
}

pub returns-then-not-is_spare-clause-trims : goal.returns-then-not-is_spare-clause-trims
returns-then-not-is_spare-clause-trims g c =
    let i = c.trim.invariant in
    let long : length (g.K.Key.bits c.args.first) ≡ g.K.Key.bit_width = g.met.K.Key.key_laws.bits_length c.args.first c.is_key.ensures.key in
    let r = c.args.root_bits in
    let levels = c.args.levels in
    let b = first_of (c.args.root_bits + 8 * c.args.levels) (g.K.Key.bits c.args.first) in
    let xs = c.trim.slots in
    let ib = first_address (g.K.Key.bits c.args.first) c.args.root_bits c.args.levels (omega (arith, long, c.requires.divided.reads)) in
    let fits : c.args.len ≤ c.args.root_bits + 8 * c.args.levels = omega (arith, c.requires.len, c.requires.divided.reads) in
    let bound : c.args.root_bits + 8 * c.args.levels ≤ 200 = omega (arith, c.requires.divided.ends, c.requires.divided.small) in
    let x = c.in-Some.at in
    let before = before_end c.args.root_bits c.args.levels (slice_index c.trim.slots) b c.args.len c.in-Some.at c.trim.end i.end c.in-Some.is in
    let low_is : c.power.result + 256 * (slice_index c.trim.slots c.in-Some.at - 2147483648) ≡ 2 ^ c.args.root_bits + 256 * (slice_index c.trim.slots c.in-Some.at - 2147483648) = omega (arith, c.power.ensures) in
    not_spare r levels c.trim.groups.made b c.args.len xs c.trim.groups.free.items c.trim.end i.end x (c.power.result + 256 * (slice_index c.trim.slots c.in-Some.at - 2147483648)) ((c.trim.end.depth - 6) * 8388608) i.set before low_is refl bound fits ib (c.is_spare.ensures.used c.if-not-is_spare.true) (slice_index c.args.slots.now) i.trims

pub give-requires : goal.give-requires
give-requires g c =
    let i = c.trim.invariant in
    let long : length (g.K.Key.bits c.args.first) ≡ g.K.Key.bit_width = g.met.K.Key.key_laws.bits_length c.args.first c.is_key.ensures.key in
    let r = c.args.root_bits in
    let levels = c.args.levels in
    let b = first_of (c.args.root_bits + 8 * c.args.levels) (g.K.Key.bits c.args.first) in
    let xs = c.trim.slots in
    let ib = first_address (g.K.Key.bits c.args.first) c.args.root_bits c.args.levels (omega (arith, long, c.requires.divided.reads)) in
    let fits : c.args.len ≤ c.args.root_bits + 8 * c.args.levels = omega (arith, c.requires.len, c.requires.divided.reads) in
    let bound : c.args.root_bits + 8 * c.args.levels ≤ 200 = omega (arith, c.requires.divided.ends, c.requires.divided.small) in
    let x = c.in-Some.at in
    let before = before_end c.args.root_bits c.args.levels (slice_index c.trim.slots) b c.args.len c.in-Some.at c.trim.end i.end c.in-Some.is in
    let low_is : c.power.result + 256 * (slice_index c.trim.slots c.in-Some.at - 2147483648) ≡ 2 ^ c.args.root_bits + 256 * (slice_index c.trim.slots c.in-Some.at - 2147483648) = omega (arith, c.power.ensures) in
    let spare = c.is_spare.ensures.spare c.if-not-is_spare.false in
    let room = given_room r levels c.trim.groups.made b c.args.len xs c.trim.groups.free.items c.trim.end i.end x (c.power.result + 256 * (slice_index c.trim.slots c.in-Some.at - 2147483648)) ((c.trim.end.depth - 6) * 8388608) i.set before low_is refl bound fits ib spare.0 spare.1 in
    omega (arith, room)

pub trim-preserved : goal.trim-preserved
trim-preserved g c =
    let i = c.trim.invariant in
    let long : length (g.K.Key.bits c.args.first) ≡ g.K.Key.bit_width = g.met.K.Key.key_laws.bits_length c.args.first c.is_key.ensures.key in
    let r = c.args.root_bits in
    let levels = c.args.levels in
    let b = first_of (c.args.root_bits + 8 * c.args.levels) (g.K.Key.bits c.args.first) in
    let xs = c.trim.slots in
    let ib = first_address (g.K.Key.bits c.args.first) c.args.root_bits c.args.levels (omega (arith, long, c.requires.divided.reads)) in
    let fits : c.args.len ≤ c.args.root_bits + 8 * c.args.levels = omega (arith, c.requires.len, c.requires.divided.reads) in
    let bound : c.args.root_bits + 8 * c.args.levels ≤ 200 = omega (arith, c.requires.divided.ends, c.requires.divided.small) in
    let x = c.in-Some.at in
    let before = before_end c.args.root_bits c.args.levels (slice_index c.trim.slots) b c.args.len c.in-Some.at c.trim.end i.end c.in-Some.is in
    let low_is : c.power.result + 256 * (slice_index c.trim.slots c.in-Some.at - 2147483648) ≡ 2 ^ c.args.root_bits + 256 * (slice_index c.trim.slots c.in-Some.at - 2147483648) = omega (arith, c.power.ensures) in
    let spare = c.is_spare.ensures.spare c.if-not-is_spare.false in
    let made = c.give.ensures.made in
    let free = c.give.ensures.free in
    let ys = (slice_set c.trim.slots c.in-Some.at (slice_index c.trim.slots (c.power.result + 256 * (slice_index c.trim.slots c.in-Some.at - 2147483648)))) in
    record {
      set = subst (λ f. AreGroups r c.give.new.self.made ys f) (sym free) (subst (λ n. AreGroups r n ys (c.trim.groups.free.items ++ (slice_index c.trim.slots c.in-Some.at - 2147483648) ∷ [])) (sym made) (given_set r levels c.trim.groups.made b c.args.len xs c.trim.groups.free.items c.trim.end i.end x (c.power.result + 256 * (slice_index c.trim.slots c.in-Some.at - 2147483648)) ((c.trim.end.depth - 6) * 8388608) i.set before low_is refl bound fits ib spare.0 spare.1));
      made = made ∙ i.made;
      end = c.walk-end-in-Some.ensures;
      trims = given_trims r levels c.trim.groups.made b c.args.len xs c.trim.groups.free.items c.trim.end i.end x (c.power.result + 256 * (slice_index c.trim.slots c.in-Some.at - 2147483648)) ((c.trim.end.depth - 6) * 8388608) i.set before low_is refl bound fits ib spare.0 spare.1 (slice_index c.args.slots.now) i.trims;
      counted = subst (λ f. IsCounted r levels c.give.new.self.made (slice_index ys) f) (sym free) (subst (λ n. IsCounted r levels n (slice_index ys) (c.trim.groups.free.items ++ (slice_index c.trim.slots c.in-Some.at - 2147483648) ∷ [])) (sym made) (given_counted r levels c.trim.groups.made b c.args.len xs c.trim.groups.free.items c.trim.end i.end x (c.power.result + 256 * (slice_index c.trim.slots c.in-Some.at - 2147483648)) ((c.trim.end.depth - 6) * 8388608) i.set before low_is refl bound fits ib spare.0 spare.1 i.counted));
    }

pub trim-smaller : goal.trim-smaller
trim-smaller g c =
    let i = c.trim.invariant in
    let long : length (g.K.Key.bits c.args.first) ≡ g.K.Key.bit_width = g.met.K.Key.key_laws.bits_length c.args.first c.is_key.ensures.key in
    let r = c.args.root_bits in
    let levels = c.args.levels in
    let b = first_of (c.args.root_bits + 8 * c.args.levels) (g.K.Key.bits c.args.first) in
    let xs = c.trim.slots in
    let ib = first_address (g.K.Key.bits c.args.first) c.args.root_bits c.args.levels (omega (arith, long, c.requires.divided.reads)) in
    let fits : c.args.len ≤ c.args.root_bits + 8 * c.args.levels = omega (arith, c.requires.len, c.requires.divided.reads) in
    let bound : c.args.root_bits + 8 * c.args.levels ≤ 200 = omega (arith, c.requires.divided.ends, c.requires.divided.small) in
    let x = c.in-Some.at in
    let before = before_end c.args.root_bits c.args.levels (slice_index c.trim.slots) b c.args.len c.in-Some.at c.trim.end i.end c.in-Some.is in
    let low_is : c.power.result + 256 * (slice_index c.trim.slots c.in-Some.at - 2147483648) ≡ 2 ^ c.args.root_bits + 256 * (slice_index c.trim.slots c.in-Some.at - 2147483648) = omega (arith, c.power.ensures) in
    let spare = c.is_spare.ensures.spare c.if-not-is_spare.false in
    given_sooner r levels c.trim.groups.made b c.args.len xs c.trim.groups.free.items c.trim.end i.end x (c.power.result + 256 * (slice_index c.trim.slots c.in-Some.at - 2147483648)) ((c.trim.end.depth - 6) * 8388608) i.set before low_is refl bound fits ib spare.0 spare.1 c.walk-end-in-Some.result c.walk-end-in-Some.ensures

pub returns-clause-trims : goal.returns-clause-trims
returns-clause-trims g c =
    let i = c.trim.invariant in
    let fits : c.args.len ≤ c.args.root_bits + 8 * c.args.levels = omega (arith, c.requires.len, c.requires.divided.reads) in
    let depth = no_before c.args.root_bits c.args.levels (slice_index c.trim.slots) (first_of (c.args.root_bits + 8 * c.args.levels) (g.K.Key.bits c.args.first)) c.args.len c.trim.end i.end c.in_default.is in
    trims_none c.args.root_bits c.args.levels (first_of (c.args.root_bits + 8 * c.args.levels) (g.K.Key.bits c.args.first)) c.args.len (slice_index c.args.slots.now) (slice_index c.trim.slots) c.trim.end i.end i.trims fits depth
