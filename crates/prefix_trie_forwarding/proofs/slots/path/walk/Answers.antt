-- Each step goes into the group of the slot.
use Rattle.std.proofs.Common.{◌≡◌, suc, ◌+◌, ◌*◌, ◌-◌, ◌^◌, ◌≤◌, length, refl, sym, subst, arith, slice_index}
use Rattle.prefix_trie_forwarding.specs.Keys.{first_of}
use Rattle.prefix_trie_forwarding.specs.Walks.{Reaches, upper}
use Rattle.prefix_trie_forwarding.proofs.Changes.{at_start}
use Rattle.prefix_trie_forwarding.proofs.Prefixes.{reached_inside, stepped}
use Rattle.prefix_trie_forwarding.proofs.Reading.{first_address}
use Rattle.prefix_trie_forwarding.proofs.slots.path.walk.Goals as goal

pub loop-depth-init : goal.loop-depth-init
loop-depth-init g c =
    let b = first_of (c.args.root_bits + 8 * c.args.levels) (g.K.Key.bits c.args.first) in
    let at = c.root_index-at.ensures c.args.levels c.requires.divided.reads in (
      c.args.levels,
      0,
      refl,
      omega arith,
      (λ l. absurd (omega (arith, l))),
      subst (λ x. Reaches (2 ^ c.args.root_bits) c.args.levels (slice_index c.args.slots.now) b 0 c.args.levels x) (sym at) (at_start (2 ^ c.args.root_bits) c.args.levels (slice_index c.args.slots.now) b),
      refl,
    )

pub bounds-slots-at : goal.bounds-slots-at
bounds-slots-at g c =
    let i = c.loop-depth.invariant in
    let long : length (g.K.Key.bits c.args.first) ≡ g.K.Key.bit_width = g.met.K.Key.key_laws.bits_length c.args.first c.is_key.ensures.key in
    let ib = first_address (g.K.Key.bits c.args.first) c.args.root_bits c.args.levels (omega (arith, long, c.requires.divided.reads)) in
    let inside = reached_inside (2 ^ c.args.root_bits) c.args.levels c.args.groups (slice_index c.args.slots.now) (first_of (c.args.root_bits + 8 * c.args.levels) (g.K.Key.bits c.args.first)) i.1 i.0 c.loop-depth.at c.requires.slots ib i.5 in
    omega (arith, inside, c.requires.sizes)

pub offset_bounds-slots-at : goal.offset_bounds-slots-at
offset_bounds-slots-at g c =
    let i = c.loop-depth.invariant in
    let long : length (g.K.Key.bits c.args.first) ≡ g.K.Key.bit_width = g.met.K.Key.key_laws.bits_length c.args.first c.is_key.ensures.key in
    let ib = first_address (g.K.Key.bits c.args.first) c.args.root_bits c.args.levels (omega (arith, long, c.requires.divided.reads)) in
    let inside = reached_inside (2 ^ c.args.root_bits) c.args.levels c.args.groups (slice_index c.args.slots.now) (first_of (c.args.root_bits + 8 * c.args.levels) (g.K.Key.bits c.args.first)) i.1 i.0 c.loop-depth.at c.requires.slots ib i.5 in
    omega (arith, inside, c.requires.sizes, c.type_inv.slots)

pub loop-depth-preserved : goal.loop-depth-preserved
loop-depth-preserved g c =
    let i = c.loop-depth.invariant in
    let b = first_of (c.args.root_bits + 8 * c.args.levels) (g.K.Key.bits c.args.first) in
    let s = slice_index c.args.slots.now in
    let k = i.0 - 1 in
    let some : 1 ≤ i.0 = omega (arith, i.2, c.loop-depth-test.true, c.requires.len, c.requires.divided.reads) in
    let level : i.0 ≡ suc (i.0 - 1) = omega (arith, some) in
    let r = subst (λ k. Reaches (2 ^ c.args.root_bits) c.args.levels s b i.1 k c.loop-depth.at) level i.5 in
    let to = c.next_slot-at.ensures (upper (i.0 - 1) b) (c.byte_at.ensures.part (c.args.root_bits + 8 * c.args.levels) (i.0 - 1) c.requires.divided.reads (omega (arith, i.2, some))) in (
      i.0 - 1,
      suc i.1,
      omega (arith, i.2, some),
      omega (arith, i.3),
      (λ _. omega (arith, c.loop-depth-test.true)),
      stepped (2 ^ c.args.root_bits) c.args.levels b i.1 (i.0 - 1) c.loop-depth.at (s c.loop-depth.at) c.next_slot-at.result s r refl c.if-slots-at-ge-GROUP.true to,
      (omega (arith, i.3), (i.1, r), c.if-slots-at-ge-GROUP.true),
    )
