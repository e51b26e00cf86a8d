-- Each step keeps the answer, and one that is no group is it.
use Rattle.std.proofs.Common.{◌≡◌, ◌+◌, ◌*◌, ◌-◌, ◌^◌, ◌<◌, ◌≤◌, ◌∙◌, ◌++◌, ap, drop, sym, refl, subst, suc, arith, length, slice_index}
use Rattle.prefix_trie_bits.specs.Model.Bits.{zeros}
use Rattle.prefix_trie_forwarding.specs.Keys.{first_of}
use Rattle.prefix_trie_forwarding.specs.Walks.{upper, value_from}
use Rattle.prefix_trie_forwarding.proofs.Lookups.{next_inside, root_inside}
use Rattle.prefix_trie_forwarding.proofs.Reading.{byte_bits, first_address, rest_after, rest_byte}
use Rattle.prefix_trie_forwarding.proofs.Walks.{goes_on, value_from-value, value_stepped}
use Rattle.prefix_trie_forwarding.proofs.slots.find.find_counted.Goals as goal

pub bounds-slots-root_index : goal.bounds-slots-root_index
bounds-slots-root_index g c =
    let long : length (g.K.Key.bits c.args.address) ≡ g.K.Key.bit_width = g.met.K.Key.key_laws.bits_length c.args.address c.is_key.ensures.key in
    root_inside c.args.root_bits c.args.levels c.args.groups (length c.args.slots.now) c.root_index.result (g.K.Key.bits c.args.address) (omega (arith, long, c.requires.divided.reads))
    (c.root_index.ensures c.args.levels c.requires.divided.reads) c.requires.sizes

pub offset_bounds-slots-root_index : goal.offset_bounds-slots-root_index
offset_bounds-slots-root_index g c =
    let long : length (g.K.Key.bits c.args.address) ≡ g.K.Key.bit_width = g.met.K.Key.key_laws.bits_length c.args.address c.is_key.ensures.key in
    let l = root_inside c.args.root_bits c.args.levels c.args.groups (length c.args.slots.now) c.root_index.result (g.K.Key.bits c.args.address) (omega (arith, long, c.requires.divided.reads))
    (c.root_index.ensures c.args.levels c.requires.divided.reads) c.requires.sizes in
    omega (arith, l, c.type_inv.slots)

pub loop-slot-init : goal.loop-slot-init
loop-slot-init g c =
    let at = c.root_index.ensures c.args.levels c.requires.divided.reads in (
      c.args.levels,
      c.root_index.result,
      c.args.root_bits,
      refl,
      refl,
      ap (λ x. value_from (2 ^ c.args.root_bits) (slice_index c.args.slots.now) (first_of (c.args.root_bits + 8 * c.args.levels) (g.K.Key.bits c.args.address)) c.args.levels x) at,
      omega arith,
      (λ _. c.behind-rest.ensures.value),
    )

pub bounds-slots-next_slot : goal.bounds-slots-next_slot
bounds-slots-next_slot g c =
    let i = c.loop-slot.invariant in
    let b = g.K.Key.bits c.args.address in
    let long : length b ≡ g.K.Key.bit_width = g.met.K.Key.key_laws.bits_length c.args.address c.is_key.ensures.key in
    let w = c.args.root_bits + 8 * c.args.levels in
    let a = first_of w b in
    let ia = first_address b c.args.root_bits c.args.levels (omega (arith, long, c.requires.divided.reads)) in
    let group = subst (λ n. 2147483648 ≤ n) i.4 c.loop-slot-test.true in
    let some = goes_on (2 ^ c.args.root_bits) (slice_index c.args.slots.now) a i.0 i.1 _ i.5 (c.requires.values a ia) group in
    let within : i.2 ≤ length b = omega (arith, some, i.3, long, c.requires.divided.ends) in
    let rest = i.7 (omega (arith, within, long)) in
    let byte = c.first_byte.ensures.byte ∙ rest_byte b (g.K.Key.bits c.loop-slot.rest) i.2 rest ∙ byte_bits b w (omega (arith, long, c.requires.divided.reads)) i.2 (i.0 - 1) within (omega (arith, some, i.3)) in
    let at = c.next_slot.ensures (upper (i.0 - 1) a) byte in
    next_inside (2 ^ c.args.root_bits) c.args.groups (length c.args.slots.now) c.loop-slot.slot i.1 c.next_slot.result (upper (i.0 - 1) a) (slice_index c.args.slots.now) c.requires.slots i.4 c.loop-slot-test.true at c.requires.sizes

pub offset_bounds-slots-next_slot : goal.offset_bounds-slots-next_slot
offset_bounds-slots-next_slot g c =
    let i = c.loop-slot.invariant in
    let b = g.K.Key.bits c.args.address in
    let long : length b ≡ g.K.Key.bit_width = g.met.K.Key.key_laws.bits_length c.args.address c.is_key.ensures.key in
    let w = c.args.root_bits + 8 * c.args.levels in
    let a = first_of w b in
    let ia = first_address b c.args.root_bits c.args.levels (omega (arith, long, c.requires.divided.reads)) in
    let group = subst (λ n. 2147483648 ≤ n) i.4 c.loop-slot-test.true in
    let some = goes_on (2 ^ c.args.root_bits) (slice_index c.args.slots.now) a i.0 i.1 _ i.5 (c.requires.values a ia) group in
    let within : i.2 ≤ length b = omega (arith, some, i.3, long, c.requires.divided.ends) in
    let rest = i.7 (omega (arith, within, long)) in
    let byte = c.first_byte.ensures.byte ∙ rest_byte b (g.K.Key.bits c.loop-slot.rest) i.2 rest ∙ byte_bits b w (omega (arith, long, c.requires.divided.reads)) i.2 (i.0 - 1) within (omega (arith, some, i.3)) in
    let at = c.next_slot.ensures (upper (i.0 - 1) a) byte in
    let l = next_inside (2 ^ c.args.root_bits) c.args.groups (length c.args.slots.now) c.loop-slot.slot i.1 c.next_slot.result (upper (i.0 - 1) a) (slice_index c.args.slots.now) c.requires.slots i.4 c.loop-slot-test.true at c.requires.sizes in
    omega (arith, l, c.type_inv.slots)

pub loop-slot-preserved : goal.loop-slot-preserved
loop-slot-preserved g c =
    let i = c.loop-slot.invariant in
    let b = g.K.Key.bits c.args.address in
    let long : length b ≡ g.K.Key.bit_width = g.met.K.Key.key_laws.bits_length c.args.address c.is_key.ensures.key in
    let w = c.args.root_bits + 8 * c.args.levels in
    let a = first_of w b in
    let ia = first_address b c.args.root_bits c.args.levels (omega (arith, long, c.requires.divided.reads)) in
    let group = subst (λ n. 2147483648 ≤ n) i.4 c.loop-slot-test.true in
    let some = goes_on (2 ^ c.args.root_bits) (slice_index c.args.slots.now) a i.0 i.1 _ i.5 (c.requires.values a ia) group in
    let within : i.2 ≤ length b = omega (arith, some, i.3, long, c.requires.divided.ends) in
    let rest = i.7 (omega (arith, within, long)) in
    let byte = c.first_byte.ensures.byte ∙ rest_byte b (g.K.Key.bits c.loop-slot.rest) i.2 rest ∙ byte_bits b w (omega (arith, long, c.requires.divided.reads)) i.2 (i.0 - 1) within (omega (arith, some, i.3)) in
    let at = c.next_slot.ensures (upper (i.0 - 1) a) byte in
    let level : suc (i.0 - 1) ≡ i.0 = omega (arith, some) in (
      i.0 - 1,
      c.next_slot.result,
      i.2 + 8,
      omega (arith, some, i.3),
      refl,
      value_stepped (2 ^ c.args.root_bits) (slice_index c.args.slots.now) a (i.0 - 1) i.1 c.loop-slot.slot c.next_slot.result _
          (ap (λ k. value_from (2 ^ c.args.root_bits) (slice_index c.args.slots.now) a k i.1) level ∙ i.5) i.4 c.loop-slot-test.true at,
      omega (arith, some, i.6),
      (λ deeper. c.behind-rest-in-loop-slot.ensures.value ∙ ap (λ n. drop n (g.K.Key.bits c.loop-slot.rest) ++ zeros n) (let eight : c.min.result ≡ 8 = omega (arith, c.min.ensures, c.width.ensures, deeper) in eight) ∙ rest_after b (g.K.Key.bits c.loop-slot.rest) i.2 (omega (arith, deeper, long)) rest),
    )

pub loop-slot-smaller : goal.loop-slot-smaller
loop-slot-smaller g c =
    let i = c.loop-slot.invariant in
    let b = g.K.Key.bits c.args.address in
    let long : length b ≡ g.K.Key.bit_width = g.met.K.Key.key_laws.bits_length c.args.address c.is_key.ensures.key in
    let w = c.args.root_bits + 8 * c.args.levels in
    let a = first_of w b in
    let ia = first_address b c.args.root_bits c.args.levels (omega (arith, long, c.requires.divided.reads)) in
    let group = subst (λ n. 2147483648 ≤ n) i.4 c.loop-slot-test.true in
    let some = goes_on (2 ^ c.args.root_bits) (slice_index c.args.slots.now) a i.0 i.1 _ i.5 (c.requires.values a ia) group in
    omega (arith, some, i.6)

pub returns-clause-answer : goal.returns-clause-answer
returns-clause-answer g c =
    let i = c.loop-slot.invariant in
    let a = first_of (c.args.root_bits + 8 * c.args.levels) (g.K.Key.bits c.args.address) in
    i.4 ∙ sym (value_from-value (2 ^ c.args.root_bits) (slice_index c.args.slots.now) a i.0 i.1 (subst (λ n. n < 2147483648) i.4 c.loop-slot-test.false)) ∙ i.5

pub returns-clause-reads : goal.returns-clause-reads
returns-clause-reads g c = let i = c.loop-slot.invariant in omega (arith, i.6)

pub overflow_add-reads : goal.overflow_add-reads
overflow_add-reads g c =
    let i = c.loop-slot.invariant in
    omega (arith, i.6, c.requires.divided.ends, c.requires.divided.small)
