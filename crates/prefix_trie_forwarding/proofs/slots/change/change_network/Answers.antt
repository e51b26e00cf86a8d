-- The path of the network is there, and its slots are changed.
use Rattle.std.proofs.Common.{◌≡◌, ◌+◌, ◌-◌, ◌*◌, ◌/◌, ◌≤◌, length, slice_index, arith}
use Rattle.prefix_trie_forwarding.specs.Keys.{first_of}
use Rattle.prefix_trie_forwarding.specs.Walks.{changed}
use Rattle.prefix_trie_forwarding.proofs.Ends.{end_changed, end_fits, end_reached, end_small}
use Rattle.prefix_trie_forwarding.proofs.Reading.{first_address}
use Rattle.prefix_trie_forwarding.proofs.slots.change.change_network.Goals as goal

pub overflow_sub-left : goal.overflow_sub-left
overflow_sub-left g c = omega (arith, c.walk-end.ensures.depth)

pub overflow_sub-end : goal.overflow_sub-end
overflow_sub-end g c =
    let e = c.walk-end.ensures in
    let long : length (g.K.Key.bits c.args.first) ≡ g.K.Key.bit_width = g.met.K.Key.key_laws.bits_length c.args.first c.is_key.ensures.key in
    let a = first_of (c.args.root_bits + 8 * c.args.levels) (g.K.Key.bits c.args.first) in
    let s = slice_index c.args.slots.now in
    let ia = first_address (g.K.Key.bits c.args.first) c.args.root_bits c.args.levels (omega (arith, long, c.requires.divided.reads)) in
    let fits : c.args.len ≤ c.args.root_bits + 8 * c.args.levels = omega (arith, c.requires.len, c.requires.divided.reads) in
    let done = end_reached c.args.root_bits c.args.levels s a c.args.len c.walk-end.result e c.requires.path fits in
    done

pub power-count-requires : goal.power-count-requires
power-count-requires g c =
    let e = c.walk-end.ensures in
    let long : length (g.K.Key.bits c.args.first) ≡ g.K.Key.bit_width = g.met.K.Key.key_laws.bits_length c.args.first c.is_key.ensures.key in
    let a = first_of (c.args.root_bits + 8 * c.args.levels) (g.K.Key.bits c.args.first) in
    let s = slice_index c.args.slots.now in
    let ia = first_address (g.K.Key.bits c.args.first) c.args.root_bits c.args.levels (omega (arith, long, c.requires.divided.reads)) in
    let fits : c.args.len ≤ c.args.root_bits + 8 * c.args.levels = omega (arith, c.requires.len, c.requires.divided.reads) in
    let done = end_reached c.args.root_bits c.args.levels s a c.args.len c.walk-end.result e c.requires.path fits in
    end_small c.args.root_bits c.args.levels s a c.args.len c.walk-end.result e done c.requires.aligned ia c.requires.divided.few

pub change_slots-requires-clause-fits : goal.change_slots-requires-clause-fits
change_slots-requires-clause-fits g c =
    let e = c.walk-end.ensures in
    let long : length (g.K.Key.bits c.args.first) ≡ g.K.Key.bit_width = g.met.K.Key.key_laws.bits_length c.args.first c.is_key.ensures.key in
    let a = first_of (c.args.root_bits + 8 * c.args.levels) (g.K.Key.bits c.args.first) in
    let s = slice_index c.args.slots.now in
    let ia = first_address (g.K.Key.bits c.args.first) c.args.root_bits c.args.levels (omega (arith, long, c.requires.divided.reads)) in
    let fits : c.args.len ≤ c.args.root_bits + 8 * c.args.levels = omega (arith, c.requires.len, c.requires.divided.reads) in
    let done = end_reached c.args.root_bits c.args.levels s a c.args.len c.walk-end.result e c.requires.path fits in
    end_fits c.args.root_bits c.args.levels s a c.args.len c.walk-end.result e done c.requires.aligned ia c.args.groups c.power-count.result (length c.args.slots.now) c.requires.slots c.power-count.ensures c.requires.sizes

pub returns-clause-changed : goal.returns-clause-changed
returns-clause-changed g c =
    let e = c.walk-end.ensures in
    let long : length (g.K.Key.bits c.args.first) ≡ g.K.Key.bit_width = g.met.K.Key.key_laws.bits_length c.args.first c.is_key.ensures.key in
    let a = first_of (c.args.root_bits + 8 * c.args.levels) (g.K.Key.bits c.args.first) in
    let s = slice_index c.args.slots.now in
    let ia = first_address (g.K.Key.bits c.args.first) c.args.root_bits c.args.levels (omega (arith, long, c.requires.divided.reads)) in
    let fits : c.args.len ≤ c.args.root_bits + 8 * c.args.levels = omega (arith, c.requires.len, c.requires.divided.reads) in
    let done = end_reached c.args.root_bits c.args.levels s a c.args.len c.walk-end.result e c.requires.path fits in
    end_changed c.args.root_bits c.args.levels s a c.args.len c.walk-end.result e done c.requires.aligned ia c.args.groups c.power-root.result ((c.args.root_bits + 8 * c.args.levels - c.walk-end.result.depth) / 8) c.power-count.result (changed c.args.change.least c.args.change.most c.args.change.to) (slice_index c.change_slots.new.slots)
    c.requires.slots c.requires.values c.power-root.ensures (omega (arith, e.depth)) c.power-count.ensures fits c.change_slots.ensures.changed
