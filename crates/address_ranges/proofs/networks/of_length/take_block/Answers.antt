-- A range without such a network is passed over, and otherwise its first one is returned.
use Rattle.std.proofs.Common.{◌+◌, ◌-◌, ◌^◌, arith, pow_pos, take}
use Rattle.prefix_trie_bits.specs.Model.Bits.{number}
use Rattle.address_ranges.specs.Appends.{end_of}
use Rattle.address_ranges.proofs.Blocks.{block_first, length_first}
use Rattle.address_ranges.proofs.OfLength.{first_returned, gone_all, gone_fewer, none_left, skipped_next, skipped_none}
use Rattle.address_ranges.proofs.WalkSteps.{new_breaks, new_fewer, new_left, next_breaks}
use Rattle.address_ranges.proofs.networks.of_length.take_block.Goals as goal

pub loop-ends-init : goal.loop-ends-init
loop-ends-init g c = skipped_none g.K.Key.bit_width c.args.len c.args.left.now c.requires.breaks

pub go_on-requires-clause-breaks : goal.go_on-requires-clause-breaks
go_on-requires-clause-breaks g c =
    let w = g.K.Key.bit_width in
    let bits = g.K.Key.bits in
    let e = c.in-Some.ensures in
    next_breaks w bits c.loop-ends.left c.loop-ends.left c.rest_after.result (number (bits c.in-Some.ends.0)) (end_of w bits c.in-Some.ends.1) (number (bits c.in-Some-first_block.first) + 2 ^ (w - c.args.len))
    c.loop-ends.invariant.breaks e.0 e.1 e.2 c.rest_after.ensures

pub returns-in-Some-first_block-clause-returns : goal.returns-in-Some-first_block-clause-returns
returns-in-Some-first_block-clause-returns g c =
    let w = g.K.Key.bit_width in
    let bits = g.K.Key.bits in
    let len = c.args.len in
    let e = c.in-Some.ensures in
    let b = c.in-Some-first_block.ensures in
    let first = c.in-Some-first_block.first in
    let at = number (g.K.Key.bits c.in-Some.ends.0) in
    let end = end_of g.K.Key.bit_width g.K.Key.bits c.in-Some.ends.1 in
    let past = number (g.K.Key.bits c.in-Some-first_block.first) + 2 ^ (g.K.Key.bit_width - c.args.len) in
    let long = g.met.K.Key.key_laws.bits_length first b.0 in
    let here = block_first w (bits first) len long c.requires.within b.2.quotient b.2.aligned in
    let from = b.1 in
    let size = pow_pos (g.K.Key.bit_width - c.args.len) in
    let inv = c.loop-ends.invariant in
    let left = new_left w bits c.loop-ends.left c.go_on.new.self c.rest_after.result at end past inv.breaks e.0 e.1 e.2 c.rest_after.ensures c.go_on.ensures (omega (arith, from)) in
    let less = new_fewer w bits c.loop-ends.left c.go_on.new.self c.rest_after.result at end past inv.breaks e.0 e.1 e.2 c.rest_after.ensures c.go_on.ensures (omega (arith, from, size)) in
    let most = inv.fewer in (
      b.0,
      here,
      first_returned w len c.args.left.now c.requires.within c.loop-ends.left c.go_on.new.self at end (number (bits first)) (take len (bits first)) inv e.0 e.1 e.2 from b.2 b.3 (length_first w (bits first) len long c.requires.within) here left,
      omega (arith, less, most),
    )

pub returns-in-Some-first_block-clause-breaks : goal.returns-in-Some-first_block-clause-breaks
returns-in-Some-first_block-clause-breaks g c =
    let w = g.K.Key.bit_width in
    let bits = g.K.Key.bits in
    let e = c.in-Some.ensures in
    new_breaks w bits c.loop-ends.left c.go_on.new.self c.rest_after.result (number (bits c.in-Some.ends.0)) (end_of w bits c.in-Some.ends.1) (number (bits c.in-Some-first_block.first) + 2 ^ (w - c.args.len))
    c.loop-ends.invariant.breaks e.0 e.1 e.2 c.rest_after.ensures c.go_on.ensures

pub go_on-requires-in-Some-clause-breaks : goal.go_on-requires-in-Some-clause-breaks
go_on-requires-in-Some-clause-breaks g c = gone_all g.K.Key.bit_width c.loop-ends.left c.loop-ends.invariant.breaks c.in-Some.ensures.0

pub loop-ends-preserved : goal.loop-ends-preserved
loop-ends-preserved g c =
    let w = g.K.Key.bit_width in
    let bits = g.K.Key.bits in
    let e = c.in-Some.ensures in
    skipped_next w c.args.len c.args.left.now c.requires.within c.loop-ends.left c.go_on-in-Some.new.self (number (bits c.in-Some.ends.0)) (end_of w bits c.in-Some.ends.1) c.loop-ends.invariant e.0 e.1 e.2 c.in_default-first_block.ensures c.go_on-in-Some.ensures

pub loop-ends-smaller : goal.loop-ends-smaller
loop-ends-smaller g c = gone_fewer g.K.Key.bit_width c.loop-ends.left c.go_on-in-Some.new.self c.loop-ends.invariant.breaks c.in-Some.ensures.0 c.go_on-in-Some.ensures

pub returns-clause-returns : goal.returns-clause-returns
returns-clause-returns g c = (none_left g.K.Key.bit_width c.args.len c.args.left.now c.loop-ends.left c.requires.within c.loop-ends.invariant c.in_default.ensures, c.in_default.ensures)
