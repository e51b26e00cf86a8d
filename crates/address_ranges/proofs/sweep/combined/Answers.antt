-- Each step reads the lower of the next breakpoints, and after the last step all are read.
use Rattle.std.proofs.Common.{◌∙◌, ap, ◌+◌, ◌^◌, ◌<◌}
use Rattle.prefix_trie_bits.specs.BitStrings.{number-below}
use Rattle.prefix_trie_bits.specs.Model.Bits.{number}
use Rattle.address_ranges.specs.Breaks.{numbers}
use Rattle.address_ranges.specs.Sweeps.{changed_to}
use Rattle.address_ranges.proofs.Sweeps.{swept_is}
use Rattle.address_ranges.proofs.sweep.combined.Goals as goal

pub loop-i-preserved : goal.loop-i-preserved
loop-i-preserved g c =
    let w = g.K.Key.bit_width in
    let bits = g.K.Key.bits in
    let key = c.next_break-at.result.0 in
    let fits : number (bits c.next_break-at.result.0) < 2 ^ w = number-below w (bits key) (g.met.K.Key.key_laws.bits_length key c.is_key.ensures.key) in
    swept_is w g.O.Operation.keeps (numbers bits c.args.left.now) (numbers bits c.args.right.now) c.loop-i.i c.loop-i.j (numbers bits c.loop-i.out.items) (number (bits key)) c.next_break-at.result.1 c.next_break-at.result.2
    c.requires.left_is.rising c.requires.right_is.rising c.loop-i.invariant c.next_break-at.ensures fits _ _ _
    (ap (λ k. c.loop-i.i + k) c.from-i.ensures) (ap (λ k. c.loop-i.j + k) c.from-j.ensures)
    (c.in_ok-push_if_changed.ensures ∙ ap (λ b. changed_to b (numbers bits c.loop-i.out.items) (number (bits c.next_break-at.result.0))) c.keeps.ensures)
