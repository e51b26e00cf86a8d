-- A step adds ones.
use Rattle.std.proofs.Common.{◌∙◌, ◌+◌, ◌-◌, ◌^◌, ◌≤◌, ◌++◌, ap, arith, sym, take}
use Rattle.std.proofs.lemmas.Nat.{one_shl}
use Rattle.prefix_trie_bits.specs.Model.Bits.{digits, zeros}
use Rattle.address_ranges.proofs.Predecessors.{ones_added}
use Rattle.address_ranges.proofs.before.filled.Goals as goal

pub loop-done-preserved : goal.loop-done-preserved
loop-done-preserved g c =
    let inv = c.loop-done.invariant in
    let d = c.loop-done.done in
    let n = c.min-n.result in
    let width = c.width-width.ensures in
    let few = c.min-n.ensures in
    let short = inv.short in
    let fits : c.loop-done.done + c.min-n.result ≤ c.width-width.result = omega (arith, few, short) in
    let ones = one_shl c.min-n.result 32 (omega (arith, few)) in
    let is = c.extend-last.ensures.value
    ∙ ap (λ x. take d (g.K.Key.bits c.loop-done.last) ++ digits n (x - 1) ++ zeros (g.K.Key.bit_width - (d + n))) ones
    ∙ ap (λ w. take d (g.K.Key.bits c.loop-done.last) ++ digits n (2 ^ n - 1) ++ zeros (w - (d + n))) (sym width) in
    let step = ones_added c.width-width.result d n (g.K.Key.bits c.loop-done.last) (g.K.Key.bits c.extend-last.result) (g.met.K.Key.key_laws.bits_length c.loop-done.last inv.key ∙ sym width) fits inv.kept is in
    record { short = fits; kept = step.1; at = step.0 ∙ inv.at; key = c.extend-last.ensures.key }
