-- A range takes two breakpoints, and the last one may take one.
use Rattle.std.proofs.Common.{◌∙◌, ap, sym}
use Rattle.prefix_trie_bits.specs.Model.Bits.{number}
use Rattle.address_ranges.proofs.Addresses.{number_zeros}
use Rattle.address_ranges.proofs.Walks.{breaks_after, last_range, no_items}
use Rattle.address_ranges.proofs.ranges.RangesIterator.next.Goals as goal

pub invariant_of-self : goal.invariant_of-self
invariant_of-self g c =
    breaks_after g.K.Key.bits g.K.Key.bit_width c.self.inside.breaks.now c.in_ok-first.first.now c.in_ok-first.rest.now c.in_ok-first.ensures.cases.0 c.in-Some.past.now c.in-Some.others.now c.in-Some.ensures.cases.0 c.self.invariant

pub returns-in-None-clause-steps : goal.returns-in-None-clause-steps
returns-in-None-clause-steps g c =
    sym c.self.view_is
    ∙ last_range g.K.Key.bits g.K.Key.bit_width c.self.inside.breaks.now c.in_ok-first.first.now c.in_ok-first.rest.now c.in_ok-first.ensures.cases.0
    (number (g.K.Key.bits c.filled.result)) (number (g.K.Key.bits c.zero.result)) (no_items c.in_ok-first.rest.now c.in-None.ensures.cases) (ap number c.zero.ensures.value ∙ number_zeros g.K.Key.bit_width) c.filled.ensures
