-- The first breakpoint compares as its number.
use Rattle.std.proofs.Common.{◌∙◌, ap, is_eq}
use Rattle.prefix_trie_bits.specs.Model.Bits.{number}
use Rattle.address_ranges.proofs.Keys.{first_zero}
use Rattle.address_ranges.proofs.Addresses.{number_zeros}
use Rattle.address_ranges.proofs.toggle.starts_at_zero.Goals as goal

pub returns-in-Some : goal.returns-in-Some
returns-in-Some g c =
    first_zero g.K.Key.bits c.args.breaks.now c.in-Some.first.now c.is_eq.result _ c.in-Some.ensures.value (ap number c.zero.ensures.value ∙ number_zeros g.K.Key.bit_width) (c.is_eq.ensures ∙ ap is_eq c.order.ensures)
