-- The first key pushed is 0, and the others follow.
use Rattle.std.proofs.Common.{◌∙◌, ◌++◌, ◌∷◌, [], ap}
use Rattle.prefix_trie_bits.specs.Model.Bits.{number}
use Rattle.address_ranges.specs.Breaks.{numbers}
use Rattle.address_ranges.proofs.Addresses.{number_zeros}
use Rattle.address_ranges.proofs.toggle.with_zero.Goals as goal

pub returns : goal.returns
returns g c =
    let bits = g.K.Key.bits in
    ap (numbers bits) (c.in_ok-extend_from_slice.ensures.items ∙ ap (λ xs. xs ++ c.args.breaks.now) (c.in_ok-push.ensures.items ∙ ap (λ xs. xs ++ c.zero.result ∷ []) c.in_ok-out.ensures.items))
    ∙ ap (λ n. n ∷ numbers bits c.args.breaks.now) (ap number c.zero.ensures.value ∙ number_zeros g.K.Key.bit_width)
