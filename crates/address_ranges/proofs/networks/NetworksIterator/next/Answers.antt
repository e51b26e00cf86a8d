-- The walk takes the largest network at the first address that is left.
use Rattle.std.proofs.Common.{ap, arith, length, refl, subst, sym, take, ◌++◌, ◌+◌, ◌-◌, ◌^◌, ◌∙◌, ◌≡◌}
use Rattle.prefix_trie_bits.specs.Keys.{back_from_bits}
use Rattle.prefix_trie_bits.specs.Model.Bits.{number, zeros}
use Rattle.address_ranges.specs.Appends.{end_of}
use Rattle.address_ranges.specs.Walks.{ReturnsLargest}
use Rattle.address_ranges.proofs.Addresses.{same_address}
use Rattle.address_ranges.proofs.Blocks.{block_first, length_first}
use Rattle.address_ranges.proofs.WalkSteps.{new_breaks, next_breaks, step_largest}
use Rattle.address_ranges.proofs.networks.NetworksIterator.next.Goals as goal

pub go_on-requires-clause-breaks : goal.go_on-requires-clause-breaks
go_on-requires-clause-breaks g c =
    let w = g.P.R.Key.bit_width in
    let bits = g.P.R.Key.bits in
    let at = c.in_ok-at.ensures in
    next_breaks w bits c.self.inside.left c.self.inside.left c.rest_after.result (number (g.P.R.Key.bits c.in_ok-at.at)) (end_of w bits c.in_ok-at.past) (number (g.P.R.Key.bits c.in_ok-at.at) + 2 ^ (w - c.largest_at-len.result))
    c.self.invariant.1 at.0 at.1 at.2 c.rest_after.ensures

pub invariant_of-self : goal.invariant_of-self
invariant_of-self g c =
    let w = g.P.R.Key.bit_width in
    let bits = g.P.R.Key.bits in
    let at = c.in_ok-at.ensures in (
      c.largest_at-len.ensures.within,
      new_breaks w bits c.self.inside.left c.go_on.new.self c.rest_after.result (number (g.P.R.Key.bits c.in_ok-at.at)) (end_of w bits c.in_ok-at.past) (number (g.P.R.Key.bits c.in_ok-at.at) + 2 ^ (w - c.largest_at-len.result))
          c.self.invariant.1 at.0 at.1 at.2 c.rest_after.ensures c.go_on.ensures,
    )

pub returns-clause-steps : goal.returns-clause-steps
returns-clause-steps g c =
    let w = g.P.R.Key.bit_width in
    let bits = g.P.R.Key.bits in
    let path = g.P.Prefix.path in
    let at = c.in_ok-at.ensures in
    let len = c.largest_at-len.result in
    let key = c.is_key.ensures.key in
    let within = c.largest_at-len.ensures.within in
    let block = c.largest_at-len.ensures.block in
    let long = g.met.P.R.Key.key_laws.bits_length c.in_ok-at.at key in
    let is : path c.from_repr_len.result ≡ take len (bits c.in_ok-at.at) = ap path c.from_repr_len.ensures ∙ g.met.P.Prefix.prefix_laws.path_from_parts c.in_ok-at.at len key within in
    let first_long = length_first w (bits c.in_ok-at.at) len long within in
    let filled : bits c.in_ok-at.at ≡ take len (bits c.in_ok-at.at) ++ zeros (w - length (take len (bits c.in_ok-at.at))) =
    sym (same_address w (bits c.in_ok-at.at) (take len (bits c.in_ok-at.at)) long (omega (arith, first_long, within)) (block_first w (bits c.in_ok-at.at) len long within block.quotient block.aligned)) in
    let made : g.P.Prefix.from_parts c.in_ok-at.at len ≡ g.P.Prefix.back (take len (bits c.in_ok-at.at)) =
    ap (g.P.Prefix.from_parts c.in_ok-at.at) (sym first_long) ∙ back_from_bits g.met.P.Prefix.prefix_laws c.in_ok-at.at (take len (bits c.in_ok-at.at)) key filled in (
      (
        subst g.P.Prefix.IsFitting (sym c.from_repr_len.ensures) (g.met.P.Prefix.prefix_laws.fits_from_parts c.in_ok-at.at len key within),
        ap g.P.Prefix.back is ∙ sym (c.from_repr_len.ensures ∙ made),
      ),
      subst (λ old. ReturnsLargest w old (path c.from_repr_len.result) c.go_on.new.self) c.self.view_is
          (subst (λ s. ReturnsLargest w c.self.inside.left s c.go_on.new.self) (sym is)
          (step_largest w bits c.self.inside.left c.go_on.new.self c.rest_after.result (number (bits c.in_ok-at.at)) (end_of w bits c.in_ok-at.past) (number (bits c.in_ok-at.at) + 2 ^ (w - len))
          c.self.invariant.1 at.0 at.1 at.2 c.rest_after.ensures c.go_on.ensures (take len (bits c.in_ok-at.at)) len refl within
          (length_first w (bits c.in_ok-at.at) len long within) (block_first w (bits c.in_ok-at.at) len long within block.quotient block.aligned) block c.largest_at-len.ensures.largest)),
    )
