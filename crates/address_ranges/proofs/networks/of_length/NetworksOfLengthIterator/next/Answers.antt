-- The network of the first address that was found.
use Rattle.std.proofs.Common.{◌≡◌, ◌∙◌, ◌-◌, ◌++◌, ap, arith, length, subst, sym, take}
use Rattle.prefix_trie_bits.specs.Keys.{back_from_bits}
use Rattle.prefix_trie_bits.specs.Model.Bits.{number, zeros}
use Rattle.address_ranges.specs.Networks.{first_address}
use Rattle.address_ranges.specs.Walks.{ReturnsFirst}
use Rattle.address_ranges.proofs.Addresses.{same_address}
use Rattle.address_ranges.proofs.Blocks.{length_first}
use Rattle.address_ranges.proofs.networks.of_length.NetworksOfLengthIterator.next.Goals as goal

pub returns-clause-steps : goal.returns-clause-steps
returns-clause-steps g c =
    let w = g.P.R.Key.bit_width in
    let bits = g.P.R.Key.bits in
    let path = g.P.Prefix.path in
    let len = c.self.inside.len in
    let first = c.in_ok-first.first in
    let t = c.in_ok-first.ensures.returns in
    let key = t.0 in
    let within = c.self.invariant.0 in
    let long = g.met.P.R.Key.key_laws.bits_length c.in_ok-first.first key in
    let here : first_address w (take len (bits first)) ≡ number (bits first) = subst (λ l. first_address w (take l (bits first)) ≡ number (bits first)) c.from.ensures t.1 in
    let returned : ReturnsFirst w len c.self.inside.left (take len (bits first)) c.take_block.new.left =
    subst (λ l. ReturnsFirst w l c.self.inside.left (take l (bits first)) c.take_block.new.left) c.from.ensures t.2 in
    let is : path c.from_repr_len.result ≡ take len (bits first) = ap path c.from_repr_len.ensures ∙ g.met.P.Prefix.prefix_laws.path_from_parts first len key within in
    let first_long = length_first w (bits first) len long within in
    let filled : bits first ≡ take len (bits first) ++ zeros (w - length (take len (bits first))) = sym (same_address w (bits first) (take len (bits first)) long (omega (arith, first_long, within)) here) in
    let made : g.P.Prefix.from_parts first len ≡ g.P.Prefix.back (take len (bits first)) =
    ap (g.P.Prefix.from_parts first) (sym first_long) ∙ back_from_bits g.met.P.Prefix.prefix_laws first (take len (bits first)) key filled in (
      ap (λ v. v.0) c.self.view_is,
      (
        (
          subst g.P.Prefix.IsFitting (sym c.from_repr_len.ensures) (g.met.P.Prefix.prefix_laws.fits_from_parts first len key within),
          ap g.P.Prefix.back is ∙ sym (c.from_repr_len.ensures ∙ made),
        ),
        subst (λ v. ReturnsFirst w v.0 v.1 (path c.from_repr_len.result) c.take_block.new.left) c.self.view_is
            (subst (λ s. ReturnsFirst w len c.self.inside.left s c.take_block.new.left) (sym is) returned),
      ),
    )
