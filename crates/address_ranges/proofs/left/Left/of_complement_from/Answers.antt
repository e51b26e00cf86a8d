-- The breakpoints from the address on are those of the others, with or without the address.
use Rattle.std.proofs.Common.{◌∙◌, ◌∷◌, ap, subst, sym}
use Rattle.std.proofs.lemmas.Bool.{eq-eqb, ne_eqb}
use Rattle.std.proofs.lemmas.List.{take_rest}
use Rattle.prefix_trie_bits.specs.BitStrings.{number-below}
use Rattle.prefix_trie_bits.specs.Model.Bits.{number}
use Rattle.address_ranges.specs.Breaks.{AreBreaks, has_address, numbers}
use Rattle.address_ranges.proofs.FreeNetworks.{breaks_from, breaks_with, others_even, others_odd}
use Rattle.address_ranges.proofs.left.Left.of_complement_from.Goals as goal

pub of_set-requires : goal.of_set-requires
of_set-requires g c =
    subst (λ ks. AreBreaks g.K.Key.bit_width (numbers g.K.Key.bits ks)) (sym (take_rest c.args.breaks.now c.rank-place.result))
    (breaks_from g.K.Key.bits g.K.Key.bit_width c.args.breaks.now (number (g.K.Key.bits c.args.from)) c.rank-place.result c.requires c.rank-place.ensures)

pub invariant_of-result : goal.invariant_of-result
invariant_of-result g c =
    subst (λ ks. AreBreaks g.K.Key.bit_width (number (g.K.Key.bits c.args.from) ∷ numbers g.K.Key.bits ks)) (sym (take_rest c.args.breaks.now c.rank-place.result))
    (breaks_with g.K.Key.bits g.K.Key.bit_width c.args.breaks.now (number (g.K.Key.bits c.args.from)) c.rank-place.result c.requires c.rank-place.ensures
    (number-below g.K.Key.bit_width (g.K.Key.bits c.args.from) (g.met.K.Key.key_laws.bits_length c.args.from c.is_key.ensures.key)))

pub returns-then-place-eq1-clause-others : goal.returns-then-place-eq1-clause-others
returns-then-place-eq1-clause-others g c = λ n.
    ap (λ ns. has_address ns n) (c.of_set.ensures ∙ ap (numbers g.K.Key.bits) (take_rest c.args.breaks.now c.rank-place.result))
    ∙ others_odd g.K.Key.bits g.K.Key.bit_width c.args.breaks.now (number (g.K.Key.bits c.args.from)) c.rank-place.result c.requires c.rank-place.ensures (eq-eqb _ 1 c.if-place-eq1.true) n

pub returns-else-place-eq1-clause-breaks : goal.returns-else-place-eq1-clause-breaks
returns-else-place-eq1-clause-breaks g c =
    subst (λ ks. AreBreaks g.K.Key.bit_width (number (g.K.Key.bits c.args.from) ∷ numbers g.K.Key.bits ks)) (sym (take_rest c.args.breaks.now c.rank-place.result))
    (breaks_with g.K.Key.bits g.K.Key.bit_width c.args.breaks.now (number (g.K.Key.bits c.args.from)) c.rank-place.result c.requires c.rank-place.ensures
    (number-below g.K.Key.bit_width (g.K.Key.bits c.args.from) (g.met.K.Key.key_laws.bits_length c.args.from c.is_key.ensures.key)))

pub returns-else-place-eq1-clause-others : goal.returns-else-place-eq1-clause-others
returns-else-place-eq1-clause-others g c = λ n.
    ap (λ ks. has_address (number (g.K.Key.bits c.args.from) ∷ numbers g.K.Key.bits ks) n) (take_rest c.args.breaks.now c.rank-place.result)
    ∙ others_even g.K.Key.bits g.K.Key.bit_width c.args.breaks.now (number (g.K.Key.bits c.args.from)) c.rank-place.result c.requires c.rank-place.ensures (ne_eqb _ 1 c.if-place-eq1.false) n
