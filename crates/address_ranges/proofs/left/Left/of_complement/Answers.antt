-- The breakpoints of the complement are those of the set, with or without 0.
use Rattle.std.proofs.Common.{◌∙◌, ◌∷◌, ap, subst, sym}
use Rattle.std.proofs.lemmas.List.{take_rest}
use Rattle.prefix_trie_bits.specs.Model.Bits.{number}
use Rattle.address_ranges.specs.Breaks.{AreBreaks, has_address, numbers}
use Rattle.address_ranges.proofs.Keys.{with_zero, without_zero}
use Rattle.address_ranges.proofs.Addresses.{number_zeros}
use Rattle.address_ranges.proofs.left.Left.of_complement.Goals as goal

pub of_set-requires : goal.of_set-requires
of_set-requires g c =
    subst (λ ks. AreBreaks g.K.Key.bit_width (numbers g.K.Key.bits ks)) (sym (take_rest c.args.breaks.now 1))
    (without_zero g.K.Key.bits g.K.Key.bit_width c.args.breaks.now c.if-starts_at_zero.ensures c.requires).0

pub returns-then-starts_at_zero-clause-breaks : goal.returns-then-starts_at_zero-clause-breaks
returns-then-starts_at_zero-clause-breaks g c =
    subst (AreBreaks g.K.Key.bit_width) (sym (c.of_set.ensures ∙ ap (numbers g.K.Key.bits) (take_rest c.args.breaks.now 1)))
    (without_zero g.K.Key.bits g.K.Key.bit_width c.args.breaks.now c.if-starts_at_zero.ensures c.requires).0

pub returns-then-starts_at_zero-clause-others : goal.returns-then-starts_at_zero-clause-others
returns-then-starts_at_zero-clause-others g c = λ n.
    ap (λ ns. has_address ns n) (c.of_set.ensures ∙ ap (numbers g.K.Key.bits) (take_rest c.args.breaks.now 1))
    ∙ (without_zero g.K.Key.bits g.K.Key.bit_width c.args.breaks.now c.if-starts_at_zero.ensures c.requires).1 n

pub invariant_of-result : goal.invariant_of-result
invariant_of-result g c =
    (with_zero g.K.Key.bits g.K.Key.bit_width c.args.breaks.now (c.zero.result ∷ c.args.breaks.now)
    (ap (λ n. n ∷ numbers g.K.Key.bits c.args.breaks.now) (ap number c.zero.ensures.value ∙ number_zeros g.K.Key.bit_width)) c.if-starts_at_zero.ensures c.requires).0

pub returns-else-starts_at_zero-clause-breaks : goal.returns-else-starts_at_zero-clause-breaks
returns-else-starts_at_zero-clause-breaks g c =
    (with_zero g.K.Key.bits g.K.Key.bit_width c.args.breaks.now (c.zero.result ∷ c.args.breaks.now)
    (ap (λ n. n ∷ numbers g.K.Key.bits c.args.breaks.now) (ap number c.zero.ensures.value ∙ number_zeros g.K.Key.bit_width)) c.if-starts_at_zero.ensures c.requires).0

pub returns-else-starts_at_zero-clause-others : goal.returns-else-starts_at_zero-clause-others
returns-else-starts_at_zero-clause-others g c =
    (with_zero g.K.Key.bits g.K.Key.bit_width c.args.breaks.now (c.zero.result ∷ c.args.breaks.now)
    (ap (λ n. n ∷ numbers g.K.Key.bits c.args.breaks.now) (ap number c.zero.ensures.value ∙ number_zeros g.K.Key.bit_width)) c.if-starts_at_zero.ensures c.requires).1
