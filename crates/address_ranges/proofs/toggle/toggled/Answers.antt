-- The breakpoints of the complement are those of the set, with or without 0.
use Rattle.std.proofs.Common.{◌∙◌, ◌≡◌, ℕ, not, sym, subst}
use Rattle.std.proofs.lemmas.List.{take_rest}
use Rattle.std.proofs.lemmas.Result.{IfOk-weaker}
use Rattle.address_ranges.specs.Breaks.{AreBreaks, has_address, numbers}
use Rattle.address_ranges.proofs.Keys.{with_zero, without_zero}
use Rattle.address_ranges.proofs.toggle.toggled.Goals as goal

pub returns-then-starts_at_zero-clause-breaks : goal.returns-then-starts_at_zero-clause-breaks
returns-then-starts_at_zero-clause-breaks g c =
    IfOk-weaker c.from_slice.result _ _
    (λ out is. subst (λ ks. AreBreaks g.K.Key.bit_width (numbers g.K.Key.bits ks)) (sym (is ∙ take_rest c.args.breaks.now 1))
    (without_zero g.K.Key.bits g.K.Key.bit_width c.args.breaks.now c.if-starts_at_zero.ensures c.requires).0) c.from_slice.ensures.items

pub returns-then-starts_at_zero-clause-toggled : goal.returns-then-starts_at_zero-clause-toggled
returns-then-starts_at_zero-clause-toggled g c =
    IfOk-weaker c.from_slice.result _ _
    (λ out is. subst (λ ks. (n : ℕ) → has_address (numbers g.K.Key.bits ks) n ≡ not (has_address (numbers g.K.Key.bits c.args.breaks.now) n)) (sym (is ∙ take_rest c.args.breaks.now 1))
    (without_zero g.K.Key.bits g.K.Key.bit_width c.args.breaks.now c.if-starts_at_zero.ensures c.requires).1) c.from_slice.ensures.items

pub returns-else-starts_at_zero-clause-breaks : goal.returns-else-starts_at_zero-clause-breaks
returns-else-starts_at_zero-clause-breaks g c =
    IfOk-weaker c.with_zero.result _ _
    (λ out is. (with_zero g.K.Key.bits g.K.Key.bit_width c.args.breaks.now out.items is c.if-starts_at_zero.ensures c.requires).0) c.with_zero.ensures

pub returns-else-starts_at_zero-clause-toggled : goal.returns-else-starts_at_zero-clause-toggled
returns-else-starts_at_zero-clause-toggled g c =
    IfOk-weaker c.with_zero.result _ _
    (λ out is. (with_zero g.K.Key.bits g.K.Key.bit_width c.args.breaks.now out.items is c.if-starts_at_zero.ensures c.requires).1) c.with_zero.ensures
