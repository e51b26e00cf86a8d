-- It is the first network of the length in the complement.
use Rattle.std.proofs.Common.{◌≡◌, ◌∙◌, [], ap, not, subst}
use Rattle.std.specs.Option.{MatchOption}
use Rattle.address_ranges.specs.Breaks.{has_address, numbers}
use Rattle.address_ranges.specs.Walks.{HasNoneOfLength, IsBare, ReturnsFirst}
use Rattle.address_ranges.proofs.OfLength.{first_free}
use Rattle.address_ranges.proofs.set.AddressSet.first_free.Goals as goal

pub returns : goal.returns
returns g c =
    let w = g.P.R.Key.bit_width in
    let path = g.P.Prefix.path in
    first_free w c.args.len (IsBare g.P.Prefix.IsFitting g.P.Prefix.back g.P.Prefix.path) path c.args.self.now c.of_complement.result c.next.new.self.1 c.next.result (c.next.new.self.1 ≡ [])
    (λ n. c.of_complement.ensures.others n ∙ ap (λ ns. not (has_address ns n)) (ap (numbers g.P.R.Key.bits) c.deref.ensures.value ∙ c.self.view_is))
    (subst (λ b. MatchOption c.next.result (HasNoneOfLength w b.0 b.1 × (c.next.new.self.1 ≡ [])) (λ p. IsBare g.P.Prefix.IsFitting g.P.Prefix.back g.P.Prefix.path p × ReturnsFirst w b.0 b.1 (path p) c.next.new.self.1)) c.new.ensures c.next.ensures.steps.1)
