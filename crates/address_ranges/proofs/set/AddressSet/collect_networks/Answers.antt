-- The list has all networks of the walk.
use Rattle.std.proofs.Common.{◌≡◌, All, map, subst, sym}
use Rattle.std.proofs.lemmas.List.Elements.{All-weaker}
use Rattle.std.proofs.lemmas.Result.{IfOk-weaker}
use Rattle.address_ranges.specs.Breaks.{has_address}
use Rattle.address_ranges.specs.Networks.{AreFewest}
use Rattle.address_ranges.specs.Walks.{IsBare}
use Rattle.address_ranges.proofs.set.AddressSet.collect_networks.Goals as goal

pub returns-clause-fit : goal.returns-clause-fit
returns-clause-fit g c =
    IfOk-weaker c.collect.result _ _
    (λ v (xs, (t, yields, done), gives).
    let (u, last) = done tt in
    subst (All g.P.Prefix.IsFitting) (sym gives.0)
    (All-weaker (IsBare g.P.Prefix.IsFitting g.P.Prefix.back g.P.Prefix.path) g.P.Prefix.IsFitting (λ p h. h.0) xs (c.network_laws.ensures.fewest c.networks.result xs (u, (t, yields, last))).0)) c.collect.ensures.ran

pub returns-clause-bare : goal.returns-clause-bare
returns-clause-bare g c =
    IfOk-weaker c.collect.result _ _
    (λ v (xs, (t, yields, done), gives).
    let (u, last) = done tt in
    subst (All (λ p. g.P.Prefix.back (g.P.Prefix.path p) ≡ p)) (sym gives.0)
    (All-weaker (IsBare g.P.Prefix.IsFitting g.P.Prefix.back g.P.Prefix.path) (λ p. g.P.Prefix.back (g.P.Prefix.path p) ≡ p) (λ p h. h.1) xs (c.network_laws.ensures.fewest c.networks.result xs (u, (t, yields, last))).0)) c.collect.ensures.ran

pub returns-clause-fewest : goal.returns-clause-fewest
returns-clause-fewest g c =
    IfOk-weaker c.collect.result _ _
    (λ v (xs, (t, yields, done), gives).
    let (u, last) = done tt in
    subst (λ ns. AreFewest g.P.R.Key.bit_width (has_address ns) (map g.P.Prefix.path v.items)) c.networks.ensures
    (subst (λ ps. AreFewest g.P.R.Key.bit_width (has_address c.networks.result) (map g.P.Prefix.path ps)) (sym gives.0)
    (c.network_laws.ensures.fewest c.networks.result xs (u, (t, yields, last))).1)) c.collect.ensures.ran
