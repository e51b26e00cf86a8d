-- The fewest networks of the set are printed.
use Rattle.std.proofs.Common.{◌≡◌, All, map, subst, sym}
use Rattle.std.proofs.lemmas.Result.{on_ok_weaker}
use Rattle.address_ranges.specs.Breaks.{has_address}
use Rattle.address_ranges.specs.Networks.{AreFewest}
use Rattle.route_tables.proofs.commands.sets.print_fewest_of.Goals as goal

pub returns : goal.returns
returns g c =
    on_ok_weaker c.print_networks.result
    (λ printed. (
      c.as_slice.result.now,
      (
        subst (λ ps. AreFewest g.P.R.Key.bit_width (has_address c.args.set.now) (map g.P.Prefix.path ps)) (sym c.as_slice.ensures.value) c.in_ok-networks.ensures.fewest,
        subst (λ ps. All (λ p. g.P.Prefix.back (g.P.Prefix.path p) ≡ p) ps) (sym c.as_slice.ensures.value) c.in_ok-networks.ensures.bare,
      ),
      printed,
    ))
    c.print_networks.ensures
