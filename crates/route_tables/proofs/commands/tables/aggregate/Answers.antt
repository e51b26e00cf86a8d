-- The fewest networks are printed.
use Rattle.std.proofs.Common.{map, subst, sym}
use Rattle.std.proofs.lemmas.Result.{on_ok_weaker}
use Rattle.prefix_trie.specs.Terms.{lent_item}
use Rattle.route_tables.specs.Fewest.{IsFewest}
use Rattle.route_tables.proofs.commands.tables.aggregate.Goals as goal

pub returns : goal.returns
returns g c =
    on_ok_weaker c.print_routes.result
    (λ printed. (
      map lent_item c.as_slice.result.now,
      subst (λ xs. IsFewest g.P.R.Key.bit_width g.P.Prefix.back c.args.table.now.entries (map lent_item xs)) (sym c.as_slice.ensures.value) c.in_ok-networks.ensures.fewest,
      printed,
    ))
    c.print_routes.ensures
