-- The entries that are covered are printed.
use Rattle.std.proofs.Common.{map, subst, sym}
use Rattle.std.proofs.lemmas.Result.{on_ok_weaker}
use Rattle.prefix_trie.specs.Terms.{lent_item}
use Rattle.address_ranges.specs.Breaks.{has_address}
use Rattle.route_tables.specs.AddressSets.{AreCoveredEntries}
use Rattle.route_tables.proofs.commands.sets.print_covered.Goals as goal

pub returns : goal.returns
returns g c =
    on_ok_weaker c.print_entries.result
    (λ printed. (
      map lent_item c.as_slice.result.now,
      subst (λ xs. AreCoveredEntries g.P.R.Key.bit_width g.P.Prefix.back c.args.table.now.entries (has_address c.args.set.now) (map lent_item xs)) (sym c.as_slice.ensures.value) c.in_ok-entries.ensures,
      printed,
    ))
    c.print_entries.ensures
