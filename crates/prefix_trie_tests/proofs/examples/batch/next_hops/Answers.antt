-- Looking up the hosts of the addresses in bulk gives the hop of the longest route of each.
use Rattle.prefix_trie_tests.proofs.Prelude.{◌∙◌, ap, map, option_copied, length, take_at, length-take-le}
use Rattle.prefix_trie_tests.proofs.Batches.{hops_of}
use Rattle.prefix_trie_tests.proofs.examples.batch.next_hops.Goals as goal

pub returns : goal.returns
returns g c =
    let few = c.requires.burst in
    hops_of c.args.table.now.entries c.args.addresses.now _ c.as_prefixes.ensures.hosts c.copy_values.new.values
    (c.copy_values.ensures ∙ ap (map option_copied) (take_at c.get_lpm_value_bulk.new.out _ (length c.args.addresses.now) (c.get_lpm_value_bulk.auto.out ∙ length-take-le (length c.args.addresses.now) _ few)) ∙ c.get_lpm_value_bulk.ensures)
