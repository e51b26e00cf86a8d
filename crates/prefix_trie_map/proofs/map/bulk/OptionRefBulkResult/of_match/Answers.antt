-- A result with only the value shows the second part of the match.
use Rattle.prefix_trie_map.proofs.Prelude.{sym, ◌∙◌}
use Rattle.prefix_trie_map.proofs.Bulk.{values_found}
use Rattle.prefix_trie_map.proofs.map.bulk.OptionRefBulkResult.of_match.Goals as goal

pub returns : goal.returns
returns g c = c.value_of.ensures ∙ sym (values_found _ c.args.found)
