-- What a run of `next` gives follows from what each call gives, for any items.
use Rattle.prefix_trie_map.proofs.Prelude.{deref, lent_item}
use Rattle.prefix_trie_map.proofs.Runs.{shows_in_order, gives_in_order}
use Rattle.prefix_trie_map.proofs.laws.walk_laws.Goals as goal

pub returns : goal.returns
returns g c = record {
  entries = shows_in_order lent_item;
  keys = gives_in_order;
  values = shows_in_order deref;
  moved_entries = gives_in_order;
  moved_values = gives_in_order;
}
