-- What a run of `next` gives follows from what each call gives, for any items.
use Rattle.prefix_trie_map.proofs.Runs.{shows_in_order}
use Rattle.prefix_trie_ops.specs.Lending.{lent_pair}
use Rattle.prefix_trie_ops.specs.Merging.{lent_side}
use Rattle.prefix_trie_ops.proofs.laws.combined_walk_laws.Goals as goal

pub returns : goal.returns
returns g c = record {
  union = shows_in_order lent_side;
  intersection = shows_in_order lent_pair;
}
