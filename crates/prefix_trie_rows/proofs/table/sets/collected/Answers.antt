-- All prefixes that the iterator of a list gives are in the list, so they fit, as `from_iter` requires.
use Rattle.std.proofs.lemmas.List.Elements.{All-same}
use Rattle.std.specs.Vec.Iter.{into_iter_items, into_iter_steps}
use Rattle.prefix_trie.proofs.CollectedItems.{all_along}
use Rattle.prefix_trie_rows.proofs.table.sets.collected.Goals as goal

pub from_iter-requires-clause-fit : goal.from_iter-requires-clause-fit
from_iter-requires-clause-fit g c it gives =
    all_along into_iter_steps into_iter_items (λ s t x h. h.0) g.P.Prefix.IsFitting it
    (All-same g.P.Prefix.IsFitting (into_iter_items it) c.args.prefixes.items gives.0 c.requires)
