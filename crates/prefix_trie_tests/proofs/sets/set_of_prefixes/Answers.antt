-- The iterator of a list gives its prefixes in order, and each of them fits.
use Rattle.prefix_trie_tests.proofs.Prelude.{All-same, into_iter_items, into_iter_steps}
use Rattle.prefix_trie.proofs.CollectedItems.{all_along}
use Rattle.prefix_trie_tests.proofs.sets.set_of_prefixes.Goals as goal

pub from_iter-requires-clause-fit : goal.from_iter-requires-clause-fit
from_iter-requires-clause-fit g c it gives =
    all_along into_iter_steps into_iter_items (λ s t x h. h.0) g.P.Prefix.IsFitting it
    (All-same g.P.Prefix.IsFitting (into_iter_items it) c.args.prefixes.items gives.0 c.requires)
