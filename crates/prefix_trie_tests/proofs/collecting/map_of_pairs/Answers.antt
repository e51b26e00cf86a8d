-- The iterator of a list gives its items in order, and each of them fits.
use Rattle.prefix_trie_tests.proofs.Prelude.{ap, ◌∙◌, All-taken, All-same, IfOk-weaker, into_iter_items, into_iter_steps, no_entries, put_all}
use Rattle.prefix_trie.proofs.CollectedItems.{all_along}
use Rattle.prefix_trie_tests.proofs.collecting.map_of_pairs.Goals as goal

pub from_iter-requires-clause-fit : goal.from_iter-requires-clause-fit
from_iter-requires-clause-fit g c it gives =
    all_along into_iter_steps into_iter_items (λ s t x h. h.0) (λ e. g.P.Prefix.IsFitting e.0) it
    (All-same (λ e. g.P.Prefix.IsFitting e.0) (into_iter_items it) c.args.pairs.items gives.0 c.requires)

pub returns : goal.returns
returns g c =
    IfOk-weaker c.from_iter.result _ _ (λ map h. h.4 ∙ ap (λ xs. put_all g.P.Prefix.path xs no_entries) (All-taken h.0 h.1 h.3 ∙ h.2.0)) c.from_iter.ensures.entries
