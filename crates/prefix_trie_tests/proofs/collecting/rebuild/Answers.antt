-- A consumed map gives its listing in order, and each listed prefix fits.
use Rattle.prefix_trie_tests.proofs.Prelude.{ap, ◌∙◌, All-same, IfOk-weaker, TakesFirst, no_entries, put_all, listing, prefix_pairs, listed_fit}
use Rattle.prefix_trie.proofs.CollectedItems.{all_along, all_given}
use Rattle.prefix_trie_tests.proofs.collecting.rebuild.Goals as goal

pub from_iter-requires-clause-fit : goal.from_iter-requires-clause-fit
from_iter-requires-clause-fit g c it gives =
    all_along (TakesFirst (λ x. x)) (λ s. s) (λ s t x h. h) (λ e. g.P.Prefix.IsFitting e.0) it
    (All-same (λ e. g.P.Prefix.IsFitting e.0) it (prefix_pairs g.P.Prefix.back (listing c.args.map.entries)) gives.0
    (listed_fit g.met.P.Prefix.prefix_laws c.args.map.entries gives.3.is_map.keys_within))

pub returns-clause-entries : goal.returns-clause-entries
returns-clause-entries g c =
    IfOk-weaker c.from_iter.result _ _ (λ built h. h.4 ∙ ap (λ xs. put_all g.P.Prefix.path xs no_entries)
    (all_given (TakesFirst (λ x. x)) (λ s. s) (λ s t x k. k) (λ s t k. k.0) h.0 h.1 h.3 ∙ h.2.0)) c.from_iter.ensures.entries
