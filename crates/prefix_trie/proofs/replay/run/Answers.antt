-- A run is a counted run without its counts, so it is a run of the model, with and without storage, and ends tidy.
use Rattle.prefix_trie.proofs.Prelude.{false, true≢false, sym, counted_laws, run_of_stored}
use Rattle.prefix_trie.proofs.replay.run.Goals as goal

pub returns-clause-run : goal.returns-clause-run
returns-clause-run g c =
    run_of_stored g.P.Prefix.path g.P.Prefix.back g.P.R.Key.bit_width _ _ _ _
    ((counted_laws _ _).is_run g.P.Prefix.path g.P.Prefix.back g.P.R.Key.bit_width false _ _ _ _ _ (c.in_ok-run_counted.ensures.counted false (λ is. absurd (true≢false (sym is)))))

pub returns-clause-run_in_storage : goal.returns-clause-run_in_storage
returns-clause-run_in_storage g c =
    (counted_laws _ _).is_run g.P.Prefix.path g.P.Prefix.back g.P.R.Key.bit_width false _ _ _ _ _ (c.in_ok-run_counted.ensures.counted false (λ is. absurd (true≢false (sym is))))

pub returns-clause-tidy : goal.returns-clause-tidy
returns-clause-tidy g c = λ tidy is_tidy.
    (counted_laws _ _).ends_tidy g.P.Prefix.path g.P.Prefix.back g.P.R.Key.bit_width tidy _ _ _ _ _ (c.in_ok-run_counted.ensures.counted tidy is_tidy)

pub returns-clause-counted : goal.returns-clause-counted
returns-clause-counted g c = (c.in_ok-run_counted.field-0.1, c.in_ok-run_counted.ensures.counted)
