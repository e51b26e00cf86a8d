-- The table calls the test through the reference of the adapter, so its calls are calls of the test.
use Rattle.prefix_trie_map.proofs.Calling.{may_ask_by_reference, retains_by_reference, step_by_reference}
use Rattle.prefix_trie_map.proofs.map.retain.retain_in_table.Goals as goal

pub retain-requires-clause-may_ask : goal.retain-requires-clause-may_ask
retain-requires-clause-may_ask g c = may_ask_by_reference g.F.FnMut g.P.Prefix.back (λ a. a.test) _ _ c.requires.may_ask

pub returns : goal.returns
returns g c =
    let calls = retains_by_reference g.F.FnMut g.P.Prefix.back (λ a. a.test) _ _ _ _ c.retain.ensures.kept in
    record {
      same_reference = calls.1;
      kept = calls.0;
      step = step_by_reference g.F.FnMut g.P.Prefix.back (λ a. a.test) _ _ _ _ calls.0 c.retain.ensures.step;
      fits = c.retain.ensures.fits;
      bounds_growth = c.retain.ensures.bounds_growth;
    }
