-- Each item that the other map gives fits, and filling its entry sets its value at its path.
use Rattle.prefix_trie_tests.proofs.Prelude.{rules}
use Rattle.prefix_trie.proofs.Putting.{next_fits, leads_on, all_lead}
use Rattle.prefix_trie_tests.proofs.entry_callers.fill_from.Goals as goal

pub loop-prefix-init : goal.loop-prefix-init
loop-prefix-init g c =
    let gives = c.into_iter-prefix-iterator.ensures.into_iter_gives in
    (tt, tt, all_lead g.met.P.Prefix.prefix_laws c.args.from.now.entries gives.3.is_map.keys_within c.args.to.now.entries _ gives.0)

pub entry-requires : goal.entry-requires
entry-requires g c = next_fits g.P.Prefix.path g.P.Prefix.IsFitting c.loop-prefix.to.entries {item = (c.in-Some.prefix, c.in-Some.value.now)} c.in-Some.ensures.steps c.loop-prefix.invariant.2

pub loop-prefix-preserved : goal.loop-prefix-preserved
loop-prefix-preserved g c =
    (tt, tt, leads_on g.P.Prefix.path g.P.Prefix.IsFitting c.loop-prefix.to.entries {item = (c.in-Some.prefix, c.in-Some.value.now)} c.in-Some.ensures.steps (search rules) c.loop-prefix.invariant.2)
