-- Each item that the consumed map gives fits, and inserting it sets its value at its path.
use Rattle.prefix_trie.proofs.Putting.{next_fits, leads_on, all_lead}
use Rattle.prefix_trie_tests.proofs.walks.consuming.pour.Goals as goal

pub loop-prefix-init : goal.loop-prefix-init
loop-prefix-init g c =
    let gives = c.into_iter-prefix-iterator.ensures.into_iter_gives in
    (tt, tt, all_lead g.met.P.Prefix.prefix_laws c.args.from.entries gives.3.is_map.keys_within c.args.to.now.entries _ gives.0)

pub insert-requires : goal.insert-requires
insert-requires g c = next_fits g.P.Prefix.path g.P.Prefix.IsFitting c.loop-prefix.to.entries {item = (c.in-Some.prefix, c.in-Some.value)} c.in-Some.ensures.steps c.loop-prefix.invariant.2

pub loop-prefix-preserved-in_ok-insert : goal.loop-prefix-preserved-in_ok-insert
loop-prefix-preserved-in_ok-insert g c =
    (tt, tt, leads_on g.P.Prefix.path g.P.Prefix.IsFitting c.loop-prefix.to.entries {item = (c.in-Some.prefix, c.in-Some.value)} c.in-Some.ensures.steps (c.in_ok-insert.ensures.entries) c.loop-prefix.invariant.2)

-- One path through the loop drops the previous value. The other has none.
pub loop-prefix-preserved : goal.loop-prefix-preserved
loop-prefix-preserved g c =
    (tt, tt, leads_on g.P.Prefix.path g.P.Prefix.IsFitting c.loop-prefix.to.entries {item = (c.in-Some.prefix, c.in-Some.value)} c.in-Some.ensures.steps (c.in_ok-insert.ensures.entries) c.loop-prefix.invariant.2)
