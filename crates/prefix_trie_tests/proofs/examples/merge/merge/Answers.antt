-- Inserting all items of one map into another gives the new value for each prefix of both, by `put_laws`.
use Rattle.prefix_trie_tests.proofs.Prelude.{rules}
use Rattle.prefix_trie_tests.proofs.examples.merge.merge.Goals as goal

pub loop-prefix-init : goal.loop-prefix-init
loop-prefix-init g c =
    let gives = c.into_iter-prefix-iterator.ensures.into_iter_gives in
    (tt, tt, c.put_laws.ensures.starts c.args.from.now.entries c.args.to.now.entries gives.3.is_map.keys_within _ gives.0)

pub insert-requires : goal.insert-requires
insert-requires g c = c.put_laws.ensures.next_fits c.loop-prefix.to.entries _ (c.in-Some.prefix, c.in-Some.value.now) _ _ c.in-Some.ensures.steps c.loop-prefix.invariant.2

pub loop-prefix-preserved : goal.loop-prefix-preserved
loop-prefix-preserved g c =
    (tt, tt, c.put_laws.ensures.goes_on c.loop-prefix.to.entries _ _ (c.in-Some.prefix, c.in-Some.value.now) _ _ c.in-Some.ensures.steps (search rules) c.loop-prefix.invariant.2)
