-- Adding the items of one map to another joins their counts at each key, by `join_laws`.
use Rattle.prefix_trie_tests.proofs.Prelude.{rules, ◌+◌, ◌%◌, ◌^◌}
use Rattle.prefix_trie_tests.proofs.examples.counter.add_all.Goals as goal

pub loop-prefix-init : goal.loop-prefix-init
loop-prefix-init g c =
    let gives = c.into_iter-prefix-iterator.ensures.into_iter_gives in
    (tt, tt, c.join_laws.ensures.starts _ c.args.more.now.entries c.args.counts.now.entries gives.3.is_map.keys_within _ gives.0)

pub add-requires : goal.add-requires
add-requires g c = c.join_laws.ensures.next_fits (λ m n. (m + n) % 2 ^ 64) c.loop-prefix.counts.entries _ (c.in-Some.prefix, c.in-Some.count.now) _ _ c.in-Some.ensures.steps c.loop-prefix.invariant.2

pub loop-prefix-preserved : goal.loop-prefix-preserved
loop-prefix-preserved g c =
    (tt, tt, c.join_laws.ensures.goes_on (λ m n. (m + n) % 2 ^ 64) c.loop-prefix.counts.entries _ _ (c.in-Some.prefix, c.in-Some.count.now) _ _ c.in-Some.ensures.steps (search rules) c.loop-prefix.invariant.2)
