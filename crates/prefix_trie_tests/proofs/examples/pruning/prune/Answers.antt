-- A removal leaves a tidy map tidy, by `pruning_laws`.
use Rattle.prefix_trie.proofs.Callers.{fit_in_order, tidy_without}
use Rattle.prefix_trie_tests.proofs.examples.pruning.prune.Goals as goal

pub loop-prefix-init : goal.loop-prefix-init
loop-prefix-init g c =
    let gives = c.into_iter-prefix-iterator.ensures.into_iter_gives in
    (tt, tt, rw gives.0 (c.listed_laws.ensures.listed_fit c.args.out.now.entries gives.3.is_map.keys_within), c.requires)

pub remove-requires : goal.remove-requires
remove-requires g c = (fit_in_order g.P.Prefix.IsFitting c.in-Some.ensures.steps c.loop-prefix.invariant.2).0

pub loop-prefix-preserved : goal.loop-prefix-preserved
loop-prefix-preserved g c =
    let tidy = tidy_without _ _ _ _ (g.P.Prefix.path c.in-Some.prefix) c.pruning_laws.ensures _ c.len.ensures.whole.is_map.are_nodes c.remove.ensures.entries c.remove.ensures.nodes c.loop-prefix.invariant.3 in
    (tt, tt, (fit_in_order g.P.Prefix.IsFitting c.in-Some.ensures.steps c.loop-prefix.invariant.2).1, tidy)
