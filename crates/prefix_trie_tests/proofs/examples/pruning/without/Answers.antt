-- An insertion leaves a tidy map tidy, by `node_laws`, and so does `prune`.
use Rattle.prefix_trie_tests.proofs.Prelude.{rules}
use Rattle.prefix_trie.proofs.Callers.{fit_in_order, tidy_with}
use Rattle.prefix_trie_tests.proofs.examples.pruning.without.Goals as goal

pub loop-prefix-init : goal.loop-prefix-init
loop-prefix-init g c =
    let gives = c.into_iter-prefix-iterator.ensures.into_iter_gives in
    (tt, tt, rw gives.0 (c.listed_laws.ensures.listed_fit c.args.from.now.entries gives.3.is_map.keys_within), search rules)

pub insert-requires : goal.insert-requires
insert-requires g c = (fit_in_order g.P.Prefix.IsFitting c.in-Some.ensures.steps c.loop-prefix.invariant.2).0

pub loop-prefix-preserved : goal.loop-prefix-preserved
loop-prefix-preserved g c =
    let tidy = tidy_with _ _ _ _ (g.P.Prefix.path c.in-Some.prefix) c.node_laws.ensures _ c.in_ok-insert.ensures.entries c.in_ok-insert.ensures.nodes c.loop-prefix.invariant.3 in
    (tt, tt, (fit_in_order g.P.Prefix.IsFitting c.in-Some.ensures.steps c.loop-prefix.invariant.2).1, tidy)
