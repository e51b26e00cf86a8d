-- Storing a value adds at most one entry, and a new entry makes few slots.
use Rattle.std.proofs.Common.{◌+◌, ◌≤◌, arith, sym, subst}
use Rattle.std.specs.FinMap.{len}
use Rattle.prefix_trie_bits.specs.Keys.{path_within}
use Rattle.prefix_trie_map.specs.Steps.{insert_reply}
use Rattle.prefix_trie_ops.proofs.Filling.{fills_one}
use Rattle.prefix_trie_ops.proofs.Optimal.KeyCounts.{one_more}
use Rattle.prefix_trie_ops.proofs.map.optimal.placing.store.Goals as goal

pub returns-clause-cost : goal.returns-clause-cost
returns-clause-cost g c =
    let m = c.args.made.now.entries in
    subst (λ n. len n ≤ len m + 1) (sym c.in_ok-insert.ensures.entries) (one_more m (g.P.Prefix.path c.same_prefix.result) c.args.value)

pub returns-clause-fills : goal.returns-clause-fills
returns-clause-fills g c =
    let laws = g.met.P.Prefix.prefix_laws in
    let wide = laws.keys.at_most_128 in
    let short = path_within laws c.same_prefix.result c.same_prefix.ensures.fits in
    fills_one g.P.Prefix.path g.P.R.Key.bit_width c.args.made.now c.insert.new.self c.same_prefix.result c.args.value (insert_reply c.insert.result) c.len.ensures.whole (omega (arith, short, wide))
    c.in_ok-insert.ensures.entries c.in_ok-insert.ensures.nodes c.insert.ensures.step
