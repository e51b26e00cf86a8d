-- The walk has the items of the union, each with its matches.
use Rattle.std.proofs.Common.{ap, map}
use Rattle.prefix_trie_ops.specs.CoveringUnion.{with_matches}
use Rattle.prefix_trie_ops.proofs.Matched.{matched_fit, matched_many}
use Rattle.prefix_trie_ops.proofs.map.covering_union_walk.covering_union.Goals as goal

pub returns-clause-items : goal.returns-clause-items
returns-clause-items g c = ap (map (with_matches g.P.Prefix.path g.P.Prefix.back c.args.left.now.entries c.args.right.now.entries)) c.union.ensures.items

pub returns-clause-each_fits : goal.returns-clause-each_fits
returns-clause-each_fits g c = matched_fit _ _ _ _ g.P.Prefix.IsFitting c.union.result c.union.ensures.each_fits

pub returns-clause-at_most : goal.returns-clause-at_most
returns-clause-at_most g c = matched_many _ _ _ _ c.union.result _ c.union.ensures.at_most
