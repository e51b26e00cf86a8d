-- The walk has the keys of the union, each with its matches.
use Rattle.std.proofs.Common.{◌+◌, ◌≤◌, ap, map, subst, sym}
use Rattle.std.proofs.lemmas.List.{length-map}
use Rattle.std.specs.FinMap.{len}
use Rattle.prefix_trie_ops.specs.CoveringUnion.{with_matching_keys}
use Rattle.prefix_trie_ops.proofs.Matched.{keys_fit}
use Rattle.prefix_trie_ops.proofs.set.covering_union_walk.covering_union.Goals as goal

pub returns-clause-items : goal.returns-clause-items
returns-clause-items g c = ap (map (with_matching_keys g.P.Prefix.path g.P.Prefix.back c.args.left.now.entries c.args.right.now.entries)) c.union.ensures.items

pub returns-clause-each_fits : goal.returns-clause-each_fits
returns-clause-each_fits g c = keys_fit _ _ _ _ g.P.Prefix.IsFitting c.union.result c.union.ensures.each_fits

pub returns-clause-at_most : goal.returns-clause-at_most
returns-clause-at_most g c =
    subst (λ l. l ≤ len c.args.left.now.entries + len c.args.right.now.entries)
    (sym (length-map c.union.result (with_matching_keys g.P.Prefix.path g.P.Prefix.back c.args.left.now.entries c.args.right.now.entries)))
    c.union.ensures.at_most
