-- The keys of the intersection are the prefixes of the items of the maps' intersection.
use Rattle.std.proofs.Common.{◌∙◌, All, ap, ap₂, map, subst, sym}
use Rattle.prefix_trie.specs.Terms.{listing, prefix_pairs}
use Rattle.prefix_trie_ops.specs.Combining.{common}
use Rattle.prefix_trie_ops.proofs.Pairs.{common_keys}
use Rattle.prefix_trie_ops.proofs.SelectedItems.{prefixes_fit, prefixes_shown}
use Rattle.prefix_trie_ops.proofs.set.walks.intersection.Goals as goal

pub returns-clause-items : goal.returns-clause-items
returns-clause-items g c =
    let back = g.P.Prefix.back in
    let m = c.args.left.now.entries in
    let n = c.args.right.now.entries in
    c.new.ensures ∙ ap (map (λ e. e.0)) (c.intersection.ensures.items ∙ ap₂ (λ s t. prefix_pairs back (listing (common s.entries t.entries))) c.as_map.ensures c.as_map-2.ensures)
    ∙ prefixes_shown back (listing (common m n)) ∙ common_keys n back m

pub returns-clause-each_fits : goal.returns-clause-each_fits
returns-clause-each_fits g c = subst (All g.P.Prefix.IsFitting) (sym c.new.ensures) (prefixes_fit g.P.Prefix.IsFitting c.intersection.result c.intersection.ensures.each_fits)
