-- The keys of the union are the prefixes of the items of the maps' union.
use Rattle.std.proofs.Common.{◌∙◌, All, ap, ap₂, map, subst, sym}
use Rattle.prefix_trie.specs.Terms.{listing, prefix_pairs}
use Rattle.prefix_trie_ops.specs.Merging.{union_of}
use Rattle.prefix_trie_ops.proofs.SelectedItems.{prefixes_fit, prefixes_shown}
use Rattle.prefix_trie_ops.proofs.set.walks.union.Goals as goal

pub returns-clause-items : goal.returns-clause-items
returns-clause-items g c =
    let back = g.P.Prefix.back in
    c.new.ensures ∙ ap (map (λ e. e.0)) (c.union.ensures.items ∙ ap₂ (λ m n. prefix_pairs back (listing (union_of m.entries n.entries))) c.as_map.ensures c.as_map-2.ensures)
    ∙ prefixes_shown back (listing (union_of c.args.left.now.entries c.args.right.now.entries))

pub returns-clause-each_fits : goal.returns-clause-each_fits
returns-clause-each_fits g c = subst (All g.P.Prefix.IsFitting) (sym c.new.ensures) (prefixes_fit g.P.Prefix.IsFitting c.union.result c.union.ensures.each_fits)
