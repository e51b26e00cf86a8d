-- The entries of the left map that no key of the right one covers are the listing of the covering difference.
use Rattle.std.proofs.Common.{◌∙◌, ◌^◌, All, not, filter, ap, is_some, subst, sym}
use Rattle.std.specs.FinMap.{len}
use Rattle.prefix_trie.specs.Terms.{listing, shortest_match}
use Rattle.prefix_trie_ops.specs.Combining.{not_covered}
use Rattle.prefix_trie_ops.proofs.Bounds.{items_below, retained_fewer, retained_within}
use Rattle.prefix_trie_ops.proofs.SelectedItems.{selected}
use Rattle.prefix_trie_ops.proofs.map.covering_difference_walk.covering_difference.Goals as goal

pub returns-clause-items : goal.returns-clause-items
returns-clause-items g c =
    let m = c.args.left.now.entries in
    let n = c.args.right.now.entries in
    let path = g.P.Prefix.path in
    c.new.ensures ∙ ap (filter (λ e. not (is_some (shortest_match n (path e.0))))) c.iter.ensures.items
    ∙ selected path g.P.Prefix.back (λ s. not (is_some (shortest_match n s))) m
    (λ e at. c.listed_laws.ensures.key_is m c.iter.ensures.whole.is_map.keys_within e.0 (ap is_some ((c.listing_laws.ensures.has_each m e.0 e.1).1 at)))

pub returns-clause-each_fits : goal.returns-clause-each_fits
returns-clause-each_fits g c =
    let m = c.args.left.now.entries in
    let n = c.args.right.now.entries in
    subst (All (λ e. g.P.Prefix.IsFitting e.0)) (sym (returns-clause-items g c))
    (c.listed_laws.ensures.listed_fit (not_covered m n) (retained_within g.P.R.Key.bit_width m (λ s. not (is_some (shortest_match n s))) c.iter.ensures.whole.is_map.keys_within))

pub returns-clause-fits : goal.returns-clause-fits
returns-clause-fits g c =
    let m = c.args.left.now.entries in
    let n = c.args.right.now.entries in
    items_below (2 ^ 64) (len m) c.new.result (λ e. (g.P.Prefix.back e.0, e.1)) (listing (not_covered m n)) (returns-clause-items g c) (retained_fewer m (λ s. not (is_some (shortest_match n s)))) c.iter.ensures.fits
