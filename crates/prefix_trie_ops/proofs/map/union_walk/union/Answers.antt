-- The walk of both maps has the listing of the union to come, which has at most the items of both.
use Rattle.std.proofs.Common.{◌+◌, All, ap, subst, sym}
use Rattle.std.specs.FinMap.{len}
use Rattle.prefix_trie.specs.Terms.{combined_to_come, listing, prefix_pairs}
use Rattle.prefix_trie_ops.specs.Merging.{union_of}
use Rattle.prefix_trie_ops.proofs.Bounds.{items_at_most, union_fewer, union_within}
use Rattle.prefix_trie_ops.proofs.Combined.{union_combines}
use Rattle.prefix_trie_ops.proofs.map.union_walk.union.Goals as goal

pub returns-clause-items : goal.returns-clause-items
returns-clause-items g c =
    let m = c.args.left.now.entries in
    let n = c.args.right.now.entries in
    ap (prefix_pairs g.P.Prefix.back) (c.combined_cursor.ensures.items (union_of m n) (union_combines m n))

pub returns-clause-each_fits : goal.returns-clause-each_fits
returns-clause-each_fits g c =
    let m = c.args.left.now.entries in
    let n = c.args.right.now.entries in
    subst (All (λ e. g.P.Prefix.IsFitting e.0)) (sym (returns-clause-items g c))
    (c.listed_laws-3.ensures.listed_fit (union_of m n) (union_within g.P.R.Key.bit_width m n c.len.ensures.whole.is_map.keys_within c.len-2.ensures.whole.is_map.keys_within))

pub returns-clause-at_most : goal.returns-clause-at_most
returns-clause-at_most g c =
    let m = c.args.left.now.entries in
    let n = c.args.right.now.entries in
    items_at_most (len m + len n) (prefix_pairs g.P.Prefix.back (combined_to_come g.P.R.Key.bits (union_of m n) c.combined_cursor.result)) (λ e. (g.P.Prefix.back e.0, e.1)) (listing (union_of m n)) (returns-clause-items g c) (union_fewer m n)
