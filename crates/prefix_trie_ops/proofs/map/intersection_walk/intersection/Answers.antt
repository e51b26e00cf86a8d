-- The walk of both maps has the listing of the common keys to come.
use Rattle.std.proofs.Common.{rules, ◌^◌, All, ap, subst, sym}
use Rattle.std.specs.FinMap.{len}
use Rattle.prefix_trie.specs.Terms.{combined_to_come, listing, prefix_pairs}
use Rattle.prefix_trie_ops.specs.Combining.{common}
use Rattle.prefix_trie_ops.proofs.Bounds.{common_fewer, common_within, items_below}
use Rattle.prefix_trie_ops.proofs.Combined.{common_combines}
use Rattle.prefix_trie_ops.proofs.map.intersection_walk.intersection.Goals as goal

pub returns-clause-items : goal.returns-clause-items
returns-clause-items g c =
    let m = c.args.left.now.entries in
    let n = c.args.right.now.entries in
    ap (prefix_pairs g.P.Prefix.back) (c.combined_cursor.ensures.items (common m n) (common_combines m n))

pub returns-clause-each_fits : goal.returns-clause-each_fits
returns-clause-each_fits g c =
    let m = c.args.left.now.entries in
    let n = c.args.right.now.entries in
    subst (All (λ e. g.P.Prefix.IsFitting e.0)) (sym (returns-clause-items g c))
    (c.listed_laws-3.ensures.listed_fit (common m n) (common_within g.P.R.Key.bit_width m n c.len.ensures.whole.is_map.keys_within))

pub returns-clause-fits : goal.returns-clause-fits
returns-clause-fits g c =
    let m = c.args.left.now.entries in
    let n = c.args.right.now.entries in
    items_below (2 ^ 64) (len m) (prefix_pairs g.P.Prefix.back (combined_to_come g.P.R.Key.bits (common m n) c.combined_cursor.result)) (λ e. (g.P.Prefix.back e.0, e.1)) (listing (common m n)) (returns-clause-items g c) (common_fewer m n)
    (search rules)
