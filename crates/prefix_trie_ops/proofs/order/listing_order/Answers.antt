-- Comparing two prefixes by their masks and then by their lengths is the order of their paths in a listing.
use Rattle.std.proofs.Common.{◌∙◌, ◌≤◌, ◌-◌, ◌++◌, length, ap, ap₂, subst, sym}
use Rattle.std.specs.Ordering.{nat_cmp, ordering_then}
use Rattle.prefix_trie.specs.Terms.{listing_cmp, zeros}
use Rattle.prefix_trie_ops.proofs.order.listing_order.Goals as goal

pub returns : goal.returns
returns g c =
    let p = c.args.left.now in
    let q = c.args.right.now in
    let laws = g.met.P.Prefix.prefix_laws in
    let path = g.P.Prefix.path in
    let w = g.P.R.Key.bit_width in
    let lp = c.path_laws.ensures.as_long p c.requires.fits in
    let lq = c.path_laws.ensures.as_long q c.requires.other_fits in
    let wp : length (path p) ≤ w = subst (λ n. n ≤ w) (sym lp) ((laws.fits_is p).0 c.requires.fits).1 in
    let wq : length (path q) ≤ w = subst (λ n. n ≤ w) (sym lq) ((laws.fits_is q).0 c.requires.other_fits).1 in
    c.then.ensures
    ∙ ap₂ ordering_then
    (c.compare-order.ensures ∙ ap₂ listing_cmp (c.mask.ensures.value ∙ ap (λ n. path p ++ zeros (w - n)) (sym lp)) (c.mask-2.ensures.value ∙ ap (λ n. path q ++ zeros (w - n)) (sym lq)))
    (c.cmp.ensures ∙ ap₂ nat_cmp (c.prefix_len.ensures ∙ sym lp) (c.prefix_len-2.ensures ∙ sym lq))
    ∙ sym (c.listing_laws.ensures.by_filled w (path p) (path q) wp wq)
