-- Placing the entries from the root rebuilds the whole map.
use Rattle.std.proofs.Common.{◌≡◌, ◌∙◌, ◌+◌, ◌++◌, [], None, length, ap, sym, refl, subst, arith, append-nil}
use Rattle.std.proofs.lemmas.Result.{err_from_is_err_and}
use Rattle.std.specs.FinMap.{get}
use Rattle.prefix_trie.specs.Terms.{listing_from, prefix_pairs}
use Rattle.prefix_trie_map.specs.Collected.{ManyMayPassLimit}
use Rattle.prefix_trie_ops.specs.Choosing.{part_values, AreToCome}
use Rattle.prefix_trie_ops.specs.Optimal.{value_along, Rebuilds}
use Rattle.prefix_trie_ops.specs.Parts.{least}
use Rattle.prefix_trie_ops.proofs.Optimal.Whole.{all_from_root}
use Rattle.prefix_trie_ops.proofs.map.optimal.place_all.Goals as goal

pub place-requires : goal.place-requires
place-requires g c =
    subst g.P.Prefix.IsFitting (sym c.from_repr_len-root.ensures) (g.met.P.Prefix.prefix_laws.fits_from_parts c.zero.result 0 c.zero.ensures.key (omega arith))

pub returns-clause-rebuilds : goal.returns-clause-rebuilds
returns-clause-rebuilds g c source within listed empty exact =
    let path = g.P.Prefix.path in
    let back = g.P.Prefix.back in
    let width = g.P.R.Key.bit_width in
    let eq = g.T.PartialEq.eq in
    let cmp = g.T.Ord.cmp in
    let prefix = c.from_repr_len-root.result in
    let root : path prefix ≡ [] = ap path c.from_repr_len-root.ensures ∙ g.met.P.Prefix.prefix_laws.path_from_parts c.zero.result 0 c.zero.ensures.key (omega arith) in
    let long : length (path prefix) + width ≡ width = let l = ap length root in omega arith in
    let all = listed ∙ ap (prefix_pairs back) (all_from_root source) ∙ ap (λ t. prefix_pairs back (listing_from source t)) (sym root) in
    let sets : AreToCome c.in_ok-choices.choices (part_values eq cmp source width [] None) = c.in_ok-choices.ensures source within (c.of.ensures ∙ all) root exact in
    let come : AreToCome c.in_ok-choices.choices (part_values eq cmp source width (path prefix) None ++ []) =
    subst (AreToCome c.in_ok-choices.choices) (ap (λ t. part_values eq cmp source width t None) (sym root) ∙ sym (append-nil (part_values eq cmp source width (path prefix) None))) sets in
    subst (λ t. Rebuilds eq cmp width source t None None c.args.made.now.entries c.place.new.made.entries) root
    (c.in_ok-place.ensures.rebuilds source width [] within long (c.of-walk.ensures ∙ all) come (λ t _. empty t) exact (λ _. refl))

pub returns-in_err-place-clause-range : goal.returns-in_err-place-clause-range
returns-in_err-place-clause-range g c =
    let p = err_from_is_err_and c.from_residual-in_err-place.result c.from_residual-in_err-place.ensures.1 in
    rw (p.1, p.2) (λ range source within listed empty exact.
    let path = g.P.Prefix.path in
    let back = g.P.Prefix.back in
    let width = g.P.R.Key.bit_width in
    let eq = g.T.PartialEq.eq in
    let cmp = g.T.Ord.cmp in
    let prefix = c.from_repr_len-root.result in
    let root : path prefix ≡ [] = ap path c.from_repr_len-root.ensures ∙ g.met.P.Prefix.prefix_laws.path_from_parts c.zero.result 0 c.zero.ensures.key (omega arith) in
    let long : length (path prefix) + width ≡ width = let l = ap length root in omega arith in
    let all = listed ∙ ap (prefix_pairs back) (all_from_root source) ∙ ap (λ t. prefix_pairs back (listing_from source t)) (sym root) in
    let sets : AreToCome c.in_ok-choices.choices (part_values eq cmp source width [] None) = c.in_ok-choices.ensures source within (c.of.ensures ∙ all) root exact in
    let come : AreToCome c.in_ok-choices.choices (part_values eq cmp source width (path prefix) None ++ []) =
    subst (AreToCome c.in_ok-choices.choices) (ap (λ t. part_values eq cmp source width t None) (sym root) ∙ sym (append-nil (part_values eq cmp source width (path prefix) None))) sets in
    subst (λ t. ManyMayPassLimit c.args.made.now.space (least eq cmp width (value_along (get source) None t) None)) root
    (c.in_err-place.ensures.range range source width [] within long (c.of-walk.ensures ∙ all) come (λ t _. empty t) exact (λ _. refl)))
