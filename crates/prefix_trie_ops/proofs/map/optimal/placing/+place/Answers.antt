-- The recursion of `aggregate`: a part without entries under it gets its own value, and another part is rebuilt from
-- its two halves.
use Rattle.std.proofs.Common.{rules, ◌≡◌, ◌∙◌, ℕ, ◌+◌, ◌<◌, ◌++◌, suc, Bool, true, false, List, [], ◌∷◌, length, None, is_some, ap, sym, subst, arith, length-append}
use Rattle.std.specs.List.{Contains}
use Rattle.std.specs.Option.{option_or}
use Rattle.std.specs.FinMap.{get}
use Rattle.std.proofs.lemmas.List.{append_assoc}
use Rattle.std.proofs.lemmas.Result.{err_from_is_err_and}
use Rattle.prefix_trie_bits.specs.Begins.{begins-refl}
use Rattle.prefix_trie_bits.specs.Keys.{path_length}
use Rattle.prefix_trie.specs.Terms.{listing, listing_after, listing_from, prefix_pairs}
use Rattle.prefix_trie_map.specs.Collected.{ManyMayPassLimit}
use Rattle.prefix_trie_ops.specs.Choosing.{part_values, AreToCome}
use Rattle.prefix_trie_ops.specs.Optimal.{is_first_below, listing_past, value_along, HasNoneBelow, Rebuilds}
use Rattle.prefix_trie_ops.specs.Parts.{as_list, best_value, first_values, least, stored}
use Rattle.prefix_trie_ops.proofs.Filling.{fills_then, passes_later, passes_more}
use Rattle.prefix_trie_ops.proofs.Optimal.Choosing.{by_more, first_alone, first_combined, part_inner, part_outer}
use Rattle.prefix_trie_ops.proofs.Optimal.Fronts.{below_is, left_after, no_key_below, past_leaf, to_end, to_left, to_right, value_here}
use Rattle.prefix_trie_ops.proofs.Optimal.PartCosts.{inner_cost, leaf_cost}
use Rattle.prefix_trie_ops.proofs.Optimal.Positions.{lower_half, upper_half}
use Rattle.prefix_trie_ops.proofs.Optimal.RebuiltParts.{joined, leaf, none_left, none_right}
use Rattle.prefix_trie_ops.proofs.Smallest.Lower.{best_none}
use Rattle.prefix_trie_ops.proofs.Smallest.StoredSets.{combined_left, combined_right}
use Rattle.prefix_trie_ops.proofs.map.optimal.placing.+place.Goals as goal

pub place-returns-then-not-is_inner-clause-walks : goal.place-returns-then-not-is_inner-clause-walks
place-returns-then-not-is_inner-clause-walks g t c source within is =
    let path = g.P.Prefix.path in
    let back = g.P.Prefix.back in
    let s = path c.args.at.now in
    let known : (e : List Bool × g.row.T.Denot) → Contains (listing source) e → path (back e.0) ≡ e.0 = λ e at. c.listed_laws.ensures.key_is source within e.0 (ap is_some ((c.listing_laws.ensures.has_each source e.0 e.1).1 at)) in
    let after : c.take_at-own.new.walk ≡ prefix_pairs back (listing_after source s) = c.take_at-own.ensures.items ∙ left_after path back source known s c.args.walk.now is in
    let off : is_first_below path s c.take_at-own.new.walk ≡ false = search rules in
    past_leaf path back source known s c.take_at-own.new.walk after off

pub place-returns-then-not-is_inner-clause-takes : goal.place-returns-then-not-is_inner-clause-takes
place-returns-then-not-is_inner-clause-takes g t c source n rest within long is come =
    let path = g.P.Prefix.path in
    let back = g.P.Prefix.back in
    let s = path c.args.at.now in
    let known : (e : List Bool × g.row.T.Denot) → Contains (listing source) e → path (back e.0) ≡ e.0 = λ e at. c.listed_laws.ensures.key_is source within e.0 (ap is_some ((c.listing_laws.ensures.has_each source e.0 e.1).1 at)) in
    let after : c.take_at-own.new.walk ≡ prefix_pairs back (listing_after source s) = c.take_at-own.ensures.items ∙ left_after path back source known s c.args.walk.now is in
    let off : is_first_below path s c.take_at-own.new.walk ≡ false = search rules in
    subst (λ xss. AreToCome c.args.choices.now (xss ++ rest))
    (part_outer g.T.PartialEq.eq g.T.Ord.cmp source s c.args.inherited n (sym (below_is path back source known s c.take_at-own.new.walk after) ∙ off)) come

pub place-returns-then-not-is_inner-clause-rebuilds : goal.place-returns-then-not-is_inner-clause-rebuilds
place-returns-then-not-is_inner-clause-rebuilds g t c source n rest within long is come empty exact possible =
    let path = g.P.Prefix.path in
    let back = g.P.Prefix.back in
    let s = path c.args.at.now in
    let eq = g.T.PartialEq.eq in
    let cmp = g.T.Ord.cmp in
    let known : (e : List Bool × g.row.T.Denot) → Contains (listing source) e → path (back e.0) ≡ e.0 = λ e at. c.listed_laws.ensures.key_is source within e.0 (ap is_some ((c.listing_laws.ensures.has_each source e.0 e.1).1 at)) in
    let after : c.take_at-own.new.walk ≡ prefix_pairs back (listing_after source s) = c.take_at-own.ensures.items ∙ left_after path back source known s c.args.walk.now is in
    let off : is_first_below path s c.take_at-own.new.walk ≡ false = search rules in
    let none = no_key_below path back source known s c.take_at-own.new.walk after off in
    let here : c.or-here.result ≡ option_or (get source s) c.args.inherited =
    c.or-here.ensures ∙ ap (λ o. option_or o c.args.inherited) (c.take_at-own.ensures.value ∙ value_here path back source known s c.args.walk.now is) in
    let some : c.or-here.result ≡ None → c.args.held ≡ None =
    λ missing. possible (first_alone eq cmp source s c.args.inherited g.met.T.Eq.laws g.met.T.Ord.matches_eq none n ∙ ap as_list (sym here ∙ missing)) in
    leaf eq cmp source c.args.made.now.entries c.settle.new.made.entries s c.args.inherited c.args.held c.or-here.result
    empty c.in_ok-settle.ensures.beside (c.in_ok-settle.ensures.value exact (empty s (begins-refl s)) some) (c.in_ok-settle.ensures.fresh (empty s (begins-refl s))) c.in_ok-settle.ensures.cost
    n g.met.T.Eq.laws g.met.T.Ord.matches_eq none here

pub place-returns-clause-walks : goal.place-returns-clause-walks
place-returns-clause-walks g t c source within is =
    let path = g.P.Prefix.path in
    let back = g.P.Prefix.back in
    let s = path c.args.at.now in
    let known : (e : List Bool × g.row.T.Denot) → Contains (listing source) e → path (back e.0) ≡ e.0 = λ e at. c.listed_laws.ensures.key_is source within e.0 (ap is_some ((c.listing_laws.ensures.has_each source e.0 e.1).1 at)) in
    let after : c.take_at-own.new.walk ≡ prefix_pairs back (listing_after source s) = c.take_at-own.ensures.items ∙ left_after path back source known s c.args.walk.now is in
    c.in_ok-place_inner.ensures.walks source within after

pub place-returns-clause-takes : goal.place-returns-clause-takes
place-returns-clause-takes g t c source n rest within long is come =
    let path = g.P.Prefix.path in
    let back = g.P.Prefix.back in
    let s = path c.args.at.now in
    let known : (e : List Bool × g.row.T.Denot) → Contains (listing source) e → path (back e.0) ≡ e.0 = λ e at. c.listed_laws.ensures.key_is source within e.0 (ap is_some ((c.listing_laws.ensures.has_each source e.0 e.1).1 at)) in
    let after : c.take_at-own.new.walk ≡ prefix_pairs back (listing_after source s) = c.take_at-own.ensures.items ∙ left_after path back source known s c.args.walk.now is in
    let below : is_first_below path s c.take_at-own.new.walk ≡ true = search rules in
    c.in_ok-place_inner.ensures.takes source n c.args.inherited rest within long after (sym (below_is path back source known s c.take_at-own.new.walk after) ∙ below)
    (c.or-here.ensures ∙ ap (λ o. option_or o c.args.inherited) (c.take_at-own.ensures.value ∙ value_here path back source known s c.args.walk.now is)) come

pub place-returns-clause-rebuilds : goal.place-returns-clause-rebuilds
place-returns-clause-rebuilds g t c source n rest within long is come empty exact possible =
    let path = g.P.Prefix.path in
    let back = g.P.Prefix.back in
    let s = path c.args.at.now in
    let known : (e : List Bool × g.row.T.Denot) → Contains (listing source) e → path (back e.0) ≡ e.0 = λ e at. c.listed_laws.ensures.key_is source within e.0 (ap is_some ((c.listing_laws.ensures.has_each source e.0 e.1).1 at)) in
    let after : c.take_at-own.new.walk ≡ prefix_pairs back (listing_after source s) = c.take_at-own.ensures.items ∙ left_after path back source known s c.args.walk.now is in
    let below : is_first_below path s c.take_at-own.new.walk ≡ true = search rules in
    c.in_ok-place_inner.ensures.rebuilds source n c.args.inherited rest within long after (sym (below_is path back source known s c.take_at-own.new.walk after) ∙ below)
    (c.or-here.ensures ∙ ap (λ o. option_or o c.args.inherited) (c.take_at-own.ensures.value ∙ value_here path back source known s c.args.walk.now is)) come empty exact possible

pub place_inner-returns-clause-walks : goal.place_inner-returns-clause-walks
place_inner-returns-clause-walks g t c source within is =
    let path = g.P.Prefix.path in
    let back = g.P.Prefix.back in
    let s = path c.args.at.now in
    let lower : path c.half-lower.result ≡ s ++ false ∷ [] = c.half-lower.ensures.path ∙ ap (λ d. s ++ d) lower_half in
    let upper : path c.half-upper.result ≡ s ++ true ∷ [] = c.half-upper.ensures.path ∙ ap (λ d. s ++ d) upper_half in
    let from = λ (t : List Bool). prefix_pairs back (listing_from source t) in
    let past = λ (t : List Bool). prefix_pairs back (listing_past source t) in
    let to_lower : c.args.walk.now ≡ prefix_pairs back (listing_from source (path c.half-lower.result)) = to_left back source s c.args.walk.now is ∙ ap from (sym lower) in
    let walked : c.place.new.walk ≡ prefix_pairs back (listing_past source (s ++ false ∷ [])) = c.in_ok-place.ensures.walks source within to_lower ∙ ap past lower in
    let to_upper : c.place.new.walk ≡ prefix_pairs back (listing_from source (path c.half-upper.result)) = to_right back source s c.place.new.walk walked ∙ ap from (sym upper) in
    to_end back source s c.place-2.new.walk (c.in_ok-place-2.ensures.walks source within to_upper ∙ ap past upper)

pub place_inner-returns-clause-takes : goal.place_inner-returns-clause-takes
place_inner-returns-clause-takes g t c source n inherited rest within long is below valued come =
    let path = g.P.Prefix.path in
    let back = g.P.Prefix.back in
    let s = path c.args.at.now in
    let eq = g.T.PartialEq.eq in
    let cmp = g.T.Ord.cmp in
    let width = g.P.R.Key.bit_width in
    let lower : path c.half-lower.result ≡ s ++ false ∷ [] = c.half-lower.ensures.path ∙ ap (λ d. s ++ d) lower_half in
    let upper : path c.half-upper.result ≡ s ++ true ∷ [] = c.half-upper.ensures.path ∙ ap (λ d. s ++ d) upper_half in
    let from = λ (t : List Bool). prefix_pairs back (listing_from source t) in
    let past = λ (t : List Bool). prefix_pairs back (listing_past source t) in
    let to_lower : c.args.walk.now ≡ prefix_pairs back (listing_from source (path c.half-lower.result)) = to_left back source s c.args.walk.now is ∙ ap from (sym lower) in
    let walked : c.place.new.walk ≡ prefix_pairs back (listing_past source (s ++ false ∷ [])) = c.in_ok-place.ensures.walks source within to_lower ∙ ap past lower in
    let to_upper : c.place.new.walk ≡ prefix_pairs back (listing_from source (path c.half-upper.result)) = to_right back source s c.place.new.walk walked ∙ ap from (sym upper) in
    let short : length s < width = omega (arith, c.requires.short, path_length g.met.P.Prefix.prefix_laws c.args.at.now c.requires.fits) in
    let below_here = option_or (get source s) inherited in
    let in_lower = ap length lower ∙ length-append s (false ∷ []) in
    let in_upper = ap length upper ∙ length-append s (true ∷ []) in
    by_more (λ k. length s + k ≡ width → AreToCome c.args.choices.now (part_values eq cmp source k s inherited ++ rest) → AreToCome c.place-2.new.choices rest) n (omega (arith, short, long))
    (λ k long come.
    let first = first_values eq cmp (suc k) (value_along (get source) inherited s) in
    let left_parts = part_values eq cmp source k (s ++ false ∷ []) below_here in
    let right_parts = part_values eq cmp source k (s ++ true ∷ []) below_here in
    let come : AreToCome c.args.choices.now (first ∷ (left_parts ++ (right_parts ++ rest))) =
    subst (AreToCome c.args.choices.now) (ap (λ xss. xss ++ rest) (part_inner eq cmp source s inherited k below) ∙ ap (λ xss. first ∷ xss) (append_assoc left_parts right_parts rest)) come in
    let left_same : left_parts ≡ part_values eq cmp source k (path c.half-lower.result) c.args.here =
    ap (λ t. part_values eq cmp source k t below_here) (sym lower) ∙ ap (part_values eq cmp source k (path c.half-lower.result)) (sym valued) in
    let right_same : right_parts ≡ part_values eq cmp source k (path c.half-upper.result) c.args.here =
    ap (λ t. part_values eq cmp source k t below_here) (sym upper) ∙ ap (part_values eq cmp source k (path c.half-upper.result)) (sym valued) in
    let long_lower : length (path c.half-lower.result) + k ≡ width = omega (arith, in_lower, long) in
    let long_upper : length (path c.half-upper.result) + k ≡ width = omega (arith, in_upper, long) in
    let come_lower : AreToCome c.take-wanted.new.self (part_values eq cmp source k (path c.half-lower.result) c.args.here ++ (right_parts ++ rest)) =
    subst (λ xss. AreToCome c.take-wanted.new.self (xss ++ (right_parts ++ rest))) left_same (c.take-wanted.ensures.rest first (left_parts ++ (right_parts ++ rest)) come) in
    let come_upper : AreToCome c.place.new.choices (part_values eq cmp source k (path c.half-upper.result) c.args.here ++ rest) =
    subst (λ xss. AreToCome c.place.new.choices (xss ++ rest)) right_same (c.in_ok-place.ensures.takes source k (right_parts ++ rest) within long_lower to_lower come_lower) in
    c.in_ok-place-2.ensures.takes source k rest within long_upper to_upper come_upper) long come

pub place_inner-returns-clause-rebuilds : goal.place_inner-returns-clause-rebuilds
place_inner-returns-clause-rebuilds g t c source n inherited rest within long is below valued come empty exact possible =
    let path = g.P.Prefix.path in
    let back = g.P.Prefix.back in
    let s = path c.args.at.now in
    let eq = g.T.PartialEq.eq in
    let cmp = g.T.Ord.cmp in
    let width = g.P.R.Key.bit_width in
    let lower : path c.half-lower.result ≡ s ++ false ∷ [] = c.half-lower.ensures.path ∙ ap (λ d. s ++ d) lower_half in
    let upper : path c.half-upper.result ≡ s ++ true ∷ [] = c.half-upper.ensures.path ∙ ap (λ d. s ++ d) upper_half in
    let from = λ (t : List Bool). prefix_pairs back (listing_from source t) in
    let past = λ (t : List Bool). prefix_pairs back (listing_past source t) in
    let to_lower : c.args.walk.now ≡ prefix_pairs back (listing_from source (path c.half-lower.result)) = to_left back source s c.args.walk.now is ∙ ap from (sym lower) in
    let walked : c.place.new.walk ≡ prefix_pairs back (listing_past source (s ++ false ∷ [])) = c.in_ok-place.ensures.walks source within to_lower ∙ ap past lower in
    let to_upper : c.place.new.walk ≡ prefix_pairs back (listing_from source (path c.half-upper.result)) = to_right back source s c.place.new.walk walked ∙ ap from (sym upper) in
    let short : length s < width = omega (arith, c.requires.short, path_length g.met.P.Prefix.prefix_laws c.args.at.now c.requires.fits) in
    let below_here = option_or (get source s) inherited in
    let in_lower = ap length lower ∙ length-append s (false ∷ []) in
    let in_upper = ap length upper ∙ length-append s (true ∷ []) in
    let before = c.args.made.now.entries in
    let settled = c.settle.new.made.entries in
    let middle = c.place.new.made.entries in
    let after = c.place-2.new.made.entries in
    let here = c.args.here in
    let wanted = c.take-wanted.result in
    let held = c.args.held in
    let beside = c.in_ok-settle.ensures.beside in
    let fresh = c.in_ok-settle.ensures.fresh (empty s (begins-refl s)) in
    let cost = c.in_ok-settle.ensures.cost in
    by_more (λ k. length s + k ≡ width → AreToCome c.args.choices.now (part_values eq cmp source k s inherited ++ rest) → (first_values eq cmp k (value_along (get source) inherited s) ≡ [] → held ≡ None)
    → Rebuilds eq cmp k source s inherited held before after) n (omega (arith, short, long))
    (λ k long come possible.
    let first = first_values eq cmp (suc k) (value_along (get source) inherited s) in
    let left_parts = part_values eq cmp source k (s ++ false ∷ []) below_here in
    let right_parts = part_values eq cmp source k (s ++ true ∷ []) below_here in
    let come : AreToCome c.args.choices.now (first ∷ (left_parts ++ (right_parts ++ rest))) =
    subst (AreToCome c.args.choices.now) (ap (λ xss. xss ++ rest) (part_inner eq cmp source s inherited k below) ∙ ap (λ xss. first ∷ xss) (append_assoc left_parts right_parts rest)) come in
    let left_same : left_parts ≡ part_values eq cmp source k (path c.half-lower.result) c.args.here =
    ap (λ t. part_values eq cmp source k t below_here) (sym lower) ∙ ap (part_values eq cmp source k (path c.half-lower.result)) (sym valued) in
    let right_same : right_parts ≡ part_values eq cmp source k (path c.half-upper.result) c.args.here =
    ap (λ t. part_values eq cmp source k t below_here) (sym upper) ∙ ap (part_values eq cmp source k (path c.half-upper.result)) (sym valued) in
    let long_lower : length (path c.half-lower.result) + k ≡ width = omega (arith, in_lower, long) in
    let long_upper : length (path c.half-upper.result) + k ≡ width = omega (arith, in_upper, long) in
    let come_lower : AreToCome c.take-wanted.new.self (part_values eq cmp source k (path c.half-lower.result) c.args.here ++ (right_parts ++ rest)) =
    subst (λ xss. AreToCome c.take-wanted.new.self (xss ++ (right_parts ++ rest))) left_same (c.take-wanted.ensures.rest first (left_parts ++ (right_parts ++ rest)) come) in
    let come_upper : AreToCome c.place.new.choices (part_values eq cmp source k (path c.half-upper.result) c.args.here ++ rest) =
    subst (λ xss. AreToCome c.place.new.choices (xss ++ rest)) right_same (c.in_ok-place.ensures.takes source k (right_parts ++ rest) within long_lower to_lower come_lower) in
    let best : wanted ≡ best_value eq first held = c.take-wanted.ensures.best first (left_parts ++ (right_parts ++ rest)) come exact in
    let gives = c.in_ok-settle.ensures.value exact (empty s (begins-refl s)) (λ missing. possible (best_none eq first held (sym best ∙ missing))) in
    let first_lower = first_values eq cmp k (value_along (get source) below_here (s ++ false ∷ [])) in
    let first_upper = first_values eq cmp k (value_along (get source) below_here (s ++ true ∷ [])) in
    let lower_same : first_values eq cmp k (value_along (get source) here (path c.half-lower.result)) ≡ first_lower =
    ap (λ t. first_values eq cmp k (value_along (get source) here t)) lower ∙ ap (λ h. first_values eq cmp k (value_along (get source) h (s ++ false ∷ []))) valued in
    let upper_same : first_values eq cmp k (value_along (get source) here (path c.half-upper.result)) ≡ first_upper =
    ap (λ t. first_values eq cmp k (value_along (get source) here t)) upper ∙ ap (λ h. first_values eq cmp k (value_along (get source) h (s ++ true ∷ []))) valued in
    let combined = first_combined eq cmp source s inherited k in
    let left : Rebuilds eq cmp k source (s ++ false ∷ []) here wanted settled middle = subst (λ t. Rebuilds eq cmp k source t here wanted settled middle) lower
    (c.in_ok-place.ensures.rebuilds source k (right_parts ++ rest) within long_lower to_lower come_lower
    (subst (HasNoneBelow settled) (sym lower) (none_left eq cmp source before settled s inherited held wanted empty beside gives fresh cost)) exact
    (λ none. best ∙ ap (λ xs. best_value eq xs held) (combined ∙ combined_left eq cmp first_lower first_upper (sym lower_same ∙ none)))) in
    let right : Rebuilds eq cmp k source (s ++ true ∷ []) here wanted middle after = subst (λ t. Rebuilds eq cmp k source t here wanted middle after) upper
    (c.in_ok-place-2.ensures.rebuilds source k rest within long_upper to_upper come_upper
    (subst (HasNoneBelow middle) (sym upper) (none_right eq cmp source before settled s inherited held wanted empty beside gives fresh cost middle left.beside)) exact
    (λ none. best ∙ ap (λ xs. best_value eq xs held) (combined ∙ combined_right eq cmp first_lower first_upper (sym upper_same ∙ none)))) in
    joined eq cmp source before settled s inherited held wanted empty beside gives fresh cost middle after here k valued left right g.met.T.Eq.laws g.met.T.Ord.matches_eq best possible) long come possible

-- Without slots for an entry, the fewest entries of the part may exceed the limit too.
pub place-returns-in_err-settle-clause-range : goal.place-returns-in_err-settle-clause-range
place-returns-in_err-settle-clause-range g t c =
    let p = err_from_is_err_and c.from_residual.result c.from_residual.ensures.1 in
    rw (p.1, p.2) (λ range source n rest within long is come empty exact possible.
    let path = g.P.Prefix.path in
    let back = g.P.Prefix.back in
    let s = path c.args.at.now in
    let known : (e : List Bool × g.row.T.Denot) → Contains (listing source) e → path (back e.0) ≡ e.0 = λ e at. c.listed_laws.ensures.key_is source within e.0 (ap is_some ((c.listing_laws.ensures.has_each source e.0 e.1).1 at)) in
    let after : c.take_at-own.new.walk ≡ prefix_pairs back (listing_after source s) = c.take_at-own.ensures.items ∙ left_after path back source known s c.args.walk.now is in
    let eq = g.T.PartialEq.eq in
    let cmp = g.T.Ord.cmp in
    let off : is_first_below path s c.take_at-own.new.walk ≡ false = search rules in
    let none = no_key_below path back source known s c.take_at-own.new.walk after off in
    let here : c.or-here.result ≡ option_or (get source s) c.args.inherited =
    c.or-here.ensures ∙ ap (λ o. option_or o c.args.inherited) (c.take_at-own.ensures.value ∙ value_here path back source known s c.args.walk.now is) in
    passes_more c.args.made.now.space (stored eq c.args.held c.or-here.result) (least eq cmp n (value_along (get source) c.args.inherited s) c.args.held)
    (leaf_cost eq cmp source s c.args.inherited c.args.held c.or-here.result g.met.T.Eq.laws g.met.T.Ord.matches_eq n none here) (c.in_err-settle.ensures.range range))

pub place-returns-in_err-place_inner-clause-range : goal.place-returns-in_err-place_inner-clause-range
place-returns-in_err-place_inner-clause-range g t c =
    let p = err_from_is_err_and c.from_residual-in_err-place_inner.result c.from_residual-in_err-place_inner.ensures.1 in
    rw (p.1, p.2) (λ range source n rest within long is come empty exact possible.
    let path = g.P.Prefix.path in
    let back = g.P.Prefix.back in
    let s = path c.args.at.now in
    let known : (e : List Bool × g.row.T.Denot) → Contains (listing source) e → path (back e.0) ≡ e.0 = λ e at. c.listed_laws.ensures.key_is source within e.0 (ap is_some ((c.listing_laws.ensures.has_each source e.0 e.1).1 at)) in
    let after : c.take_at-own.new.walk ≡ prefix_pairs back (listing_after source s) = c.take_at-own.ensures.items ∙ left_after path back source known s c.args.walk.now is in
    let below : is_first_below path s c.take_at-own.new.walk ≡ true = search rules in
    c.in_err-place_inner.ensures.range range source n c.args.inherited rest within long after (sym (below_is path back source known s c.take_at-own.new.walk after) ∙ below)
    (c.or-here.ensures ∙ ap (λ o. option_or o c.args.inherited) (c.take_at-own.ensures.value ∙ value_here path back source known s c.args.walk.now is)) come empty exact possible)

pub place_inner-returns-in_err-settle-clause-range : goal.place_inner-returns-in_err-settle-clause-range
place_inner-returns-in_err-settle-clause-range g t c =
    let p = err_from_is_err_and c.from_residual.result c.from_residual.ensures.1 in
    rw (p.1, p.2) (λ range source n inherited rest within long is below valued come empty exact possible.
    let path = g.P.Prefix.path in
    let back = g.P.Prefix.back in
    let s = path c.args.at.now in
    let eq = g.T.PartialEq.eq in
    let cmp = g.T.Ord.cmp in
    let width = g.P.R.Key.bit_width in
    let short : length s < width = omega (arith, c.requires.short, path_length g.met.P.Prefix.prefix_laws c.args.at.now c.requires.fits) in
    let below_here = option_or (get source s) inherited in
    let before = c.args.made.now in
    let here = c.args.here in
    let wanted = c.take-wanted.result in
    let held = c.args.held in
    by_more (λ k. length s + k ≡ width → AreToCome c.args.choices.now (part_values eq cmp source k s inherited ++ rest) → (first_values eq cmp k (value_along (get source) inherited s) ≡ [] → held ≡ None)
    → ManyMayPassLimit before.space (least eq cmp k (value_along (get source) inherited s) held)) n (omega (arith, short, long))
    (λ k long come possible.
    let first = first_values eq cmp (suc k) (value_along (get source) inherited s) in
    let left_parts = part_values eq cmp source k (s ++ false ∷ []) below_here in
    let right_parts = part_values eq cmp source k (s ++ true ∷ []) below_here in
    let come : AreToCome c.args.choices.now (first ∷ (left_parts ++ (right_parts ++ rest))) =
    subst (AreToCome c.args.choices.now) (ap (λ xss. xss ++ rest) (part_inner eq cmp source s inherited k below) ∙ ap (λ xss. first ∷ xss) (append_assoc left_parts right_parts rest)) come in
    let best : wanted ≡ best_value eq first held = c.take-wanted.ensures.best first (left_parts ++ (right_parts ++ rest)) come exact in
    let whole = inner_cost eq cmp source s inherited held wanted g.met.T.Eq.laws g.met.T.Ord.matches_eq here k valued best possible in
    passes_more before.space (stored eq held wanted) (least eq cmp (suc k) (value_along (get source) inherited s) held) (omega (arith, whole)) (c.in_err-settle.ensures.range range)) long come possible)

pub place_inner-returns-in_err-place-clause-range : goal.place_inner-returns-in_err-place-clause-range
place_inner-returns-in_err-place-clause-range g t c =
    let p = err_from_is_err_and c.from_residual-in_err-place.result c.from_residual-in_err-place.ensures.1 in
    rw (p.1, p.2) (λ range source n inherited rest within long is below valued come empty exact possible.
    let path = g.P.Prefix.path in
    let back = g.P.Prefix.back in
    let s = path c.args.at.now in
    let eq = g.T.PartialEq.eq in
    let cmp = g.T.Ord.cmp in
    let width = g.P.R.Key.bit_width in
    let lower : path c.half-lower.result ≡ s ++ false ∷ [] = c.half-lower.ensures.path ∙ ap (λ d. s ++ d) lower_half in
    let from = λ (t : List Bool). prefix_pairs back (listing_from source t) in
    let to_lower : c.args.walk.now ≡ prefix_pairs back (listing_from source (path c.half-lower.result)) = to_left back source s c.args.walk.now is ∙ ap from (sym lower) in
    let in_lower = ap length lower ∙ length-append s (false ∷ []) in
    let short : length s < width = omega (arith, c.requires.short, path_length g.met.P.Prefix.prefix_laws c.args.at.now c.requires.fits) in
    let below_here = option_or (get source s) inherited in
    let before = c.args.made.now in
    let here = c.args.here in
    let wanted = c.take-wanted.result in
    let held = c.args.held in
    by_more (λ k. length s + k ≡ width → AreToCome c.args.choices.now (part_values eq cmp source k s inherited ++ rest) → (first_values eq cmp k (value_along (get source) inherited s) ≡ [] → held ≡ None)
    → ManyMayPassLimit before.space (least eq cmp k (value_along (get source) inherited s) held)) n (omega (arith, short, long))
    (λ k long come possible.
    let first = first_values eq cmp (suc k) (value_along (get source) inherited s) in
    let left_parts = part_values eq cmp source k (s ++ false ∷ []) below_here in
    let right_parts = part_values eq cmp source k (s ++ true ∷ []) below_here in
    let come : AreToCome c.args.choices.now (first ∷ (left_parts ++ (right_parts ++ rest))) =
    subst (AreToCome c.args.choices.now) (ap (λ xss. xss ++ rest) (part_inner eq cmp source s inherited k below) ∙ ap (λ xss. first ∷ xss) (append_assoc left_parts right_parts rest)) come in
    let best : wanted ≡ best_value eq first held = c.take-wanted.ensures.best first (left_parts ++ (right_parts ++ rest)) come exact in
    let whole = inner_cost eq cmp source s inherited held wanted g.met.T.Eq.laws g.met.T.Ord.matches_eq here k valued best possible in
    let settled = c.settle.new.made in
    let beside = c.in_ok-settle.ensures.beside in
    let fresh = c.in_ok-settle.ensures.fresh (empty s (begins-refl s)) in
    let cost = c.in_ok-settle.ensures.cost in
    let left_same : left_parts ≡ part_values eq cmp source k (path c.half-lower.result) here =
    ap (λ t. part_values eq cmp source k t below_here) (sym lower) ∙ ap (part_values eq cmp source k (path c.half-lower.result)) (sym valued) in
    let long_lower : length (path c.half-lower.result) + k ≡ width = omega (arith, in_lower, long) in
    let come_lower : AreToCome c.take-wanted.new.self (part_values eq cmp source k (path c.half-lower.result) here ++ (right_parts ++ rest)) =
    subst (λ xss. AreToCome c.take-wanted.new.self (xss ++ (right_parts ++ rest))) left_same (c.take-wanted.ensures.rest first (left_parts ++ (right_parts ++ rest)) come) in
    let gives = c.in_ok-settle.ensures.value exact (empty s (begins-refl s)) (λ missing. possible (best_none eq first held (sym best ∙ missing))) in
    let first_lower = first_values eq cmp k (value_along (get source) below_here (s ++ false ∷ [])) in
    let first_upper = first_values eq cmp k (value_along (get source) below_here (s ++ true ∷ [])) in
    let lower_same : first_values eq cmp k (value_along (get source) here (path c.half-lower.result)) ≡ first_lower =
    ap (λ t. first_values eq cmp k (value_along (get source) here t)) lower ∙ ap (λ h. first_values eq cmp k (value_along (get source) h (s ++ false ∷ []))) valued in
    let combined = first_combined eq cmp source s inherited k in
    let none_lower = subst (HasNoneBelow settled.entries) (sym lower) (none_left eq cmp source before.entries settled.entries s inherited held wanted empty beside gives fresh cost) in
    let begins_lower = λ (none : first_values eq cmp k (value_along (get source) here (path c.half-lower.result)) ≡ []).
    best ∙ ap (λ xs. best_value eq xs held) (combined ∙ combined_left eq cmp first_lower first_upper (sym lower_same ∙ none)) in
    let cost_lower : ℕ = least eq cmp k (value_along (get source) here (s ++ false ∷ [])) wanted in
    let cost_upper : ℕ = least eq cmp k (value_along (get source) here (s ++ true ∷ [])) wanted in
    passes_later before settled (stored eq held wanted) cost_lower (least eq cmp (suc k) (value_along (get source) inherited s) held) c.in_ok-settle.ensures.fills cost (omega (arith, whole))
    (subst (λ t. ManyMayPassLimit settled.space (least eq cmp k (value_along (get source) here t) wanted)) lower
    (c.in_err-place.ensures.range range source k (right_parts ++ rest) within long_lower to_lower come_lower none_lower exact begins_lower))) long come possible)

pub place_inner-returns-in_err-place-2-clause-range : goal.place_inner-returns-in_err-place-2-clause-range
place_inner-returns-in_err-place-2-clause-range g t c =
    let p = err_from_is_err_and c.from_residual-in_err-place-2.result c.from_residual-in_err-place-2.ensures.1 in
    rw (p.1, p.2) (λ range source n inherited rest within long is below valued come empty exact possible.
    let path = g.P.Prefix.path in
    let back = g.P.Prefix.back in
    let s = path c.args.at.now in
    let eq = g.T.PartialEq.eq in
    let cmp = g.T.Ord.cmp in
    let width = g.P.R.Key.bit_width in
    let lower : path c.half-lower.result ≡ s ++ false ∷ [] = c.half-lower.ensures.path ∙ ap (λ d. s ++ d) lower_half in
    let from = λ (t : List Bool). prefix_pairs back (listing_from source t) in
    let to_lower : c.args.walk.now ≡ prefix_pairs back (listing_from source (path c.half-lower.result)) = to_left back source s c.args.walk.now is ∙ ap from (sym lower) in
    let in_lower = ap length lower ∙ length-append s (false ∷ []) in
    let upper : path c.half-upper.result ≡ s ++ true ∷ [] = c.half-upper.ensures.path ∙ ap (λ d. s ++ d) upper_half in
    let past = λ (t : List Bool). prefix_pairs back (listing_past source t) in
    let walked : c.place.new.walk ≡ prefix_pairs back (listing_past source (s ++ false ∷ [])) = c.in_ok-place.ensures.walks source within to_lower ∙ ap past lower in
    let to_upper : c.place.new.walk ≡ prefix_pairs back (listing_from source (path c.half-upper.result)) = to_right back source s c.place.new.walk walked ∙ ap from (sym upper) in
    let in_upper = ap length upper ∙ length-append s (true ∷ []) in
    let short : length s < width = omega (arith, c.requires.short, path_length g.met.P.Prefix.prefix_laws c.args.at.now c.requires.fits) in
    let below_here = option_or (get source s) inherited in
    let before = c.args.made.now in
    let here = c.args.here in
    let wanted = c.take-wanted.result in
    let held = c.args.held in
    by_more (λ k. length s + k ≡ width → AreToCome c.args.choices.now (part_values eq cmp source k s inherited ++ rest) → (first_values eq cmp k (value_along (get source) inherited s) ≡ [] → held ≡ None)
    → ManyMayPassLimit before.space (least eq cmp k (value_along (get source) inherited s) held)) n (omega (arith, short, long))
    (λ k long come possible.
    let first = first_values eq cmp (suc k) (value_along (get source) inherited s) in
    let left_parts = part_values eq cmp source k (s ++ false ∷ []) below_here in
    let right_parts = part_values eq cmp source k (s ++ true ∷ []) below_here in
    let come : AreToCome c.args.choices.now (first ∷ (left_parts ++ (right_parts ++ rest))) =
    subst (AreToCome c.args.choices.now) (ap (λ xss. xss ++ rest) (part_inner eq cmp source s inherited k below) ∙ ap (λ xss. first ∷ xss) (append_assoc left_parts right_parts rest)) come in
    let best : wanted ≡ best_value eq first held = c.take-wanted.ensures.best first (left_parts ++ (right_parts ++ rest)) come exact in
    let whole = inner_cost eq cmp source s inherited held wanted g.met.T.Eq.laws g.met.T.Ord.matches_eq here k valued best possible in
    let settled = c.settle.new.made in
    let beside = c.in_ok-settle.ensures.beside in
    let fresh = c.in_ok-settle.ensures.fresh (empty s (begins-refl s)) in
    let cost = c.in_ok-settle.ensures.cost in
    let left_same : left_parts ≡ part_values eq cmp source k (path c.half-lower.result) here =
    ap (λ t. part_values eq cmp source k t below_here) (sym lower) ∙ ap (part_values eq cmp source k (path c.half-lower.result)) (sym valued) in
    let long_lower : length (path c.half-lower.result) + k ≡ width = omega (arith, in_lower, long) in
    let come_lower : AreToCome c.take-wanted.new.self (part_values eq cmp source k (path c.half-lower.result) here ++ (right_parts ++ rest)) =
    subst (λ xss. AreToCome c.take-wanted.new.self (xss ++ (right_parts ++ rest))) left_same (c.take-wanted.ensures.rest first (left_parts ++ (right_parts ++ rest)) come) in
    let gives = c.in_ok-settle.ensures.value exact (empty s (begins-refl s)) (λ missing. possible (best_none eq first held (sym best ∙ missing))) in
    let first_lower = first_values eq cmp k (value_along (get source) below_here (s ++ false ∷ [])) in
    let first_upper = first_values eq cmp k (value_along (get source) below_here (s ++ true ∷ [])) in
    let lower_same : first_values eq cmp k (value_along (get source) here (path c.half-lower.result)) ≡ first_lower =
    ap (λ t. first_values eq cmp k (value_along (get source) here t)) lower ∙ ap (λ h. first_values eq cmp k (value_along (get source) h (s ++ false ∷ []))) valued in
    let combined = first_combined eq cmp source s inherited k in
    let none_lower = subst (HasNoneBelow settled.entries) (sym lower) (none_left eq cmp source before.entries settled.entries s inherited held wanted empty beside gives fresh cost) in
    let begins_lower = λ (none : first_values eq cmp k (value_along (get source) here (path c.half-lower.result)) ≡ []).
    best ∙ ap (λ xs. best_value eq xs held) (combined ∙ combined_left eq cmp first_lower first_upper (sym lower_same ∙ none)) in
    let cost_lower : ℕ = least eq cmp k (value_along (get source) here (s ++ false ∷ [])) wanted in
    let cost_upper : ℕ = least eq cmp k (value_along (get source) here (s ++ true ∷ [])) wanted in
    let middle = c.place.new.made in
    let right_same : right_parts ≡ part_values eq cmp source k (path c.half-upper.result) here =
    ap (λ t. part_values eq cmp source k t below_here) (sym upper) ∙ ap (part_values eq cmp source k (path c.half-upper.result)) (sym valued) in
    let long_upper : length (path c.half-upper.result) + k ≡ width = omega (arith, in_upper, long) in
    let come_upper : AreToCome c.place.new.choices (part_values eq cmp source k (path c.half-upper.result) here ++ rest) =
    subst (λ xss. AreToCome c.place.new.choices (xss ++ rest)) right_same (c.in_ok-place.ensures.takes source k (right_parts ++ rest) within long_lower to_lower come_lower) in
    let upper_same : first_values eq cmp k (value_along (get source) here (path c.half-upper.result)) ≡ first_upper =
    ap (λ t. first_values eq cmp k (value_along (get source) here t)) upper ∙ ap (λ h. first_values eq cmp k (value_along (get source) h (s ++ true ∷ []))) valued in
    let left : Rebuilds eq cmp k source (s ++ false ∷ []) here wanted settled.entries middle.entries = subst (λ t. Rebuilds eq cmp k source t here wanted settled.entries middle.entries) lower
    (c.in_ok-place.ensures.rebuilds source k (right_parts ++ rest) within long_lower to_lower come_lower none_lower exact begins_lower) in
    let cost_left = left.cost in
    passes_later before middle (stored eq held wanted + cost_lower) cost_upper (least eq cmp (suc k) (value_along (get source) inherited s) held)
    (fills_then before settled middle c.in_ok-settle.ensures.fills c.in_ok-place.ensures.fills) (omega (arith, cost, cost_left)) (omega (arith, whole))
    (subst (λ t. ManyMayPassLimit middle.space (least eq cmp k (value_along (get source) here t) wanted)) upper
    (c.in_err-place-2.ensures.range range source k rest within long_upper to_upper come_upper
    (subst (HasNoneBelow middle.entries) (sym upper) (none_right eq cmp source before.entries settled.entries s inherited held wanted empty beside gives fresh cost middle.entries left.beside)) exact
    (λ none. best ∙ ap (λ xs. best_value eq xs held) (combined ∙ combined_right eq cmp first_lower first_upper (sym upper_same ∙ none)))))) long come possible)
