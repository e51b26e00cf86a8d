-- The recursion of the first two passes: a part without entries under it begins with its own value, and the sets of
-- another part are its combined one and those of its two halves.
use Rattle.std.proofs.Common.{rules, ◌≡◌, ◌∙◌, ◌+◌, ◌<◌, ◌++◌, Bool, true, false, List, [], ◌∷◌, length, is_some, ap, sym, subst, arith, length-append}
use Rattle.std.specs.List.{Contains, slice_set}
use Rattle.std.specs.Option.{option_or}
use Rattle.std.specs.FinMap.{get}
use Rattle.prefix_trie_bits.specs.Keys.{path_length}
use Rattle.prefix_trie.specs.Terms.{listing, listing_after, listing_from, prefix_pairs}
use Rattle.prefix_trie_ops.specs.declared.map.optimal.sets.Set.TheVariants.{Missing}
use Rattle.prefix_trie_ops.specs.Choosing.{Chooses}
use Rattle.prefix_trie_ops.specs.Optimal.{is_first_below, listing_past, value_along}
use Rattle.prefix_trie_ops.specs.Parts.{as_list, first_values, combined_values}
use Rattle.prefix_trie_ops.specs.ValueSets.{Appends, Holds}
use Rattle.prefix_trie_ops.proofs.Optimal.Choosing.{by_more, chooses_both, chooses_leaf}
use Rattle.prefix_trie_ops.proofs.Optimal.Fronts.{below_is, left_after, no_key_below, past_leaf, to_end, to_left, to_right, value_here}
use Rattle.prefix_trie_ops.proofs.Optimal.Positions.{lower_half, upper_half}
use Rattle.prefix_trie_ops.proofs.Smallest.InOrder.{first_sorted}
use Rattle.prefix_trie_ops.proofs.Smallest.StoredSets.{holds_kept}
use Rattle.prefix_trie_ops.proofs.map.optimal.choosing.+choose.Goals as goal

pub choose-returns-then-not-is_inner-clause-walks : goal.choose-returns-then-not-is_inner-clause-walks
choose-returns-then-not-is_inner-clause-walks g t c source within is =
    let path = g.P.Prefix.path in
    let back = g.P.Prefix.back in
    let s = path c.args.at.now in
    let known : (e : List Bool × g.row.T.Denot) → Contains (listing source) e → path (back e.0) ≡ e.0 = λ e at. c.listed_laws.ensures.key_is source within e.0 (ap is_some ((c.listing_laws.ensures.has_each source e.0 e.1).1 at)) in
    let after : c.take_at-own.new.walk ≡ prefix_pairs back (listing_after source s) = c.take_at-own.ensures.items ∙ left_after path back source known s c.args.walk.now is in
    let off : is_first_below path s c.take_at-own.new.walk ≡ false = search rules in
    past_leaf path back source known s c.take_at-own.new.walk after off

pub choose-returns-then-not-is_inner-clause-chooses : goal.choose-returns-then-not-is_inner-clause-chooses
choose-returns-then-not-is_inner-clause-chooses g t c source n within long is exact =
    let path = g.P.Prefix.path in
    let back = g.P.Prefix.back in
    let s = path c.args.at.now in
    let known : (e : List Bool × g.row.T.Denot) → Contains (listing source) e → path (back e.0) ≡ e.0 = λ e at. c.listed_laws.ensures.key_is source within e.0 (ap is_some ((c.listing_laws.ensures.has_each source e.0 e.1).1 at)) in
    let after : c.take_at-own.new.walk ≡ prefix_pairs back (listing_after source s) = c.take_at-own.ensures.items ∙ left_after path back source known s c.args.walk.now is in
    let off : is_first_below path s c.take_at-own.new.walk ≡ false = search rules in
    let here : c.or-here.result ≡ option_or (get source s) c.args.inherited =
    c.or-here.ensures ∙ ap (λ o. option_or o c.args.inherited) (c.take_at-own.ensures.value ∙ value_here path back source known s c.args.walk.now is) in
    chooses_leaf g.T.PartialEq.eq g.T.Ord.cmp source s c.args.inherited g.met.T.Eq.laws g.met.T.Ord.matches_eq (no_key_below path back source known s c.take_at-own.new.walk after off)
    n c.args.sets.now.items c.args.values.now.items c.of.result (sym (below_is path back source known s c.take_at-own.new.walk after) ∙ off)
    (subst (λ o. Holds c.args.values.now.items c.of.result (as_list o)) here (c.of.ensures c.args.values.now.items))

pub choose-returns-clause-walks : goal.choose-returns-clause-walks
choose-returns-clause-walks g t c source within is =
    let path = g.P.Prefix.path in
    let back = g.P.Prefix.back in
    let s = path c.args.at.now in
    let known : (e : List Bool × g.row.T.Denot) → Contains (listing source) e → path (back e.0) ≡ e.0 = λ e at. c.listed_laws.ensures.key_is source within e.0 (ap is_some ((c.listing_laws.ensures.has_each source e.0 e.1).1 at)) in
    let after : c.take_at-own.new.walk ≡ prefix_pairs back (listing_after source s) = c.take_at-own.ensures.items ∙ left_after path back source known s c.args.walk.now is in
    c.in_ok-set.ensures.walks source within after

pub choose-returns-clause-chooses : goal.choose-returns-clause-chooses
choose-returns-clause-chooses g t c source n within long is exact =
    let path = g.P.Prefix.path in
    let back = g.P.Prefix.back in
    let s = path c.args.at.now in
    let known : (e : List Bool × g.row.T.Denot) → Contains (listing source) e → path (back e.0) ≡ e.0 = λ e at. c.listed_laws.ensures.key_is source within e.0 (ap is_some ((c.listing_laws.ensures.has_each source e.0 e.1).1 at)) in
    let after : c.take_at-own.new.walk ≡ prefix_pairs back (listing_after source s) = c.take_at-own.ensures.items ∙ left_after path back source known s c.args.walk.now is in
    let below : is_first_below path s c.take_at-own.new.walk ≡ true = search rules in
    c.in_ok-set.ensures.chooses source n c.args.inherited within long after (sym (below_is path back source known s c.take_at-own.new.walk after) ∙ below)
    (c.or-here.ensures ∙ ap (λ o. option_or o c.args.inherited) (c.take_at-own.ensures.value ∙ value_here path back source known s c.args.walk.now is)) exact

pub choose_inner-returns-clause-walks : goal.choose_inner-returns-clause-walks
choose_inner-returns-clause-walks g t c source within is =
    let path = g.P.Prefix.path in
    let back = g.P.Prefix.back in
    let s = path c.args.at.now in
    let lower : path c.half-lower.result ≡ s ++ false ∷ [] = c.half-lower.ensures.path ∙ ap (λ d. s ++ d) lower_half in
    let upper : path c.half-upper.result ≡ s ++ true ∷ [] = c.half-upper.ensures.path ∙ ap (λ d. s ++ d) upper_half in
    let from = λ (t : List Bool). prefix_pairs back (listing_from source t) in
    let past = λ (t : List Bool). prefix_pairs back (listing_past source t) in
    let to_lower : c.args.walk.now ≡ prefix_pairs back (listing_from source (path c.half-lower.result)) = to_left back source s c.args.walk.now is ∙ ap from (sym lower) in
    let walked : c.choose.new.walk ≡ prefix_pairs back (listing_past source (s ++ false ∷ [])) = c.in_ok-left.ensures.walks source within to_lower ∙ ap past lower in
    let to_upper : c.choose.new.walk ≡ prefix_pairs back (listing_from source (path c.half-upper.result)) = to_right back source s c.choose.new.walk walked ∙ ap from (sym upper) in
    to_end back source s c.choose-2.new.walk (c.in_ok-right.ensures.walks source within to_upper ∙ ap past upper)

pub choose_inner-returns-clause-chooses : goal.choose_inner-returns-clause-chooses
choose_inner-returns-clause-chooses g t c source n inherited within long is below valued exact =
    let path = g.P.Prefix.path in
    let back = g.P.Prefix.back in
    let s = path c.args.at.now in
    let lower : path c.half-lower.result ≡ s ++ false ∷ [] = c.half-lower.ensures.path ∙ ap (λ d. s ++ d) lower_half in
    let upper : path c.half-upper.result ≡ s ++ true ∷ [] = c.half-upper.ensures.path ∙ ap (λ d. s ++ d) upper_half in
    let from = λ (t : List Bool). prefix_pairs back (listing_from source t) in
    let past = λ (t : List Bool). prefix_pairs back (listing_past source t) in
    let to_lower : c.args.walk.now ≡ prefix_pairs back (listing_from source (path c.half-lower.result)) = to_left back source s c.args.walk.now is ∙ ap from (sym lower) in
    let walked : c.choose.new.walk ≡ prefix_pairs back (listing_past source (s ++ false ∷ [])) = c.in_ok-left.ensures.walks source within to_lower ∙ ap past lower in
    let to_upper : c.choose.new.walk ≡ prefix_pairs back (listing_from source (path c.half-upper.result)) = to_right back source s c.choose.new.walk walked ∙ ap from (sym upper) in
    let eq = g.T.PartialEq.eq in
    let cmp = g.T.Ord.cmp in
    let width = g.P.R.Key.bit_width in
    let short : length s < width = omega (arith, c.requires.short, path_length g.met.P.Prefix.prefix_laws c.args.at.now c.requires.fits) in
    let below_here = option_or (get source s) inherited in
    let in_lower = ap length lower ∙ length-append s (false ∷ []) in
    let in_upper = ap length upper ∙ length-append s (true ∷ []) in
    let sets = c.args.sets.now.items in
    let pushed = c.push.new.self.items in
    let between = c.choose.new.sets.items in
    let both = c.choose-2.new.sets.items in
    let v0 = c.args.values.now.items in
    let v1 = c.choose.new.values.items in
    let v2 = c.choose-2.new.values.items in
    let v3 = c.best_of.new.values.items in
    let left = c.in_ok-left.left in
    let right = c.in_ok-right.right in
    let set = c.in_ok-set.set in
    let start : c.len-place.result ≡ length sets = c.len-place.ensures ∙ c.args.sets.now.ok.0 in
    by_more (λ k. length s + k ≡ width → Chooses eq cmp source k s inherited sets c.put.new.sets.items v0 v3 set) n (omega (arith, short, long))
    (λ k long.
    let long_lower : length (path c.half-lower.result) + k ≡ width = omega (arith, in_lower, long) in
    let long_upper : length (path c.half-upper.result) + k ≡ width = omega (arith, in_upper, long) in
    let l : Chooses eq cmp source k (s ++ false ∷ []) below_here pushed between v0 v1 left =
    subst (λ t. Chooses eq cmp source k t below_here pushed between v0 v1 left) lower
    (subst (λ h. Chooses eq cmp source k (path c.half-lower.result) h pushed between v0 v1 left) valued (c.in_ok-left.ensures.chooses source k within long_lower to_lower exact)) in
    let r : Chooses eq cmp source k (s ++ true ∷ []) below_here between both v1 v2 right =
    subst (λ t. Chooses eq cmp source k t below_here between both v1 v2 right) upper
    (subst (λ h. Chooses eq cmp source k (path c.half-upper.result) h between both v1 v2 right) valued (c.in_ok-right.ensures.chooses source k within long_upper to_upper exact)) in
    let first_lower = first_values eq cmp k (value_along (get source) below_here (s ++ false ∷ [])) in
    let first_upper = first_values eq cmp k (value_along (get source) below_here (s ++ true ∷ [])) in
    let combined : Appends v2 v3 set (combined_values eq cmp first_lower first_upper) =
    c.in_ok-set.ensures first_lower first_upper (holds_kept v1 r.appends.added v2 left first_lower r.appends.grows l.appends.holds) r.appends.holds
    (first_sorted cmp g.met.T.Ord.total eq k (value_along (get source) below_here (s ++ false ∷ []))) (first_sorted cmp g.met.T.Ord.total eq k (value_along (get source) below_here (s ++ true ∷ []))) exact in
    let long_both = ap length r.listed ∙ length-append between r.more in
    let long_between = ap length l.listed ∙ length-append pushed l.more in
    let long_pushed = ap length c.in_ok-push.ensures.items ∙ length-append sets (Missing ∷ []) in
    let within_both : c.len-place.result < length both = omega (arith, start, long_both, long_between, long_pushed) in
    chooses_both eq cmp source s inherited k sets pushed between both c.put.new.sets.items v0 v1 v2 v3 left right set below c.in_ok-push.ensures.items l r combined
    (c.put.ensures within_both ∙ ap (λ i. slice_set both i set) start)) long
