-- The keys that two maps have, as a map: its listing and its values: for `intersection` of maps.
use Rattle.std.proofs.Common.{◌≡◌, ◌∙◌, Bool, true, false, cond, List, [], ◌∷◌, map, filter, is_some, Option, Some, None, ap, sym, refl, T}
use Rattle.std.specs.List.{cons_option, filter_map}
use Rattle.std.specs.Option.{option_map}
use Rattle.std.specs.Ordering.{is_lt}
use Rattle.std.specs.FinMap.{contains_key, entries_sorted, entries-from_sorted, get, get-entries, get-from_sorted}
use Rattle.std.specs.FinMap.Entries.{below_all, find, is_sorted}
use Rattle.prefix_trie_bits.specs.Model.Order.{listing_cmp, same_string}
use Rattle.prefix_trie_bits.proofs.Model.SortedListings.{entries-retained}
use Rattle.prefix_trie.specs.Terms.{Entries, listing}
use Rattle.prefix_trie_ops.specs.Combining.{both_values, common, restricted_to, with_partner}
use Rattle.prefix_trie_ops.proofs.Sorted.{same_is, t_both, t_first, t_second}

module _ {X Y : Type 0} (n : Entries Y) where
  -- the items that have a partner, each with it
  abbrev pairs : List (List Bool × X) → List (List Bool × (X × Y))
  pairs es = filter_map (with_partner n) es

  below_pairs : (q : List Bool) (es : List (List Bool × X)) → T (below_all listing_cmp q es) → T (below_all listing_cmp q (pairs es))
  below_pairs q [] h = tt
  below_pairs q (e ∷ es) h =
      let rest = below_pairs q es (t_second (is_lt (listing_cmp q e.0)) (below_all listing_cmp q es) h) in
      elim (get n e.0) as (λ o. T (below_all listing_cmp q (cons_option (option_map (λ w. (e.0, (e.1, w))) o) (pairs es)))) [
        | None ↦ rest
        | Some w ↦ t_both (is_lt (listing_cmp q e.0)) (below_all listing_cmp q (pairs es)) (t_first (is_lt (listing_cmp q e.0)) (below_all listing_cmp q es) h) rest
      ]

  sorted_pairs : (es : List (List Bool × X)) → T (is_sorted listing_cmp es) → T (is_sorted listing_cmp (pairs es))
  sorted_pairs [] h = tt
  sorted_pairs (e ∷ es) h =
      let rest = sorted_pairs es (t_second (below_all listing_cmp e.0 es) (is_sorted listing_cmp es) h) in
      elim (get n e.0) as (λ o. T (is_sorted listing_cmp (cons_option (option_map (λ w. (e.0, (e.1, w))) o) (pairs es)))) [
        | None ↦ rest
        | Some w ↦ t_both (below_all listing_cmp e.0 (pairs es)) (is_sorted listing_cmp (pairs es)) (below_pairs e.0 es (t_first (below_all listing_cmp e.0 es) (is_sorted listing_cmp es) h)) rest
      ]

  find_pairs : (q : List Bool) (es : List (List Bool × X)) → find listing_cmp q (pairs es) ≡ both_values (find listing_cmp q es) (get n q)
  find_pairs q [] = refl
  find_pairs q (e ∷ es) =
      elim (same_string q e.0) as (λ b. same_string q e.0 ≡ b → find listing_cmp q (cons_option (option_map (λ w. (e.0, (e.1, w))) (get n e.0)) (pairs es)) ≡ both_values (cond b (Some e.1) (find listing_cmp q es)) (get n q)) [
        | true ↦ λ h. elim (get n e.0) as (λ o. get n e.0 ≡ o → find listing_cmp q (cons_option (option_map (λ w. (e.0, (e.1, w))) o) (pairs es)) ≡ both_values (Some e.1) (get n q)) [
          | None ↦ λ g.
              let none : get n q ≡ None = ap (get n) (same_is q e.0 h) ∙ g in
              find_pairs q es ∙ ap (both_values (find listing_cmp q es)) none ∙ no_pair (find listing_cmp q es) ∙ sym (ap (both_values (Some e.1)) none)
          | Some w ↦ λ g.
              let some : get n q ≡ Some w = ap (get n) (same_is q e.0 h) ∙ g in
              ap (λ b. cond b (Some (e.1, w)) (find listing_cmp q (pairs es))) h ∙ sym (ap (both_values (Some e.1)) some)
        ] refl
        | false ↦ λ h. elim (get n e.0) as (λ o. find listing_cmp q (cons_option (option_map (λ w. (e.0, (e.1, w))) o) (pairs es)) ≡ both_values (find listing_cmp q es) (get n q)) [
          | None ↦ find_pairs q es
          | Some w ↦ ap (λ b. cond b (Some (e.1, w)) (find listing_cmp q (pairs es))) h ∙ find_pairs q es
        ]
      ] refl
    where
      no_pair : (o : Option X) → both_values {T = X} {U = Y} o None ≡ None
      no_pair None = refl
      no_pair (Some v) = refl

  pub common_listing : (m : Entries X) → listing (common m n) ≡ pairs (listing m)
  unfolding common
  common_listing m = entries-from_sorted listing_cmp (pairs (listing m)) (sorted_pairs (listing m) (entries_sorted m))

  pub get_common : (m : Entries X) (q : List Bool) → get (common m n) q ≡ both_values (get m q) (get n q)
  unfolding common
  get_common m q =
      get-from_sorted listing_cmp (pairs (listing m)) q (sorted_pairs (listing m) (entries_sorted m)) ∙ find_pairs q (listing m)
      ∙ ap (λ o. both_values o (get n q)) (sym (get-entries m q))

  -- its keys are those of m that n has
  module _ {P : Type 0} (back : List Bool → P) where
    pair_keys : (es : List (List Bool × X)) → map (λ e. back e.0) (pairs es) ≡ map (λ e. back e.0) (filter (λ e. contains_key n e.0) es)
    pair_keys [] = refl
    pair_keys (e ∷ es) =
        let rest = pair_keys es in
        elim (get n e.0) as (λ o. map (λ d. back d.0) (cons_option (option_map (λ w. (e.0, (e.1, w))) o) (pairs es))
        ≡ map (λ d. back d.0) (cond (is_some o) (e ∷ filter (λ d. contains_key n d.0) es) (filter (λ d. contains_key n d.0) es))) [
          | None ↦ rest
          | Some w ↦ ap (λ ps. back e.0 ∷ ps) rest
        ]

    pub common_keys : (m : Entries X) → map (λ e. back e.0) (listing (common m n)) ≡ map (λ e. back e.0) (listing (restricted_to m n))
    common_keys m = ap (map (λ e. back e.0)) (common_listing m) ∙ pair_keys (listing m) ∙ sym (ap (map (λ e. back e.0)) (entries-retained m (contains_key n)))
