-- The fewest networks by ranks are the fewest by values, and how ranks are given: for `fewest_networks`.
use Rattle.std.proofs.Common.{◌≡◌, ℕ, ◌<◌, Bool, true, false, List, [], ◌∷◌, length, get_or, map, Option, Some, None, IfSome, MatchOption, bytes_eq, refl, sym, ap, subst, ◌∙◌, arith}
use Rattle.std.proofs.lemmas.List.Sums.{position_or_len_is}
use Rattle.std.proofs.lemmas.Map.Keys.{apart_from_distinct}
use Rattle.std.proofs.lemmas.Slice.Eq.{bytes_eq-Decides}
use Rattle.std.specs.List.{position_or_len, IsDistinct}
use Rattle.std.specs.Option.{option_map}
use Rattle.prefix_trie.specs.Terms.{listing, prefix_pairs, Entries, IsLongestMatch}
use Rattle.prefix_trie.specs.Laws.Lookups.{LookupLaws}
use Rattle.prefix_trie_ops.specs.Smallest.{HaveSameAnswers, IsSmallest}
use Rattle.prefix_trie_ops.specs.Values.{value_of}
use Rattle.route_tables.specs.Fewest.{named_pairs, text_at, HasRanks, IsFewest}
use Rattle.route_tables.specs.Tables.{Values}
use Rattle.route_tables.proofs.Renaming.{get_mapped, len_mapped, listing_mapped, mapped, renamed, same_maps, value_mapped}

-- the rank of a text
abbrev pub rank_of : List (List ℕ) → List ℕ → ℕ
rank_of texts text = position_or_len (bytes_eq text) texts

-- a rank is the rank of its text
pub rank_of_text : (texts : List (List ℕ)) → IsDistinct bytes_eq texts → (rank : ℕ) → rank < length texts → rank_of texts (text_at texts rank) ≡ rank
rank_of_text texts distinct rank less =
    position_or_len_is (bytes_eq (get_or texts rank [])) texts rank [] (omega arith)
    (λ k before. not_equal (get_or texts rank []) (get_or texts k []) (apart_from_distinct bytes_eq texts k rank [] distinct before less))
    (λ _. (bytes_eq-Decides (get_or texts rank []) (get_or texts rank [])).1 refl)
  where
    not_equal : (x y : List ℕ) → bytes_eq y x ≡ false → bytes_eq x y ≡ false
    not_equal x y apart = elim (bytes_eq x y) as (λ b. bytes_eq x y ≡ b → b ≡ false) [
      | true ↦ λ same. sym (sym apart ∙ (bytes_eq-Decides y x).1 (sym ((bytes_eq-Decides x y).0 same)))
      | false ↦ λ e. refl
    ] refl

-- a walk over the ranks, with the texts of the ranks
pub named_walk : {P : Type 0} (back : List Bool → P) (texts : List (List ℕ)) (ranks : Entries ℕ) (walk : List (P × ℕ)) → walk ≡ prefix_pairs back (listing ranks)
    → map (λ e. (e.0, text_at texts e.1)) walk ≡ named_pairs back texts ranks
named_walk {P} back texts ranks walk is = ap (map (λ e. (e.0, text_at texts e.1))) is ∙ twice (listing ranks)
  where
    twice : (es : List (List Bool × ℕ)) → map {A = P × ℕ} {B = P × List ℕ} (λ e. (e.0, text_at texts e.1)) (prefix_pairs back es) ≡ map (λ e. (back e.0, text_at texts e.1)) es
    twice [] = refl
    twice (e ∷ es) = ap (λ ps. (back e.0, text_at texts e.1) ∷ ps) (twice es)

named_mapped : {P : Type 0} (back : List Bool → P) (texts : List (List ℕ)) (made : Entries ℕ) → named_pairs back texts made ≡ prefix_pairs back (listing (mapped (text_at texts) made))
named_mapped back texts made = sym (ap (prefix_pairs back) (listing_mapped (text_at texts) made) ∙ twice (listing made))
  where
    twice : (es : List (List Bool × ℕ)) → prefix_pairs back (renamed (text_at texts) es) ≡ map (λ e. (back e.0, text_at texts e.1)) es
    twice [] = refl
    twice (e ∷ es) = ap (λ ps. (back e.0, text_at texts e.1) ∷ ps) (twice es)

module _ {P : Type 0} (laws : LookupLaws P ℕ) (width : ℕ) (texts : List (List ℕ)) (ranks made : Entries ℕ) (m : Values) (has : HasRanks texts ranks m) where
  -- the ranks, named, are the values
  named_is : mapped (text_at texts) ranks ≡ m
  named_is = same_maps (mapped (text_at texts) ranks) m (λ s. get_mapped (text_at texts) ranks s ∙ has.named s)

  pub same_answers : HaveSameAnswers width made ranks → HaveSameAnswers width (mapped (text_at texts) made) m
  same_answers same q long =
      value_mapped (text_at texts) made q ∙ ap (option_map (text_at texts)) (same q long) ∙ sym (value_mapped (text_at texts) ranks q) ∙ ap (λ n. value_of n q) named_is

  -- each value of a question is a rank
  answer_within : (q : List Bool) → IfSome (value_of ranks q) (λ rank. rank < length texts)
  answer_within q = of_value _ (value_of ranks q) (laws.value ranks q)
    where
      of_value : (N : Type 0) (o : Option ℕ) → MatchOption o N (λ v. (s : List Bool) × IsLongestMatch ranks q (s, v)) → IfSome o (λ rank. rank < length texts)
      of_value N None found = tt
      of_value N (Some rank) found = subst (λ o. IfSome o (λ r. r < length texts)) found.1.matches.stored (has.within found.0)

  -- its text has this rank
  ranked_back : (o : Option ℕ) → IfSome o (λ rank. rank < length texts) → option_map (rank_of texts) (option_map (text_at texts) o) ≡ o
  ranked_back None within = refl
  ranked_back (Some rank) within = ap Some (rank_of_text texts has.distinct rank within)

  -- a table with the same values gives, by ranks, a map with the same ranks
  pub smallest : HaveSameAnswers width made ranks → IsSmallest width made → IsSmallest width (mapped (text_at texts) made)
  smallest same least n same_n =
      let by_ranks : HaveSameAnswers width (mapped (rank_of texts) n) made = λ q long.
      value_mapped (rank_of texts) n q ∙ ap (option_map (rank_of texts)) (same_n q long ∙ value_mapped (text_at texts) made q)
      ∙ ranked_back (value_of made q) (subst (λ o. IfSome o (λ rank. rank < length texts)) (sym (same q long)) (answer_within q)) in
      let fewer = least (mapped (rank_of texts) n) by_ranks in
      omega (arith, fewer, len_mapped (text_at texts) made, len_mapped (rank_of texts) n)

  -- what follows of the networks, each with the text of its rank
  pub fewest_by_ranks : {Q : Type 0} (back : List Bool → Q) (networks : List (Q × List ℕ)) → networks ≡ named_pairs back texts made → HaveSameAnswers width made ranks → IsSmallest width made
      → IsFewest width back m networks
  fewest_by_ranks back networks is same least = record {
    smallest = mapped (text_at texts) made;
    listed = is ∙ named_mapped back texts made;
    same = same_answers same;
    fewest = smallest same least;
  }
