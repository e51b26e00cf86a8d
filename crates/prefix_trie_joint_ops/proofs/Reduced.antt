-- A joint map is reduced family by family: which entries are redundant, and which keys a shorter one covers.
use Rattle.std.proofs.Common.{◌≡◌, ◌∙◌, ◌-◌, ◌++◌, eqb, eqb-true, ℕ, suc, Bool, true, false, not, cond, List, [], ◌∷◌, filter, length, take, None, refl, sym, ap, ap₂, arith}
use Rattle.std.specs.Option.{is_some, option_map}
use Rattle.prefix_trie_bits.specs.Begins.{begins-longer}
use Rattle.prefix_trie.specs.Terms.{begins, Entries, last_item, listing}
use Rattle.prefix_trie_ops.specs.Covered.{is_below_another, is_uppermost, without_covered}
use Rattle.prefix_trie_ops.specs.Values.{are_equal, is_redundant, stays, value_above, value_of, without_redundant}
use Rattle.prefix_trie_ops.proofs.RedundantEntries.{gone_entries}
use Rattle.prefix_trie_ops.proofs.SmallestSets.{below_is_above}
use Rattle.prefix_trie_ops.proofs.Uppermost.{uppermost_entries}
use Rattle.prefix_trie_joint.specs.Joined.{joined, under}
use Rattle.prefix_trie_joint.proofs.Changes.{kept_by}
use Rattle.prefix_trie_joint.proofs.Joined.{get_ipv4, get_ipv6, listing_joined}
use Rattle.prefix_trie_joint.proofs.Matches.{filter_append, filter_none, longest_value}

none_begins : (b : Bool) (s : List Bool) → begins (b ∷ s) [] ≡ false
none_begins b s = begins-longer (b ∷ s) [] (omega arith)

module _ {T : Type 0} where
  -- what is above a string is the longest match of its first bits
  above_at : (m : Entries T) (b : Bool) (s : List Bool) → value_above m (b ∷ s) ≡ value_of m (take (length s) (b ∷ s))
  above_at m b s =
      let less : length (b ∷ s) - 1 ≡ length s = omega arith in
      ap (λ c. cond c None (value_of m (take (length (b ∷ s) - 1) (b ∷ s)))) (some (length (b ∷ s)) (length s) (omega arith)) ∙ ap (λ n. value_of m (take n (b ∷ s))) less
    where
      some : (n k : ℕ) → n ≡ suc k → eqb n 0 ≡ false
      some n k e = elim (eqb n 0) as (λ c. eqb n 0 ≡ c → c ≡ false) [ true ↦ λ z. absurd (omega (arith, eqb-true n 0 z, e)) | false ↦ λ _. refl ] refl

  -- no network has the empty key, so nothing is above the bit of a family
  value_of_none : (a b : Entries T) → value_of (joined a b) [] ≡ None
  value_of_none a b = ap (λ es. option_map (λ e. e.1) (last_item es)) (ap (filter (λ e. begins e.0 [])) (listing_joined a b)
      ∙ filter_append (λ e. begins e.0 []) (under false (listing a)) (under true (listing b))
      ∙ ap₂ (λ xs ys. xs ++ ys) (filter_none false (λ s. begins s []) (none_begins false) (listing a)) (filter_none true (λ s. begins s []) (none_begins true) (listing b)))

  above_of : (f : Bool) (a b : Entries T) (s : List Bool) → value_above (joined a b) (f ∷ s) ≡ value_above (cond f b a) s
  above_of f a b [] = above_at (joined a b) f [] ∙ value_of_none a b
  above_of f a b (x ∷ s) = above_at (joined a b) f (x ∷ s) ∙ longest_value f a b (take (length s) (x ∷ s)) ∙ sym (above_at (cond f b a) x s)

  module _ (eq : T → T → Bool) where
    pub redundant_of : (f : Bool) (a b : Entries T) (s : List Bool) → is_redundant eq (joined a b) (f ∷ s) ≡ is_redundant eq (cond f b a) s
    redundant_of false a b s = ap₂ (are_equal eq) (above_of false a b s) (get_ipv4 a b s)
    redundant_of true a b s = ap₂ (are_equal eq) (above_of true a b s) (get_ipv6 a b s)

    -- the joint map without its redundant entries
    pub reduced : (a b c d : Entries T) → listing c ≡ filter (stays eq a) (listing a) → listing d ≡ filter (stays eq b) (listing b) → joined c d ≡ without_redundant eq (joined a b)
    reduced a b c d e f =
        ap₂ joined (gone_entries eq a c e) (gone_entries eq b d f)
        ∙ kept_by a b _ _ _ (λ s. ap not (redundant_of false a b s)) (λ s. ap not (redundant_of true a b s))

  pub below_another_of : (f : Bool) (a b : Entries T) (s : List Bool) → is_below_another (joined a b) (f ∷ s) ≡ is_below_another (cond f b a) s
  below_another_of f a b s = below_is_above (joined a b) (f ∷ s) ∙ ap is_some (above_of f a b s) ∙ sym (below_is_above (cond f b a) s)

  -- the joint set without its covered keys
  pub uppermost : (a b c d : Entries T) → listing c ≡ filter (is_uppermost a) (listing a) → listing d ≡ filter (is_uppermost b) (listing b) → joined c d ≡ without_covered (joined a b)
  uppermost a b c d e f =
      ap₂ joined (uppermost_entries a c e) (uppermost_entries b d f)
      ∙ kept_by a b _ _ _ (λ s. ap not (below_another_of false a b s)) (λ s. ap not (below_another_of true a b s))
