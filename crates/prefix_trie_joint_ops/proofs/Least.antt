-- A joint map or set is a smallest one if both families are.
use Rattle.std.proofs.Common.{◌≡◌, ◌∙◌, ◌++◌, Bool, true, false, List, [], ◌∷◌, is_some, refl, sym, ap, arith}
use Rattle.std.specs.FinMap.{contains_key}
use Rattle.prefix_trie.specs.Terms.{Entries}
use Rattle.prefix_trie_ops.specs.Covered.{is_below_another}
use Rattle.prefix_trie_ops.specs.Smallest as family
use Rattle.prefix_trie_ops.specs.SmallestSets as sets
use Rattle.prefix_trie_ops.specs.Values.{are_equal, is_redundant, value_above}
use Rattle.prefix_trie_joint.specs.Joined.{joined}
use Rattle.prefix_trie_joint.proofs.Joined.{get_ipv4, get_ipv6, get_neither}
use Rattle.prefix_trie_joint.proofs.Matches.{covered_ipv4, covered_ipv6, longest_value}
use Rattle.prefix_trie_joint.proofs.Walks.{len_joined}
use Rattle.prefix_trie_joint_ops.specs.Smallest.{CoverSameAddresses, HasNoSiblings, HaveSameAnswers, IsSmallest, IsSmallestCover}
use Rattle.prefix_trie_joint_ops.proofs.Reduced.{below_another_of, redundant_of}

module _ {T : Type 0} where
  module _ (a b c d : Entries T) where
    pub same_answers : family.HaveSameAnswers 32 a c → family.HaveSameAnswers 128 b d → HaveSameAnswers (joined a b) (joined c d)
    same_answers f g = each
      where
        each : HaveSameAnswers (joined a b) (joined c d)
        each [] bad = absurd bad
        each (false ∷ q) long = longest_value false a b q ∙ f q long ∙ sym (longest_value false c d q)
        each (true ∷ q) long = longest_value true a b q ∙ g q long ∙ sym (longest_value true c d q)

    pub same_addresses : sets.CoverSameAddresses 32 a c → sets.CoverSameAddresses 128 b d → CoverSameAddresses (joined a b) (joined c d)
    same_addresses f g = each
      where
        each : CoverSameAddresses (joined a b) (joined c d)
        each [] bad = absurd bad
        each (false ∷ q) long = covered_ipv4 a b q ∙ f q long ∙ sym (covered_ipv4 c d q)
        each (true ∷ q) long = covered_ipv6 a b q ∙ g q long ∙ sym (covered_ipv6 c d q)

  module _ (a b : Entries T) where
    pub smallest : family.IsSmallest 32 a → family.IsSmallest 128 b → IsSmallest (joined a b)
    smallest f g c d same =
        let ipv4 = f c (λ q long. sym (longest_value false c d q) ∙ same (false ∷ q) long ∙ longest_value false a b q) in
        let ipv6 = g d (λ q long. sym (longest_value true c d q) ∙ same (true ∷ q) long ∙ longest_value true a b q) in
        let count = len_joined a b in
        let other = len_joined c d in
        omega (arith, ipv4, ipv6, count, other)

    pub smallest_cover : sets.IsSmallestCover 32 a → sets.IsSmallestCover 128 b → IsSmallestCover (joined a b)
    smallest_cover f g c d same =
        let ipv4 = f c (λ q long. sym (covered_ipv4 c d q) ∙ same (false ∷ q) long ∙ covered_ipv4 a b q) in
        let ipv6 = g d (λ q long. sym (covered_ipv6 c d q) ∙ same (true ∷ q) long ∙ covered_ipv6 a b q) in
        let count = len_joined a b in
        let other = len_joined c d in
        omega (arith, ipv4, ipv6, count, other)

    pub none_redundant : (eq : T → T → Bool) → ((s : List Bool) → is_redundant eq a s ≡ false) → ((s : List Bool) → is_redundant eq b s ≡ false) → (s : List Bool) → is_redundant eq (joined a b) s ≡ false
    none_redundant eq f g [] = ap (are_equal eq (value_above (joined a b) [])) (get_neither a b)
    none_redundant eq f g (false ∷ s) = redundant_of eq false a b s ∙ f s
    none_redundant eq f g (true ∷ s) = redundant_of eq true a b s ∙ g s

    pub none_covered : ((s : List Bool) → contains_key a s ≡ true → is_below_another a s ≡ false) → ((s : List Bool) → contains_key b s ≡ true → is_below_another b s ≡ false)
        → (s : List Bool) → contains_key (joined a b) s ≡ true → is_below_another (joined a b) s ≡ false
    none_covered f g [] here = refl
    none_covered f g (false ∷ s) here = below_another_of false a b s ∙ f s (sym (ap is_some (get_ipv4 a b s)) ∙ here)
    none_covered f g (true ∷ s) here = below_another_of true a b s ∙ g s (sym (ap is_some (get_ipv6 a b s)) ∙ here)

    pub no_siblings : sets.HasNoSiblings a → sets.HasNoSiblings b → HasNoSiblings (joined a b)
    no_siblings f g = each
      where
        each : HasNoSiblings (joined a b)
        each false s here = ap is_some (get_ipv4 a b (s ++ true ∷ [])) ∙ f s (sym (ap is_some (get_ipv4 a b (s ++ false ∷ []))) ∙ here)
        each true s here = ap is_some (get_ipv6 a b (s ++ true ∷ [])) ∙ g s (sym (ap is_some (get_ipv6 a b (s ++ false ∷ []))) ∙ here)
