-- What is made of two joint maps is made family by family.
use Rattle.std.proofs.Common.{◌≡◌, ◌∙◌, ◌+◌, ◌<◌, ◌≤◌, ◌^◌, ℕ, Bool, true, false, not, List, [], ◌∷◌, length, map, sym, ap, ap₂, arith}
use Rattle.std.specs.Option.{is_some}
use Rattle.std.specs.FinMap.{len, retain_keys}
use Rattle.prefix_trie.specs.Terms.{Entries, listing, prefix_pairs}
use Rattle.prefix_trie_bits.specs.Networks.{network_back}
use Rattle.prefix_trie_ops.specs.Combining.{both_values, common, minus, not_covered, restricted_to}
use Rattle.prefix_trie_ops.specs.Merging.{sides, union_of}
use Rattle.prefix_trie_ops.specs.declared.map.sides.Side.{Side}
use Rattle.prefix_trie_ops.proofs.Bounds.{common_fewer, items_at_most, retained_fewer, union_fewer}
use Rattle.prefix_trie_ops.proofs.Merging.{get_union}
use Rattle.prefix_trie_ops.proofs.Pairs.{get_common}
use Rattle.prefix_trie_joint.specs.declared.prefix.IpPrefix.{IpPrefix}
use Rattle.prefix_trie_joint.specs.Joined.{both, both_networks, joined}
use Rattle.prefix_trie_joint.specs.Networks.{ip_back}
use Rattle.prefix_trie_joint.proofs.Changes.{kept_by}
use Rattle.prefix_trie_joint.proofs.Joined.{get_ipv4, get_ipv6, get_neither, same}
use Rattle.prefix_trie_joint.proofs.Matches.{covered_ipv4, covered_ipv6}
use Rattle.prefix_trie_joint.proofs.Walks.{len_joined, length_networks, length_pairs, networks_joined, walk_joined}

module _ {T U : Type 0} (a b : Entries T) (c d : Entries U) where
  union_joined : joined (union_of a c) (union_of b d) ≡ union_of (joined a b) (joined c d)
  union_joined = same _ _
      (get_neither _ _ ∙ sym (get_union (joined a b) (joined c d) [] ∙ ap₂ sides (get_neither a b) (get_neither c d)))
      (λ s. get_ipv4 _ _ s ∙ get_union a c s ∙ sym (get_union (joined a b) (joined c d) (false ∷ s) ∙ ap₂ sides (get_ipv4 a b s) (get_ipv4 c d s)))
      (λ s. get_ipv6 _ _ s ∙ get_union b d s ∙ sym (get_union (joined a b) (joined c d) (true ∷ s) ∙ ap₂ sides (get_ipv6 a b s) (get_ipv6 c d s)))

  common_joined : joined (common a c) (common b d) ≡ common (joined a b) (joined c d)
  common_joined = same _ _
      (get_neither _ _ ∙ sym (get_common (joined c d) (joined a b) [] ∙ ap₂ both_values (get_neither a b) (get_neither c d)))
      (λ s. get_ipv4 _ _ s ∙ get_common c a s ∙ sym (get_common (joined c d) (joined a b) (false ∷ s) ∙ ap₂ both_values (get_ipv4 a b s) (get_ipv4 c d s)))
      (λ s. get_ipv6 _ _ s ∙ get_common d b s ∙ sym (get_common (joined c d) (joined a b) (true ∷ s) ∙ ap₂ both_values (get_ipv6 a b s) (get_ipv6 c d s)))

  minus_joined : joined (minus a c) (minus b d) ≡ minus (joined a b) (joined c d)
  minus_joined = kept_by a b _ _ _ (λ s. ap (λ o. not (is_some o)) (get_ipv4 c d s)) (λ s. ap (λ o. not (is_some o)) (get_ipv6 c d s))

  not_covered_joined : joined (not_covered a c) (not_covered b d) ≡ not_covered (joined a b) (joined c d)
  not_covered_joined = kept_by a b _ _ _ (λ s. ap not (covered_ipv4 c d s)) (λ s. ap not (covered_ipv6 c d s))

  restricted_joined : joined (restricted_to a c) (restricted_to b d) ≡ restricted_to (joined a b) (joined c d)
  restricted_joined = kept_by a b _ _ _ (λ s. ap is_some (get_ipv4 c d s)) (λ s. ap is_some (get_ipv6 c d s))

  -- ---- the walks over them

  pub union_walk : (xs ys : List ((ℕ × ℕ) × Side T U)) → xs ≡ prefix_pairs (network_back 32) (listing (union_of a c)) → ys ≡ prefix_pairs (network_back 128) (listing (union_of b d))
      → both xs ys ≡ prefix_pairs ip_back (listing (union_of (joined a b) (joined c d)))
  union_walk xs ys e f = walk_joined (union_of a c) (union_of b d) xs ys e f ∙ ap (λ m. prefix_pairs ip_back (listing m)) union_joined

  pub union_walk_at_most : (xs ys : List ((ℕ × ℕ) × Side T U)) → xs ≡ prefix_pairs (network_back 32) (listing (union_of a c)) → ys ≡ prefix_pairs (network_back 128) (listing (union_of b d))
      → length (both xs ys) ≤ len (joined a b) + len (joined c d)
  union_walk_at_most xs ys e f =
      items_at_most (len (joined a b) + len (joined c d)) (both xs ys) (λ e. (ip_back e.0, e.1)) (listing (union_of (joined a b) (joined c d))) (union_walk xs ys e f) (union_fewer (joined a b) (joined c d))

  pub common_walk : (xs ys : List ((ℕ × ℕ) × (T × U))) → xs ≡ prefix_pairs (network_back 32) (listing (common a c)) → ys ≡ prefix_pairs (network_back 128) (listing (common b d))
      → both xs ys ≡ prefix_pairs ip_back (listing (common (joined a b) (joined c d)))
  common_walk xs ys e f = walk_joined (common a c) (common b d) xs ys e f ∙ ap (λ m. prefix_pairs ip_back (listing m)) common_joined

  pub common_walk_few : (xs ys : List ((ℕ × ℕ) × (T × U))) → xs ≡ prefix_pairs (network_back 32) (listing (common a c)) → ys ≡ prefix_pairs (network_back 128) (listing (common b d))
      → len (joined a b) < 2 ^ 33 → length (both xs ys) < 2 ^ 64
  common_walk_few xs ys e f few =
      omega (arith, items_at_most (len (joined a b)) (both xs ys) (λ e. (ip_back e.0, e.1)) (listing (common (joined a b) (joined c d))) (common_walk xs ys e f) (common_fewer (joined a b) (joined c d)), few)

  pub minus_walk : (xs ys : List ((ℕ × ℕ) × T)) → xs ≡ prefix_pairs (network_back 32) (listing (minus a c)) → ys ≡ prefix_pairs (network_back 128) (listing (minus b d))
      → both xs ys ≡ prefix_pairs ip_back (listing (minus (joined a b) (joined c d)))
  minus_walk xs ys e f = walk_joined (minus a c) (minus b d) xs ys e f ∙ ap (λ m. prefix_pairs ip_back (listing m)) minus_joined

  pub uncovered_walk : (xs ys : List ((ℕ × ℕ) × T)) → xs ≡ prefix_pairs (network_back 32) (listing (not_covered a c)) → ys ≡ prefix_pairs (network_back 128) (listing (not_covered b d))
      → both xs ys ≡ prefix_pairs ip_back (listing (not_covered (joined a b) (joined c d)))
  uncovered_walk xs ys e f = walk_joined (not_covered a c) (not_covered b d) xs ys e f ∙ ap (λ m. prefix_pairs ip_back (listing m)) not_covered_joined

  -- ---- the walks over their networks

  pub union_networks : (xs ys : List (ℕ × ℕ)) → xs ≡ map (λ e. network_back 32 e.0) (listing (union_of a c)) → ys ≡ map (λ e. network_back 128 e.0) (listing (union_of b d))
      → both_networks xs ys ≡ map (λ e. ip_back e.0) (listing (union_of (joined a b) (joined c d)))
  union_networks xs ys e f = networks_joined (union_of a c) (union_of b d) xs ys e f ∙ ap (λ m. map (λ e. ip_back e.0) (listing m)) union_joined

  pub restricted_networks : (xs ys : List (ℕ × ℕ)) → xs ≡ map (λ e. network_back 32 e.0) (listing (restricted_to a c)) → ys ≡ map (λ e. network_back 128 e.0) (listing (restricted_to b d))
      → both_networks xs ys ≡ map (λ e. ip_back e.0) (listing (restricted_to (joined a b) (joined c d)))
  restricted_networks xs ys e f = networks_joined (restricted_to a c) (restricted_to b d) xs ys e f ∙ ap (λ m. map (λ e. ip_back e.0) (listing m)) restricted_joined

  pub minus_networks : (xs ys : List (ℕ × ℕ)) → xs ≡ map (λ e. network_back 32 e.0) (listing (minus a c)) → ys ≡ map (λ e. network_back 128 e.0) (listing (minus b d))
      → both_networks xs ys ≡ map (λ e. ip_back e.0) (listing (minus (joined a b) (joined c d)))
  minus_networks xs ys e f = networks_joined (minus a c) (minus b d) xs ys e f ∙ ap (λ m. map (λ e. ip_back e.0) (listing m)) minus_joined

  pub uncovered_networks : (xs ys : List (ℕ × ℕ)) → xs ≡ map (λ e. network_back 32 e.0) (listing (not_covered a c)) → ys ≡ map (λ e. network_back 128 e.0) (listing (not_covered b d))
      → both_networks xs ys ≡ map (λ e. ip_back e.0) (listing (not_covered (joined a b) (joined c d)))
  uncovered_networks xs ys e f = networks_joined (not_covered a c) (not_covered b d) xs ys e f ∙ ap (λ m. map (λ e. ip_back e.0) (listing m)) not_covered_joined

-- a walk over some entries of a joint map, or some networks of a joint set, has no more items than it
module _ {T : Type 0} (a b : Entries T) (p q : List Bool → Bool) where
  pub few_items : (xs ys : List ((ℕ × ℕ) × T)) → xs ≡ prefix_pairs (network_back 32) (listing (retain_keys a p)) → ys ≡ prefix_pairs (network_back 128) (listing (retain_keys b q))
      → len (joined a b) < 2 ^ 33 → length (both xs ys) < 2 ^ 64
  few_items xs ys e f few =
      let ipv4 = items_at_most (len a) xs (λ e. (network_back 32 e.0, e.1)) (listing (retain_keys a p)) e (retained_fewer a p) in
      let ipv6 = items_at_most (len b) ys (λ e. (network_back 128 e.0, e.1)) (listing (retain_keys b q)) f (retained_fewer b q) in
      omega (arith, length_pairs xs ys, len_joined a b, ipv4, ipv6, few)

  pub few_networks : (xs ys : List (ℕ × ℕ)) → xs ≡ map (λ e. network_back 32 e.0) (listing (retain_keys a p)) → ys ≡ map (λ e. network_back 128 e.0) (listing (retain_keys b q))
      → {zs : List IpPrefix} → zs ≡ both_networks xs ys → len (joined a b) < 2 ^ 33 → length zs < 2 ^ 64
  few_networks xs ys e f is few =
      let ipv4 = items_at_most (len a) xs (λ e. network_back 32 e.0) (listing (retain_keys a p)) e (retained_fewer a p) in
      let ipv6 = items_at_most (len b) ys (λ e. network_back 128 e.0) (listing (retain_keys b q)) f (retained_fewer b q) in
      omega (arith, ap length is, length_networks xs ys, len_joined a b, ipv4, ipv6, few)
