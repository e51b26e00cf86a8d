-- The items of walks over both families.
use Rattle.std.proofs.Common.{◌≡◌, ℕ, ◌+◌, ◌<◌, ◌^◌, Bool, true, false, cond, List, [], ◌∷◌, ◌++◌, length, map, filter, refl, sym, ap, ap₂, ◌∙◌, is_lt, is_le, arith}
use Rattle.std.proofs.lemmas.List.{length-map}
use Rattle.std.specs.FinMap.{len, len-entries}
use Rattle.std.specs.List.{AllZip}
use Rattle.prefix_trie.specs.Terms.{begins, covers, Entries, listing, listing_after, listing_below, listing_cmp, listing_from, prefix_pairs}
use Rattle.prefix_trie_bits.specs.Networks.{network_back}
use Rattle.prefix_trie_table.specs.Copies.{IsPairCloned}
use Rattle.prefix_trie_table.specs.Model.Contents.{Contents}
use Rattle.prefix_trie_map.specs.Whole.{IsWhole}
use Rattle.prefix_trie_map.proofs.Listed.{few_from, few_shown}
use Rattle.prefix_trie_joint.specs.declared.prefix.IpPrefix.{IpPrefix}
use Rattle.prefix_trie_joint.specs.declared.prefix.IpPrefix.TheVariants.{V4, V6}
use Rattle.prefix_trie_joint.specs.Joined.{both, both_networks, joined, under}
use Rattle.prefix_trie_joint.specs.Networks.{ip_back}
use Rattle.prefix_trie_joint.proofs.Joined.{listing_joined}
use Rattle.prefix_trie_joint.proofs.Matches.{append_none, back_of, below_of, chosen, covers_of, filter_append, filter_under, ip_of}

module _ {T : Type 0} where
  pairs_under : (f : Bool) (es : List (List Bool × T)) → prefix_pairs ip_back (under f es) ≡ map (λ e. (ip_of f e.0, e.1)) (prefix_pairs (back_of f) es)
  pairs_under f [] = refl
  pairs_under false (e ∷ es) = ap (λ r. (V4 (network_back 32 e.0), e.1) ∷ r) (pairs_under false es)
  pairs_under true (e ∷ es) = ap (λ r. (V6 (network_back 128 e.0), e.1) ∷ r) (pairs_under true es)

  pairs_append : (xs ys : List (List Bool × T)) → prefix_pairs ip_back (xs ++ ys) ≡ prefix_pairs ip_back xs ++ prefix_pairs ip_back ys
  pairs_append [] ys = refl
  pairs_append (x ∷ xs) ys = ap (λ r. (ip_back x.0, x.1) ∷ r) (pairs_append xs ys)

  walk : (xs ys : List (List Bool × T)) → prefix_pairs ip_back (under false xs ++ under true ys) ≡ both (prefix_pairs (network_back 32) xs) (prefix_pairs (network_back 128) ys)
  walk xs ys = pairs_append (under false xs) (under true ys) ∙ ap₂ (λ a b. a ++ b) (pairs_under false xs) (pairs_under true ys)

  pub walk_joined : (a b : Entries T) (xs ys : List ((ℕ × ℕ) × T)) → xs ≡ prefix_pairs (network_back 32) (listing a) → ys ≡ prefix_pairs (network_back 128) (listing b)
      → both xs ys ≡ prefix_pairs ip_back (listing (joined a b))
  walk_joined a b xs ys e f = rw (e, f) (sym (ap (prefix_pairs ip_back) (listing_joined a b) ∙ walk (listing a) (listing b)))

  -- the items of a walk over one family
  abbrev pub alone : Bool → List ((ℕ × ℕ) × T) → List (IpPrefix × T)
  alone f es = cond f (both [] es) (both es [])

  walk_alone : (f : Bool) (es : List (List Bool × T)) → prefix_pairs ip_back (under f es) ≡ alone f (prefix_pairs (back_of f) es)
  walk_alone false es = ap (prefix_pairs ip_back) (sym (append_none (under false es))) ∙ walk es []
  walk_alone true es = walk [] es

  pub walk_below : (f : Bool) (a b : Entries T) (q : List Bool) → prefix_pairs ip_back (listing_below (joined a b) (f ∷ q)) ≡ alone f (prefix_pairs (back_of f) (listing_below (cond f b a) q))
  walk_below f a b q = ap (prefix_pairs ip_back) (below_of f a b q) ∙ walk_alone f (listing_below (cond f b a) q)

  -- the items of `cover`, as many as its family has
  pub walk_covers : (f : Bool) (a b : Entries T) (q : List Bool) → prefix_pairs ip_back (covers (joined a b) (f ∷ q)) ≡ alone f (prefix_pairs (back_of f) (covers (cond f b a) q))
  walk_covers f a b q = ap (prefix_pairs ip_back) (covers_of f a b q) ∙ walk_alone f (covers (cond f b a) q)

  pub covers_length : (f : Bool) (a b : Entries T) (q : List Bool) → length (covers (joined a b) (f ∷ q)) ≡ length (covers (cond f b a) q)
  covers_length f a b q = ap length (covers_of f a b q) ∙ length-map {B = List Bool × T} (covers (cond f b a) q) (λ e. (f ∷ e.0, e.1))

  pub length_pairs : (xs ys : List ((ℕ × ℕ) × T)) → length (both xs ys) ≡ length xs + length ys
  length_pairs [] [] = refl
  length_pairs [] (y ∷ ys) = let h = length_pairs [] ys in omega (arith, h)
  length_pairs (x ∷ xs) ys = let h = length_pairs xs ys in omega (arith, h)

  pub covers_counted_ipv4 : (a b : Entries T) (q : List Bool) (xs : List ((ℕ × ℕ) × T)) → length xs ≡ length (covers a q) → length (both xs []) ≡ length (covers (joined a b) (false ∷ q))
  covers_counted_ipv4 a b q xs h = omega (arith, h, length_pairs xs [], covers_length false a b q)

  pub covers_counted_ipv6 : (a b : Entries T) (q : List Bool) (ys : List ((ℕ × ℕ) × T)) → length ys ≡ length (covers b q) → length (both [] ys) ≡ length (covers (joined a b) (true ∷ q))
  covers_counted_ipv6 a b q ys h = omega (arith, h, length_pairs [] ys, covers_length true a b q)

  all_kept : (b : Bool) (p : List Bool → Bool) → ((s : List Bool) → p (b ∷ s) ≡ true) → (es : List (List Bool × T)) → filter (λ e. p e.0) (under b es) ≡ under b es
  all_kept b p h [] = refl
  all_kept b p h (e ∷ es) = ap (λ x. cond x ((b ∷ e.0, e.1) ∷ filter (λ e. p e.0) (under b es)) (filter (λ e. p e.0) (under b es))) (h e.0) ∙ ap (λ r. (b ∷ e.0, e.1) ∷ r) (all_kept b p h es)

  -- a test that all IPv6 keys pass
  with_all_ipv6 : (a b : Entries T) (p q : List Bool → Bool) → ((s : List Bool) → p (false ∷ s) ≡ q s) → ((s : List Bool) → p (true ∷ s) ≡ true) → filter (λ e. p e.0) (listing (joined a b)) ≡ under false (filter (λ e. q e.0) (listing a)) ++ under true (listing b)
  with_all_ipv6 a b p q h g =
      ap (filter _) (listing_joined a b) ∙ filter_append _ (under false (listing a)) (under true (listing b))
      ∙ ap₂ (λ xs ys. xs ++ ys) (filter_under false p q h (listing a)) (all_kept true p g (listing b))

  pub from_ipv4_listing : (a b : Entries T) (q : List Bool) → listing_from (joined a b) (false ∷ q) ≡ under false (listing_from a q) ++ under true (listing b)
  from_ipv4_listing a b q = with_all_ipv6 a b (λ s. is_le (listing_cmp (false ∷ q) s)) (λ s. is_le (listing_cmp q s)) (λ s. refl) (λ s. refl)

  pub walk_from : (f : Bool) (a b : Entries T) (q : List Bool) (inclusive : Bool) → prefix_pairs ip_back (cond inclusive (listing_from (joined a b) (f ∷ q)) (listing_after (joined a b) (f ∷ q)))
      ≡ both (cond f [] (prefix_pairs (network_back 32) (cond inclusive (listing_from a q) (listing_after a q)))) (prefix_pairs (network_back 128) (cond f (cond inclusive (listing_from b q) (listing_after b q)) (listing b)))
  walk_from false a b q true = ap (prefix_pairs ip_back) (from_ipv4_listing a b q) ∙ walk (listing_from a q) (listing b)
  walk_from false a b q false = ap (prefix_pairs ip_back) (with_all_ipv6 a b (λ s. is_lt (listing_cmp (false ∷ q) s)) (λ s. is_lt (listing_cmp q s)) (λ s. refl) (λ s. refl)) ∙ walk (listing_after a q) (listing b)
  walk_from true a b q true = ap (prefix_pairs ip_back) (chosen true a b _ (λ s. is_le (listing_cmp q s)) (λ s. refl) (λ s. refl)) ∙ walk [] (listing_from b q)
  walk_from true a b q false = ap (prefix_pairs ip_back) (chosen true a b _ (λ s. is_lt (listing_cmp q s)) (λ s. refl) (λ s. refl)) ∙ walk [] (listing_after b q)

  length_both : (xs ys : List (List Bool × T)) → length (under false xs ++ under true ys) ≡ length xs + length ys
  length_both [] [] = refl
  length_both [] (y ∷ ys) = let h = length_both [] ys in omega (arith, h)
  length_both (x ∷ xs) ys = let h = length_both xs ys in omega (arith, h)

  pub len_joined : (a b : Entries T) → len (joined a b) ≡ len a + len b
  len_joined a b = len-entries (joined a b) ∙ ap length (listing_joined a b) ∙ length_both (listing a) (listing b) ∙ sym (ap₂ (λ m n. m + n) (len-entries a) (len-entries b))

  -- ---- how many items

  pub count_joined : (a b : Entries T) (xs ys : List ((ℕ × ℕ) × T)) → length xs ≡ len a → length ys ≡ len b → length (both xs ys) ≡ len (joined a b)
  count_joined a b xs ys h k = length_pairs xs ys ∙ ap₂ (λ m n. m + n) h k ∙ sym (len_joined a b)

  -- ---- a part of a listing is no longer than the listing

  pub few_from_ipv4 : (a b : Entries T) (q : List Bool) (inclusive : Bool) (xs ys : List ((ℕ × ℕ) × T)) → xs ≡ prefix_pairs (network_back 32) (cond inclusive (listing_from a q) (listing_after a q)) → ys ≡ prefix_pairs (network_back 128) (listing b)
      → len (joined a b) < 2 ^ 64 → length (both xs ys) < 2 ^ 64
  few_from_ipv4 a b q inclusive xs ys e f h = omega (arith, ap length (ap₂ both e f ∙ sym (walk_from false a b q inclusive)), few_from ip_back (joined a b) inclusive (false ∷ q), h)

  pub few_from_ipv6 : (a b : Entries T) (q : List Bool) (inclusive : Bool) (xs ys : List ((ℕ × ℕ) × T)) → xs ≡ [] → ys ≡ prefix_pairs (network_back 128) (cond inclusive (listing_from b q) (listing_after b q))
      → len (joined a b) < 2 ^ 64 → length (both xs ys) < 2 ^ 64
  few_from_ipv6 a b q inclusive xs ys e f h = omega (arith, ap length (ap₂ both e f ∙ sym (walk_from true a b q inclusive)), few_from ip_back (joined a b) inclusive (true ∷ q), h)

  pub few_below_ipv4 : (a b : Entries T) (q : List Bool) (xs ys : List ((ℕ × ℕ) × T)) → xs ≡ prefix_pairs (network_back 32) (listing_below a q) → ys ≡ []
      → len (joined a b) < 2 ^ 64 → length (both xs ys) < 2 ^ 64
  few_below_ipv4 a b q xs ys e f h = omega (arith, ap length (ap₂ both e f ∙ sym (walk_below false a b q)), few_shown ip_back (joined a b) (λ e. begins (false ∷ q) e.0), h)

  pub few_below_ipv6 : (a b : Entries T) (q : List Bool) (xs ys : List ((ℕ × ℕ) × T)) → xs ≡ [] → ys ≡ prefix_pairs (network_back 128) (listing_below b q)
      → len (joined a b) < 2 ^ 64 → length (both xs ys) < 2 ^ 64
  few_below_ipv6 a b q xs ys e f h = omega (arith, ap length (ap₂ both e f ∙ sym (walk_below true a b q)), few_shown ip_back (joined a b) (λ e. begins (true ∷ q) e.0), h)

  -- ---- the networks alone

  networks_under : (xs ys : List (List Bool × T)) → map (λ e. ip_back e.0) (under false xs ++ under true ys) ≡ both_networks (map (λ e. network_back 32 e.0) xs) (map (λ e. network_back 128 e.0) ys)
  networks_under [] [] = refl
  networks_under [] (y ∷ ys) = ap (λ r. V6 (network_back 128 y.0) ∷ r) (networks_under [] ys)
  networks_under (x ∷ xs) ys = ap (λ r. V4 (network_back 32 x.0) ∷ r) (networks_under xs ys)

  pub networks_joined : (a b : Entries T) (xs ys : List (ℕ × ℕ)) → xs ≡ map (λ e. network_back 32 e.0) (listing a) → ys ≡ map (λ e. network_back 128 e.0) (listing b)
      → both_networks xs ys ≡ map (λ e. ip_back e.0) (listing (joined a b))
  networks_joined a b xs ys e f = rw (e, f) (sym (ap (map (λ e. ip_back e.0)) (listing_joined a b) ∙ networks_under (listing a) (listing b)))

  pub networks_of_both : (xs ys : List ((ℕ × ℕ) × T)) → map (λ e. e.0) (both xs ys) ≡ both_networks (map (λ e. e.0) xs) (map (λ e. e.0) ys)
  networks_of_both [] [] = refl
  networks_of_both [] (y ∷ ys) = ap (λ r. V6 y.0 ∷ r) (networks_of_both [] ys)
  networks_of_both (x ∷ xs) ys = ap (λ r. V4 x.0 ∷ r) (networks_of_both xs ys)

pub length_networks : (xs ys : List (ℕ × ℕ)) → length (both_networks xs ys) ≡ length xs + length ys
length_networks [] [] = refl
length_networks [] (y ∷ ys) = let h = length_networks [] ys in omega (arith, h)
length_networks (x ∷ xs) ys = let h = length_networks xs ys in omega (arith, h)

pub count_networks : {T : Type 0} (a b : Entries T) (xs ys : List (ℕ × ℕ)) → length xs ≡ len a → length ys ≡ len b → length (both_networks xs ys) ≡ len (joined a b)
count_networks a b xs ys h k = length_networks xs ys ∙ ap₂ (λ m n. m + n) h k ∙ sym (len_joined a b)

-- both maps have fewer than 2^64 entries
pub few_joined : {T : Type 0} (m n : Contents T) → IsWhole 32 m → IsWhole 128 n → len (joined m.entries n.entries) < 2 ^ 64
few_joined m n h k =
    let count = len_joined m.entries n.entries in
    let e4 = h.entries_within in let c4 = h.cells_within in let l4 = h.limit_below in
    let e6 = k.entries_within in let c6 = k.cells_within in let l6 = k.limit_below in
    omega (arith, count, e4, c4, l4, e6, c6, l6)

-- clones of the pairs of each family are clones of the pairs of both
module _ {T : Type 0} (C : T → T → Type 0) where
  pub both_cloned : (xs ys us vs : List ((ℕ × ℕ) × T)) → AllZip (IsPairCloned C) xs us → AllZip (IsPairCloned C) ys vs → AllZip (IsPairCloned C) (both xs ys) (both us vs)
  both_cloned [] [] [] [] h k = tt
  both_cloned [] [] [] (v ∷ vs) h k = absurd k
  both_cloned [] (y ∷ ys) [] [] h k = absurd k
  both_cloned [] (y ∷ ys) [] (v ∷ vs) h k = ((ap V6 k.0.0, k.0.1), both_cloned [] ys [] vs h k.1)
  both_cloned [] ys (u ∷ us) vs h k = absurd h
  both_cloned (x ∷ xs) ys [] vs h k = absurd h
  both_cloned (x ∷ xs) ys (u ∷ us) vs h k = ((ap V4 h.0.0, h.0.1), both_cloned xs ys us vs h.1 k)
