-- The parts of the joined listing that one family has, and matches. A family is a bit f, and `cond f b a` is its map.
use Rattle.std.proofs.Common.{◌≡◌, ℕ, Bool, true, false, not, cond, List, [], ◌∷◌, ◌++◌, filter, Option, Some, None, is_some, refl, sym, subst, ap, ap₂, ◌∙◌}
use Rattle.std.specs.Option.{option_map}
use Rattle.std.specs.FinMap.{get}
use Rattle.prefix_trie.specs.Terms.{begins, covers, Entries, first_item, last_item, listing, listing_below, longest_match, prefix_pair, shortest_match}
use Rattle.prefix_trie_bits.specs.Networks.{network_back, network_path}
use Rattle.prefix_trie_joint.specs.declared.prefix.IpPrefix.{IpPrefix}
use Rattle.prefix_trie_joint.specs.declared.prefix.IpPrefix.TheVariants.{V4, V6}
use Rattle.prefix_trie_joint.specs.Joined.{joined, under}
use Rattle.prefix_trie_joint.specs.Networks.{ip_back, ip_path}
use Rattle.prefix_trie_joint.proofs.Families.{begins_ipv4, begins_ipv6, begins_apart, begins_apart_too}
use Rattle.prefix_trie_joint.proofs.Joined.{listing_joined, get_ipv4, get_ipv6}

-- a network of a family as one of both, and the network of a path in a family
abbrev pub ip_of : Bool → ℕ × ℕ → IpPrefix
ip_of f network = cond f (V6 network) (V4 network)

abbrev pub back_of : Bool → List Bool → ℕ × ℕ
back_of f s = network_back (cond f 128 32) s

still_some : {X Y : Type 0} (f : X → Y) (o : Option X) → is_some (option_map f o) ≡ is_some o
still_some f None = refl
still_some f (Some x) = refl

twice_mapped : {X Y Z : Type 0} (f : Y → Z) (g : X → Y) (o : Option X) → option_map f (option_map g o) ≡ option_map (λ x. f (g x)) o
twice_mapped f g None = refl
twice_mapped f g (Some x) = refl

module _ {T : Type 0} where
  pub filter_append : (p : List Bool × T → Bool) (xs ys : List (List Bool × T)) → filter p (xs ++ ys) ≡ filter p xs ++ filter p ys
  filter_append p [] ys = refl
  filter_append p (x ∷ xs) ys = more (p x) _ _ _ (filter_append p xs ys)
    where
      more : (b : Bool) (all xs ys : List (List Bool × T)) → all ≡ xs ++ ys → cond b (x ∷ all) all ≡ cond b (x ∷ xs) xs ++ ys
      more true all xs ys h = ap (λ es. x ∷ es) h
      more false all xs ys h = h

  -- a test of the keys of one family
  pub filter_under : (b : Bool) (p q : List Bool → Bool) → ((s : List Bool) → p (b ∷ s) ≡ q s) → (es : List (List Bool × T)) → filter (λ e. p e.0) (under b es) ≡ under b (filter (λ e. q e.0) es)
  filter_under b p q h [] = refl
  filter_under b p q h (e ∷ es) = ap (λ x. cond x ((b ∷ e.0, e.1) ∷ filter (λ e. p e.0) (under b es)) (filter (λ e. p e.0) (under b es))) (h e.0) ∙ more (q e.0) _ _ (filter_under b p q h es)
    where
      more : (x : Bool) (all rest : List (List Bool × T)) → all ≡ under b rest → cond x ((b ∷ e.0, e.1) ∷ all) all ≡ under b (cond x (e ∷ rest) rest)
      more true all rest g = ap (λ r. (b ∷ e.0, e.1) ∷ r) g
      more false all rest g = g

  pub filter_none : (b : Bool) (p : List Bool → Bool) → ((s : List Bool) → p (b ∷ s) ≡ false) → (es : List (List Bool × T)) → filter (λ e. p e.0) (under b es) ≡ []
  filter_none b p h [] = refl
  filter_none b p h (e ∷ es) = ap (λ x. cond x ((b ∷ e.0, e.1) ∷ filter (λ e. p e.0) (under b es)) (filter (λ e. p e.0) (under b es))) (h e.0) ∙ filter_none b p h es

  pub append_none : (xs : List (List Bool × T)) → xs ++ [] ≡ xs
  append_none [] = refl
  append_none (x ∷ xs) = ap (λ es. x ∷ es) (append_none xs)

  -- a test that only keys of one family pass
  pub chosen : (f : Bool) (a b : Entries T) (p q : List Bool → Bool) → ((s : List Bool) → p (f ∷ s) ≡ q s) → ((s : List Bool) → p (not f ∷ s) ≡ false) → filter (λ e. p e.0) (listing (joined a b)) ≡ under f (filter (λ e. q e.0) (listing (cond f b a)))
  chosen false a b p q h g =
      ap (filter (λ e. p e.0)) (listing_joined a b) ∙ filter_append _ (under false (listing a)) (under true (listing b))
      ∙ ap₂ (λ xs ys. xs ++ ys) (filter_under false p q h (listing a)) (filter_none true p g (listing b)) ∙ append_none _
  chosen true a b p q h g =
      ap (filter (λ e. p e.0)) (listing_joined a b) ∙ filter_append _ (under false (listing a)) (under true (listing b))
      ∙ ap₂ (λ xs ys. xs ++ ys) (filter_none false p g (listing a)) (filter_under true p q h (listing b))

  pub covers_of : (f : Bool) (a b : Entries T) (q : List Bool) → covers (joined a b) (f ∷ q) ≡ under f (covers (cond f b a) q)
  covers_of false a b q = chosen false a b _ (λ s. begins s q) (λ s. begins_ipv4 s q) (λ s. begins_apart_too s q)
  covers_of true a b q = chosen true a b _ (λ s. begins s q) (λ s. begins_ipv6 s q) (λ s. begins_apart s q)

  pub below_of : (f : Bool) (a b : Entries T) (q : List Bool) → listing_below (joined a b) (f ∷ q) ≡ under f (listing_below (cond f b a) q)
  below_of false a b q = chosen false a b _ (begins q) (begins_ipv4 q) (begins_apart q)
  below_of true a b q = chosen true a b _ (begins q) (begins_ipv6 q) (begins_apart_too q)

  last_under : (b : Bool) (es : List (List Bool × T)) → last_item (under b es) ≡ option_map (λ e. (b ∷ e.0, e.1)) (last_item es)
  last_under b [] = refl
  last_under b (x ∷ []) = refl
  last_under b (x ∷ y ∷ es) = last_under b (y ∷ es)

  first_under : (b : Bool) (es : List (List Bool × T)) → first_item (under b es) ≡ option_map (λ e. (b ∷ e.0, e.1)) (first_item es)
  first_under b [] = refl
  first_under b (x ∷ es) = refl

  pub longest_of : (f : Bool) (a b : Entries T) (q : List Bool) → longest_match (joined a b) (f ∷ q) ≡ option_map (λ e. (f ∷ e.0, e.1)) (longest_match (cond f b a) q)
  longest_of f a b q = ap last_item (covers_of f a b q) ∙ last_under f (covers (cond f b a) q)

  pub shortest_of : (f : Bool) (a b : Entries T) (q : List Bool) → shortest_match (joined a b) (f ∷ q) ≡ option_map (λ e. (f ∷ e.0, e.1)) (shortest_match (cond f b a) q)
  shortest_of f a b q = ap first_item (covers_of f a b q) ∙ first_under f (covers (cond f b a) q)

  -- a match with its network
  pair_under : (f : Bool) (found : Option (List Bool × T)) → prefix_pair ip_back (option_map (λ e. (f ∷ e.0, e.1)) found) ≡ option_map (λ e. (ip_of f e.0, e.1)) (prefix_pair (back_of f) found)
  pair_under f None = refl
  pair_under false (Some e) = refl
  pair_under true (Some e) = refl

  pub longest_pair : (f : Bool) (a b : Entries T) (q : List Bool) → prefix_pair ip_back (longest_match (joined a b) (f ∷ q)) ≡ option_map (λ e. (ip_of f e.0, e.1)) (prefix_pair (back_of f) (longest_match (cond f b a) q))
  longest_pair f a b q = ap (prefix_pair ip_back) (longest_of f a b q) ∙ pair_under f (longest_match (cond f b a) q)

  pub shortest_pair : (f : Bool) (a b : Entries T) (q : List Bool) → prefix_pair ip_back (shortest_match (joined a b) (f ∷ q)) ≡ option_map (λ e. (ip_of f e.0, e.1)) (prefix_pair (back_of f) (shortest_match (cond f b a) q))
  shortest_pair f a b q = ap (prefix_pair ip_back) (shortest_of f a b q) ∙ pair_under f (shortest_match (cond f b a) q)

  pub covered_ipv4 : (a b : Entries T) (q : List Bool) → is_some (shortest_match (joined a b) (false ∷ q)) ≡ is_some (shortest_match a q)
  covered_ipv4 a b q = ap is_some (shortest_of false a b q) ∙ still_some _ (shortest_match a q)

  pub covered_ipv6 : (a b : Entries T) (q : List Bool) → is_some (shortest_match (joined a b) (true ∷ q)) ≡ is_some (shortest_match b q)
  covered_ipv6 a b q = ap is_some (shortest_of true a b q) ∙ still_some _ (shortest_match b q)

  -- the value of the longest match
  pub longest_value : (f : Bool) (a b : Entries T) (q : List Bool) → option_map {T = List Bool × T} (λ e. e.1) (longest_match (joined a b) (f ∷ q)) ≡ option_map {T = List Bool × T} (λ e. e.1) (longest_match (cond f b a) q)
  longest_value f a b q = ap (option_map {T = List Bool × T} (λ e. e.1)) (longest_of f a b q) ∙ twice_mapped {X = List Bool × T} {Y = List Bool × T} {Z = T} (λ e. e.1) (λ e. (f ∷ e.0, e.1)) (longest_match (cond f b a) q)

  -- the network of a match
  network_under : (f : Bool) (found : Option (List Bool × T)) → option_map {T = List Bool × T} (λ e. ip_back e.0) (option_map {T = List Bool × T} (λ e. (f ∷ e.0, e.1)) found) ≡ option_map (ip_of f) (option_map {T = List Bool × T} (λ e. back_of f e.0) found)
  network_under f None = refl
  network_under false (Some e) = refl
  network_under true (Some e) = refl

  pub longest_prefix : (f : Bool) (a b : Entries T) (q : List Bool) → option_map {T = List Bool × T} (λ e. ip_back e.0) (longest_match (joined a b) (f ∷ q)) ≡ option_map (ip_of f) (option_map {T = List Bool × T} (λ e. back_of f e.0) (longest_match (cond f b a) q))
  longest_prefix f a b q = ap (option_map {T = List Bool × T} (λ e. ip_back e.0)) (longest_of f a b q) ∙ network_under f (longest_match (cond f b a) q)

  pub shortest_prefix : (f : Bool) (a b : Entries T) (q : List Bool) → option_map {T = List Bool × T} (λ e. ip_back e.0) (shortest_match (joined a b) (f ∷ q)) ≡ option_map (ip_of f) (option_map {T = List Bool × T} (λ e. back_of f e.0) (shortest_match (cond f b a) q))
  shortest_prefix f a b q = ap (option_map {T = List Bool × T} (λ e. ip_back e.0)) (shortest_of f a b q) ∙ network_under f (shortest_match (cond f b a) q)

  -- an exact lookup, with what is made of its network and its value
  at_path : {X : Type 0} (f : Bool) (a b : Entries T) (q s : List Bool) → f ∷ q ≡ s → (h : IpPrefix → T → X) → option_map (h (ip_of f (back_of f q))) (get (cond f b a) q) ≡ option_map (h (ip_back s)) (get (joined a b) s)
  at_path false a b q s is h = subst (λ s. option_map (h (V4 (network_back 32 q))) (get a q) ≡ option_map (h (ip_back s)) (get (joined a b) s)) is (ap (option_map (h (V4 (network_back 32 q)))) (sym (get_ipv4 a b q)))
  at_path true a b q s is h = subst (λ s. option_map (h (V6 (network_back 128 q))) (get b q) ≡ option_map (h (ip_back s)) (get (joined a b) s)) is (ap (option_map (h (V6 (network_back 128 q)))) (sym (get_ipv6 a b q)))

  pub stored_pair : (f : Bool) (a b : Entries T) (q s : List Bool) → f ∷ q ≡ s → (r : Option ((ℕ × ℕ) × T)) → r ≡ option_map {U = (ℕ × ℕ) × T} (λ v. (back_of f q, v)) (get (cond f b a) q)
      → option_map {T = (ℕ × ℕ) × T} {U = IpPrefix × T} (λ e. (ip_of f e.0, e.1)) r ≡ option_map {U = IpPrefix × T} (λ v. (ip_back s, v)) (get (joined a b) s)
  stored_pair f a b q s is r e = ap (option_map {T = (ℕ × ℕ) × T} {U = IpPrefix × T} (λ e. (ip_of f e.0, e.1))) e ∙ twice_mapped {X = T} {Y = (ℕ × ℕ) × T} {Z = IpPrefix × T} (λ e. (ip_of f e.0, e.1)) (λ v. (back_of f q, v)) (get (cond f b a) q) ∙ at_path {X = IpPrefix × T} f a b q s is (λ p v. (p, v))

  pub stored_network_ipv4 : (a b : Entries T) (network : ℕ × ℕ) (prefix : IpPrefix) → V4 network ≡ prefix → (before after : Option (ℕ × ℕ))
      → before ≡ option_map {T = T} (λ _. network_back 32 (network_path 32 network)) (get a (network_path 32 network)) → before ≡ after → option_map V4 after ≡ option_map {T = T} (λ _. ip_back (ip_path prefix)) (get (joined a b) (ip_path prefix))
  stored_network_ipv4 a b network prefix this before after e is = ap (option_map V4) (sym is ∙ e) ∙ twice_mapped {X = T} V4 (λ _. network_back 32 (network_path 32 network)) (get a (network_path 32 network)) ∙ at_path false a b _ _ (ap ip_path this) (λ p _. p)

  pub stored_network_ipv6 : (a b : Entries T) (network : ℕ × ℕ) (prefix : IpPrefix) → V6 network ≡ prefix → (before after : Option (ℕ × ℕ))
      → before ≡ option_map {T = T} (λ _. network_back 128 (network_path 128 network)) (get b (network_path 128 network)) → before ≡ after → option_map V6 after ≡ option_map {T = T} (λ _. ip_back (ip_path prefix)) (get (joined a b) (ip_path prefix))
  stored_network_ipv6 a b network prefix this before after e is = ap (option_map V6) (sym is ∙ e) ∙ twice_mapped {X = T} V6 (λ _. network_back 128 (network_path 128 network)) (get b (network_path 128 network)) ∙ at_path true a b _ _ (ap ip_path this) (λ p _. p)
