-- The joined entries of two families: their listing, and the value of each key.
use Rattle.std.proofs.Common.{◌≡◌, Bool, true, false, cond, ◌&&◌, List, [], ◌∷◌, ◌++◌, Some, None, refl, sym, ap, ◌∙◌, T as IsT}
use Rattle.std.specs.Ordering.{eq_by_cmp}
use Rattle.std.specs.FinMap.{entries_sorted, entries-from_sorted, get, get-entries, is_sorted, find, same_map}
use Rattle.std.specs.FinMap.Entries.{below_all}
use Rattle.prefix_trie.specs.Terms.{Entries, listing, listing_cmp}
use Rattle.prefix_trie_bits.specs.Order.{listing_same, listing_total}
use Rattle.prefix_trie_joint.specs.Joined.{joined, under}

all : (a b : Bool) → IsT a → IsT b → IsT (a && b)
all true b p q = q
all false b p q = p

first : (a b : Bool) → IsT (a && b) → IsT a
first true b p = tt
first false b p = p

second : (a b : Bool) → IsT (a && b) → IsT b
second true b p = p
second false b p = absurd p

module _ {T : Type 0} where
  below_ipv4 : (k : List Bool) (es : List (List Bool × T)) → IsT (below_all listing_cmp k es) → IsT (below_all listing_cmp (false ∷ k) (under false es))
  below_ipv4 k [] h = tt
  below_ipv4 k (e ∷ es) h = all _ _ (first _ _ h) (below_ipv4 k es (second _ _ h))

  below_ipv6 : (k : List Bool) (es : List (List Bool × T)) → IsT (below_all listing_cmp k es) → IsT (below_all listing_cmp (true ∷ k) (under true es))
  below_ipv6 k [] h = tt
  below_ipv6 k (e ∷ es) h = all _ _ (first _ _ h) (below_ipv6 k es (second _ _ h))

  below_apart : (k : List Bool) (es : List (List Bool × T)) → IsT (below_all listing_cmp (false ∷ k) (under true es))
  below_apart k [] = tt
  below_apart k (e ∷ es) = below_apart k es

  below_append : (k : List Bool) (xs ys : List (List Bool × T)) → IsT (below_all listing_cmp k xs) → IsT (below_all listing_cmp k ys) → IsT (below_all listing_cmp k (xs ++ ys))
  below_append k [] ys h g = g
  below_append k (x ∷ xs) ys h g = all _ _ (first _ _ h) (below_append k xs ys (second _ _ h) g)

  sorted_ipv6 : (ys : List (List Bool × T)) → IsT (is_sorted listing_cmp ys) → IsT (is_sorted listing_cmp (under true ys))
  sorted_ipv6 [] h = tt
  sorted_ipv6 (y ∷ ys) h = all _ _ (below_ipv6 y.0 ys (first _ _ h)) (sorted_ipv6 ys (second _ _ h))

  sorted : (xs ys : List (List Bool × T)) → IsT (is_sorted listing_cmp xs) → IsT (is_sorted listing_cmp ys) → IsT (is_sorted listing_cmp (under false xs ++ under true ys))
  sorted [] ys h g = sorted_ipv6 ys g
  sorted (x ∷ xs) ys h g =
      all _ _ (below_append (false ∷ x.0) (under false xs) (under true ys) (below_ipv4 x.0 xs (first _ _ h)) (below_apart x.0 ys)) (sorted xs ys (second _ _ h) g)

  pub listing_joined : (a b : Entries T) → listing (joined a b) ≡ under false (listing a) ++ under true (listing b)
  unfolding joined
  listing_joined a b = entries-from_sorted listing_cmp _ (sorted (listing a) (listing b) (entries_sorted a) (entries_sorted b))

  find_apart : (s : List Bool) (ys : List (List Bool × T)) → find listing_cmp (false ∷ s) (under true ys) ≡ None
  find_apart s [] = refl
  find_apart s (y ∷ ys) = find_apart s ys

  find_ipv4 : (s : List Bool) (xs ys : List (List Bool × T)) → find listing_cmp (false ∷ s) (under false xs ++ under true ys) ≡ find listing_cmp s xs
  find_ipv4 s [] ys = find_apart s ys
  find_ipv4 s (x ∷ xs) ys = ap (λ o. cond (eq_by_cmp listing_cmp s x.0) (Some x.1) o) (find_ipv4 s xs ys)

  find_ipv6_alone : (s : List Bool) (ys : List (List Bool × T)) → find listing_cmp (true ∷ s) (under true ys) ≡ find listing_cmp s ys
  find_ipv6_alone s [] = refl
  find_ipv6_alone s (y ∷ ys) = ap (λ o. cond (eq_by_cmp listing_cmp s y.0) (Some y.1) o) (find_ipv6_alone s ys)

  find_ipv6 : (s : List Bool) (xs ys : List (List Bool × T)) → find listing_cmp (true ∷ s) (under false xs ++ under true ys) ≡ find listing_cmp s ys
  find_ipv6 s [] ys = find_ipv6_alone s ys
  find_ipv6 s (x ∷ xs) ys = find_ipv6 s xs ys

  find_none_ipv6 : (ys : List (List Bool × T)) → find listing_cmp [] (under true ys) ≡ None
  find_none_ipv6 [] = refl
  find_none_ipv6 (y ∷ ys) = find_none_ipv6 ys

  find_none : (xs ys : List (List Bool × T)) → find listing_cmp [] (under false xs ++ under true ys) ≡ None
  find_none [] ys = find_none_ipv6 ys
  find_none (x ∷ xs) ys = find_none xs ys

  found : (a b : Entries T) (q : List Bool) → get (joined a b) q ≡ find listing_cmp q (under false (listing a) ++ under true (listing b))
  found a b q = get-entries (joined a b) q ∙ ap (find listing_cmp q) (listing_joined a b)

  pub get_ipv4 : (a b : Entries T) (s : List Bool) → get (joined a b) (false ∷ s) ≡ get a s
  get_ipv4 a b s = found a b (false ∷ s) ∙ find_ipv4 s (listing a) (listing b) ∙ sym (get-entries a s)

  pub get_ipv6 : (a b : Entries T) (s : List Bool) → get (joined a b) (true ∷ s) ≡ get b s
  get_ipv6 a b s = found a b (true ∷ s) ∙ find_ipv6 s (listing a) (listing b) ∙ sym (get-entries b s)

  pub get_neither : (a b : Entries T) → get (joined a b) [] ≡ None
  get_neither a b = found a b [] ∙ find_none (listing a) (listing b)

  -- two maps with the same value at each key of each family are the same
  pub same : (m n : Entries T) → get m [] ≡ get n [] → ((s : List Bool) → get m (false ∷ s) ≡ get n (false ∷ s)) → ((s : List Bool) → get m (true ∷ s) ≡ get n (true ∷ s)) → m ≡ n
  same m n e f g = same_map listing_total listing_same m n each
    where
      each : (q : List Bool) → get m q ≡ get n q
      each [] = e
      each (false ∷ s) = f s
      each (true ∷ s) = g s
