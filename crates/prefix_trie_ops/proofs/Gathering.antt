-- The addresses of the networks of a listing, read one after another: for `addresses_of`.
use Rattle.std.proofs.Common.{◌≡◌, ◌∙◌, ◌||◌, ℕ, ◌<◌, ◌≤◌, ◌^◌, zero, Bool, true, false, List, [], ◌∷◌, ◌++◌, length, map, is_some, refl, sym, ap, ap₂, subst, arith, append-nil, append_assoc}
use Rattle.std.proofs.lemmas.List.{map-append}
use Rattle.std.proofs.lemmas.List.Elements.{Contains-append_right}
use Rattle.std.proofs.lemmas.List.Folds.{list_any-append}
use Rattle.std.specs.List.{list_any, Contains}
use Rattle.prefix_trie.specs.Terms.{begins, listing, number, prefix_pairs, shortest_match, AreWithin, Entries}
use Rattle.prefix_trie_bits.specs.BitStrings.{number-lt}
use Rattle.prefix_trie_bits.specs.Laws.Listings.{ListingLaws}
use Rattle.prefix_trie_bits.specs.Laws.Matches.{MatchLaws}
use Rattle.address_ranges.proofs.Addresses.{network_has}
use Rattle.address_ranges.specs.Appends.{is_inside}
use Rattle.address_ranges.specs.Networks.{first_address, past_address}

or_none : (b : Bool) → (b || false) ≡ b
or_none true = refl
or_none false = refl

module _ {P T : Type 0} (w : ℕ) (back : List Bool → P) (m : Entries T) where
  -- the addresses are those of the networks read so far, and others are still to come
  pub record AreRead (left : List (P × T)) (has : ℕ → Bool) : Type 0 where
    pub front : List (List Bool × T)
    pub rest : List (List Bool × T)
    pub split : listing m ≡ front ++ rest
    pub to_come : left ≡ prefix_pairs back rest
    pub addresses : (q : List Bool) → length q ≡ w → has (number q) ≡ list_any (λ s. begins s q) (map (λ e. e.0) front)

  pub none_read : (left : List (P × T)) (has : ℕ → Bool) → left ≡ prefix_pairs back (listing m) → ((n : ℕ) → has n ≡ false) → AreRead left has
  none_read left has is none = record { front = []; rest = listing m; split = refl; to_come = is; addresses = λ q long. none (number q) }

  -- the next network is that of a key
  pub record IsNext (item : P × T) (later : List (P × T)) (has : ℕ → Bool) : Type 0 where
    pub key : List Bool
    pub value : T
    pub is : item ≡ (back key, value)
    pub short : length key ≤ w
    pub goes_on : (after : ℕ → Bool) → ((n : ℕ) → n < 2 ^ w → after n ≡ (has n || is_inside (first_address w key) (past_address w key) n)) → AreRead later after

  module _ (listed : ListingLaws T) (within : AreWithin w m) where
    pub next_read : (left : List (P × T)) (item : P × T) (later : List (P × T)) (has : ℕ → Bool) → left ≡ item ∷ later → AreRead left has → IsNext item later has
    next_read left item later has next so_far = by_rest so_far.rest so_far.split (sym next ∙ so_far.to_come)
      where
        front : List (List Bool × T)
        front = so_far.front

        by_rest : (rest : List (List Bool × T)) → listing m ≡ front ++ rest → item ∷ later ≡ prefix_pairs back rest → IsNext item later has
        by_rest [] split is = absurd (cc)
        by_rest (e ∷ rest) split is = record {
          key = e.0;
          value = e.1;
          is = head item (back e.0, e.1) later (prefix_pairs back rest) is;
          short = short;
          goes_on = λ after adds. record {
            front = front ++ e ∷ [];
            rest = rest;
            split = split ∙ sym (append_assoc front (e ∷ []) rest);
            to_come = tail item (back e.0, e.1) later (prefix_pairs back rest) is;
            addresses = λ q long.
                adds (number q) (subst (λ k. number q < 2 ^ k) long (number-lt q))
                ∙ ap₂ (λ a b. a || b) (so_far.addresses q long) (network_has w e.0 q long short ∙ sym (or_none (begins e.0 q)))
                ∙ sym (ap (list_any (λ s. begins s q)) (map-append (λ e. e.0) front (e ∷ [])) ∙ list_any-append (λ s. begins s q) (map (λ e. e.0) front) (e.0 ∷ []));
          };
        }
          where
            short : length e.0 ≤ w
            short = within e.0 (ap is_some ((listed.has_each m e.0 e.1).1 (subst (λ es. Contains es e) (sym split) (Contains-append_right front (e ∷ rest) e (zero, omega arith, refl)))))

            head : (x y : P × T) (xs ys : List (P × T)) → x ∷ xs ≡ y ∷ ys → x ≡ y
            head x y xs ys e = cc

            tail : (x y : P × T) (xs ys : List (P × T)) → x ∷ xs ≡ y ∷ ys → xs ≡ ys
            tail x y xs ys e = cc

  pub all_read : MatchLaws T → (left : List (P × T)) (has : ℕ → Bool) → left ≡ [] → AreRead left has → (q : List Bool) → length q ≡ w → has (number q) ≡ is_some (shortest_match m q)
  all_read matches left has none so_far q long =
      so_far.addresses q long ∙ ap (λ es. list_any (λ s. begins s q) (map (λ e. e.0) es)) whole ∙ sym (matches.some_shortest m q)
    where
      no_rest : (rest : List (List Bool × T)) → [] ≡ prefix_pairs back rest → rest ≡ []
      no_rest [] e = refl
      no_rest (e ∷ rest) is = absurd (cc)

      whole : so_far.front ≡ listing m
      whole = sym (so_far.split ∙ ap (λ es. so_far.front ++ es) (no_rest so_far.rest (sym none ∙ so_far.to_come)) ∙ append-nil so_far.front)
