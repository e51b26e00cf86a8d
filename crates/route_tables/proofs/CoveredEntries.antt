-- The entries all of whose addresses are in a set, and the loop over a table that keeps them: for `covered`.
use Rattle.std.proofs.Common.{◌≡◌, ◌∙◌, ◌↔◌, ◌+◌, ◌-◌, ◌<◌, ◌≤◌, ◌^◌, ◌&&◌, ℕ, zero, suc, eqb, eqb-true, Bool, true, false, true≢false, cond, List, [], ◌∷◌, ◌++◌, All, Bor, get_or, is_some, length, filter, map, refl, sym, ap, subst, arith, append_assoc, append-nil}
use Rattle.std.proofs.lemmas.Bool.{eqb-false}
use Rattle.std.proofs.lemmas.List.{map-append}
use Rattle.std.proofs.lemmas.List.Elements.{All-head, All-tail}
use Rattle.std.specs.List.{Contains}
use Rattle.prefix_trie.specs.Terms.{lent_item, listing, prefix_pairs, AreWithin, Entries}
use Rattle.prefix_trie_bits.specs.Laws.Listings.{ListingLaws}
use Rattle.address_ranges.specs.Networks.{first_address, IsInside}
use Rattle.address_ranges.proofs.Keys.{get_or-any}
use Rattle.route_tables.specs.AddressSets.{AreCoveredEntries}

-- whether the numbers from `at` on, as many as are asked for, pass a test
all_from : ℕ → ℕ → (ℕ → Bool) → Bool
all_from at zero test = true
all_from at (suc k) test = test at && all_from (suc at) k test

both : (a b : Bool) → a ≡ true → b ≡ true → (a && b) ≡ true
both true b p q = q
both false b p q = p

first_of : (a b : Bool) → (a && b) ≡ true → a ≡ true
first_of true b p = refl
first_of false b p = p

second_of : (a b : Bool) → (a && b) ≡ true → b ≡ true
second_of true b p = p
second_of false b p = absurd (true≢false (sym p))

above : (n at : ℕ) → at ≤ n → (n ≡ at → ⊥) → suc at ≤ n
above n at low ne = omega (arith, low, ne)

all_pass : (at k : ℕ) (test : ℕ → Bool) → all_from at k test ≡ true → (n : ℕ) → at ≤ n → n < at + k → test n ≡ true
unfolding all_from
all_pass at zero test h n low high = absurd (omega (arith, low, high))
all_pass at (suc k) test h n low high = elim (eqb n at) as (λ b. eqb n at ≡ b → test n ≡ true) [
  | true ↦ λ e. subst (λ m. test m ≡ true) (sym (eqb-true n at e)) (first_of (test at) (all_from (suc at) k test) h)
  | false ↦ λ e. all_pass (suc at) k test (second_of (test at) (all_from (suc at) k test) h) n (above n at low (eqb-false n at e)) (omega (arith, high))
] refl

pass_all : (at k : ℕ) (test : ℕ → Bool) → ((n : ℕ) → at ≤ n → n < at + k → test n ≡ true) → all_from at k test ≡ true
unfolding all_from
pass_all at zero test each = refl
pass_all at (suc k) test each =
    both (test at) (all_from (suc at) k test) (each at (omega arith) (omega arith)) (pass_all (suc at) k test (λ n low high. each n (omega (arith, low)) (omega (arith, high))))

-- whether all addresses of a network pass a test
pub has_all : ℕ → (ℕ → Bool) → List Bool → Bool
has_all width test s = all_from (first_address width s) (2 ^ (width - length s)) test

pub has_all_is : (width : ℕ) (test : ℕ → Bool) (s : List Bool) → (has_all width test s ≡ true) ↔ IsInside width test s
unfolding has_all
has_all_is width test s = (
  λ h n low high. all_pass (first_address width s) (2 ^ (width - length s)) test h n low high,
  λ inside. pass_all (first_address width s) (2 ^ (width - length s)) test inside,
)

-- a test that says whether all addresses pass says what the function does
pub has_all_same : (width : ℕ) (test : ℕ → Bool) (s : List Bool) (b : Bool) → (b ≡ true) ↔ IsInside width test s → has_all width test s ≡ b
has_all_same width test s true is = (has_all_is width test s).1 (is.0 refl)
has_all_same width test s false is = elim (has_all width test s) as (λ a. has_all width test s ≡ a → a ≡ false) [
  | true ↦ λ e. sym (is.1 ((has_all_is width test s).0 e))
  | false ↦ λ _. refl
] refl

pub are_covered : {P T : Type 0} (width : ℕ) (test : ℕ → Bool) (back : List Bool → P) (m : Entries T) (entries : List (P × T))
    → entries ≡ prefix_pairs back (filter (λ e. has_all width test e.0) (listing m)) → AreCoveredEntries width back m test entries
are_covered width test back m entries is = record {
  keep = λ e. has_all width test e.0;
  listed = is;
  exact = λ e at. has_all_is width test e.0;
}

module _ {P T : Type 0} (w : ℕ) (path : P → List Bool) (back : List Bool → P) (keep : List Bool → Bool) (m : Entries T) where
  -- the entries kept so far, with those that are kept of the entries to come, are all that are kept
  pub record KeptSoFar (left : List (P × T)) (kept : List (P × T)) : Type 0 where
    pub rest : List (List Bool × T)
    pub short : All (λ e. length e.0 ≤ w) rest
    pub to_come : left ≡ prefix_pairs back rest
    pub complete : kept ++ prefix_pairs back (filter (λ e. keep e.0) rest) ≡ prefix_pairs back (filter (λ e. keep e.0) (listing m))

  pub kept_start : ListingLaws T → AreWithin w m → (left : List (P × T)) (kept : List (P × T)) → left ≡ prefix_pairs back (listing m) → kept ≡ [] → KeptSoFar left kept
  kept_start listed within left kept is none = record {
    rest = listing m;
    short = λ k d lt. within _ (ap is_some ((listed.has_each m _ _).1 (at (listing m) k d lt)));
    to_come = is;
    complete = ap (λ es. es ++ prefix_pairs back (filter (λ e. keep e.0) (listing m))) none;
  }
    where
      at : (es : List (List Bool × T)) (k : ℕ) (d : List Bool × T) → k < length es → Contains es (get_or es k d)
      at es k d lt = (k, lt, get_or-any es k (get_or es k d) d lt)

  -- the next entry is that of a key
  pub record Next (left : List (P × T)) (kept : List (P × T)) (item : P × T) (later : List (P × T)) : Type 0 where
    pub key : List Bool
    pub value : T
    pub is : item ≡ (back key, value)
    pub short : length key ≤ w
    pub taken : keep (path item.0) ≡ true → KeptSoFar later (kept ++ item ∷ [])
    pub left_out : keep (path item.0) ≡ false → KeptSoFar later kept

  pub kept_next : ((s : List Bool) → length s ≤ w → path (back s) ≡ s) → (left : List (P × T)) (kept : List (P × T)) (item : P × T) (later : List (P × T)) → left ≡ item ∷ later → KeptSoFar left kept → Next left kept item later
  kept_next paths left kept item later next so_far = by_rest so_far.rest so_far.short so_far.complete (sym next ∙ so_far.to_come)
    where
      by_rest : (rest : List (List Bool × T)) → All (λ e. length e.0 ≤ w) rest → kept ++ prefix_pairs back (filter (λ e. keep e.0) rest) ≡ prefix_pairs back (filter (λ e. keep e.0) (listing m))
          → item ∷ later ≡ prefix_pairs back rest → Next left kept item later
      by_rest [] short complete is = absurd (cc)
      by_rest (e ∷ rest) short complete is =
          let here : item ≡ (back e.0, e.1) = head item (back e.0, e.1) later (prefix_pairs back rest) is in
          let there : later ≡ prefix_pairs back rest = tail item (back e.0, e.1) later (prefix_pairs back rest) is in
          let fits = All-tail (λ e. length e.0 ≤ w) e rest short in
          let fits_here : length e.0 ≤ w = All-head (λ e. length e.0 ≤ w) e rest short in
          let same : keep (path item.0) ≡ keep e.0 = ap (λ x. keep (path x.0)) here ∙ ap keep (paths e.0 fits_here) in
          record {
            key = e.0;
            value = e.1;
            is = here;
            short = fits_here;
            taken = λ yes. record {
              rest = rest;
              short = fits;
              to_come = there;
              complete = append_assoc kept (item ∷ []) (prefix_pairs back (filter (λ e. keep e.0) rest)) ∙ ap (λ x. kept ++ x ∷ prefix_pairs back (filter (λ e. keep e.0) rest)) here
                  ∙ ap (λ b. kept ++ prefix_pairs back (cond b (e ∷ filter (λ e. keep e.0) rest) (filter (λ e. keep e.0) rest))) (sym yes ∙ same) ∙ complete;
            };
            left_out = λ no. record {
              rest = rest;
              short = fits;
              to_come = there;
              complete = ap (λ b. kept ++ prefix_pairs back (cond b (e ∷ filter (λ e. keep e.0) rest) (filter (λ e. keep e.0) rest))) (sym no ∙ same) ∙ complete;
            };
          }
        where
          head : (x y : P × T) (xs ys : List (P × T)) → x ∷ xs ≡ y ∷ ys → x ≡ y
          head x y xs ys e = cc

          tail : (x y : P × T) (xs ys : List (P × T)) → x ∷ xs ≡ y ∷ ys → xs ≡ ys
          tail x y xs ys e = cc

  pub kept_end : (left : List (P × T)) (kept : List (P × T)) → left ≡ [] → KeptSoFar left kept → kept ≡ prefix_pairs back (filter (λ e. keep e.0) (listing m))
  kept_end left kept none so_far =
      sym (append-nil kept) ∙ sym (ap (λ es. kept ++ prefix_pairs back (filter (λ e. keep e.0) es)) (no_rest so_far.rest (sym none ∙ so_far.to_come))) ∙ so_far.complete
    where
      no_rest : (rest : List (List Bool × T)) → [] ≡ prefix_pairs back rest → rest ≡ []
      no_rest [] e = refl
      no_rest (e ∷ rest) is = absurd (cc)

-- one more entry that is lent
pub push_lent : {P T : Type 0} (xs : List (P × Bor T)) (x : P × Bor T) → map lent_item (xs ++ x ∷ []) ≡ map lent_item xs ++ lent_item x ∷ []
push_lent xs x = map-append lent_item xs (x ∷ [])
