-- Each entry of the mask tables is right: a test over the whole table is computed, and shows what each entry holds.
use Rattle.prefix_trie_bits.proofs.Prelude.{◌≡◌, ℕ, zero, suc, ◌+◌, ◌*◌, ◌/◌, ◌%◌, ◌<◌, ◌≤◌, Bool, true, ◌||◌, ◌&&◌, not, nat_eq, nat_lt, ltb-true, List, [], ◌∷◌, length, take, refl, subst, ◌∙◌, arith, get_or, beq, number, digits, begins, has, value_bit, strings, is_in, is_before, HoldsValues, HoldsChildren, HoldsPlaces, HoldsPositions, MATCHES, VALUES_COVERED, CHILDREN_COVERED, FROM_VALUE, AFTER_CHILD, NOT_BELOW}
use Rattle.prefix_trie_bits.proofs.Checks.{below, each, at_below, at_string, both, same}
use Rattle.prefix_trie_bits.proofs.Ranks.{has-low, has-suc}

-- ---- the tests of masks

unfoldable values_hold : ℕ → (List Bool → Bool) → Bool
values_hold mask test = nat_lt mask 2147483648 && each (λ s. beq (has mask (value_bit s)) (test s)) (strings 4)

values-held : (mask : ℕ) (test : List Bool → Bool) → values_hold mask test ≡ true → HoldsValues mask test
unfolding values_hold
values-held mask test h =
    let b = both (nat_lt mask 2147483648) _ h in
    record {
      bits = λ s l. same _ _ (at_string 4 (λ t. beq (has mask (value_bit t)) (test t)) b.1 s l);
      small = ltb-true mask 2147483648 b.0;
    }

unfoldable children_hold : ℕ → (List Bool → Bool) → Bool
children_hold mask test = each (λ s. not (nat_eq (length s) 5) || beq (has mask (number s)) (test s)) (strings 5)

of-five : (n : ℕ) (x : Bool) → n ≡ 5 → (not (nat_eq n 5) || x) ≡ true → x ≡ true
of-five n x e h = (rw e at h)

children-held : (mask : ℕ) (test : List Bool → Bool) → children_hold mask test ≡ true → HoldsChildren mask test
unfolding children_hold
children-held mask test h s l =
    same _ _
    (of-five (length s) _ l
    (at_string 5 (λ t. not (nat_eq (length t) 5) || beq (has mask (number t)) (test t)) h s (omega arith)))

unfoldable places_hold : ℕ → ℕ → (List Bool → Bool) → Bool
places_hold values children test = nat_lt values 2147483648 && each (λ s. beq (is_in values children s) (test s)) (strings 5)

places-held : (values children : ℕ) (test : List Bool → Bool) → places_hold values children test ≡ true → HoldsPlaces values children test
unfolding places_hold
places-held values children test h =
    let b = both (nat_lt values 2147483648) _ h in
    record {
      bits = λ s l. same _ _ (at_string 5 (λ t. beq (is_in values children t) (test t)) b.1 s l);
      small = ltb-true values 2147483648 b.0;
    }

-- ---- the tables of masks: five levels of sixteen

unfoldable rows : (ℕ → ℕ → Bool) → Bool
rows test = below (λ level. below (test level) 16) 5

at_row : (test : ℕ → ℕ → Bool) → rows test ≡ true → (level pos : ℕ) → level ≤ 4 → pos < 16 → test level pos ≡ true
unfolding rows
at_row test h level pos l p =
    at_below (test level) 16 (at_below (λ k. below (test k) 16) 5 h level (omega arith)) pos p

unfoldable match_test : ℕ → ℕ → Bool
match_test level pos = values_hold (get_or MATCHES (16 * level + pos) 0) (λ s. begins s (take level (digits 4 pos)))

pub match-entry : (level pos : ℕ) → level ≤ 4 → pos < 16 → HoldsValues (get_or MATCHES (16 * level + pos) 0) (λ s. begins s (take level (digits 4 pos)))
unfolding rows below match_test values_hold each strings begins digits number
match-entry level pos l p = values-held _ _ (at_row match_test refl level pos l p)

unfoldable value_cover_test : ℕ → ℕ → Bool
value_cover_test level pos = values_hold (get_or VALUES_COVERED (16 * level + pos) 0) (begins (take level (digits 4 pos)))

pub value-cover-entry : (level pos : ℕ) → level ≤ 4 → pos < 16 → HoldsValues (get_or VALUES_COVERED (16 * level + pos) 0) (begins (take level (digits 4 pos)))
unfolding rows below value_cover_test values_hold each strings begins digits number
value-cover-entry level pos l p =
    values-held _ _ (at_row value_cover_test refl level pos l p)

unfoldable child_cover_test : ℕ → ℕ → Bool
child_cover_test level pos = children_hold (get_or CHILDREN_COVERED (16 * level + pos) 0) (begins (take level (digits 4 pos)))

pub child-cover-entry : (level pos : ℕ) → level ≤ 4 → pos < 16 → HoldsChildren (get_or CHILDREN_COVERED (16 * level + pos) 0) (begins (take level (digits 4 pos)))
unfolding rows below child_cover_test children_hold each strings begins digits number
child-cover-entry level pos l p =
    children-held _ _ (at_row child_cover_test refl level pos l p)

-- ---- from a value bit on, and after a child bit

unfoldable from_value_test : List Bool → Bool
from_value_test t = places_hold (get_or FROM_VALUE (value_bit t) (0, 0)).0 (get_or FROM_VALUE (value_bit t) (0, 0)).1 (λ s. not (is_before s t))

pub from-value-entry : (b : ℕ) (t : List Bool) → length t ≤ 4 → value_bit t ≡ b → HoldsPlaces (get_or FROM_VALUE b (0, 0)).0 (get_or FROM_VALUE b (0, 0)).1 (λ s. not (is_before s t))
unfolding from_value_test places_hold each strings number
from-value-entry b t l e =
    subst (λ k. HoldsPlaces (get_or FROM_VALUE k (0, 0)).0 (get_or FROM_VALUE k (0, 0)).1 (λ s. not (is_before s t))) e
    (places-held _ _ _ (at_string 4 from_value_test refl t l))

unfoldable after_child_test : List Bool → Bool
after_child_test t = not (nat_eq (length t) 5) || places_hold (get_or AFTER_CHILD (number t) (0, 0)).0 (get_or AFTER_CHILD (number t) (0, 0)).1 (is_before t)

pub after-child-entry : (b : ℕ) (t : List Bool) → length t ≡ 5 → number t ≡ b → HoldsPlaces (get_or AFTER_CHILD b (0, 0)).0 (get_or AFTER_CHILD b (0, 0)).1 (is_before t)
unfolding after_child_test places_hold each strings number
after-child-entry b t l e =
    subst (λ k. HoldsPlaces (get_or AFTER_CHILD k (0, 0)).0 (get_or AFTER_CHILD k (0, 0)).1 (is_before t)) e
    (places-held _ _ _ (of-five (length t) _ l (at_string 5 after_child_test refl t (omega arith))))

-- ---- what a value bit's string does not begin

-- whether the bits of a mask, the lowest first, are the results of a test
unfoldable bits_hold : ℕ → (List Bool → Bool) → List (List Bool) → Bool
bits_hold mask test [] = true
bits_hold mask test (s ∷ ss) = beq (nat_eq (mask % 2) 1) (test s) && bits_hold (mask / 2) test ss

bits-held : (mask : ℕ) (test : List Bool → Bool) (ss : List (List Bool)) → bits_hold mask test ss ≡ true → (i : ℕ) → i < length ss → has mask i ≡ test (get_or ss i [])
unfolding bits_hold
bits-held mask test [] h i l = absurd (omega arith)
bits-held mask test (s ∷ ss) h zero l = has-low mask ∙ same _ _ (both _ _ h).0
bits-held mask test (s ∷ ss) h (suc i) l = has-suc mask i ∙ bits-held (mask / 2) test ss (both _ _ h).1 i (omega arith)

unfoldable not_below_test : List Bool → Bool
not_below_test t = bits_hold (get_or NOT_BELOW (value_bit t) 0) (λ s. not (begins t s)) (strings 5)

pub not-below-entry : (b : ℕ) (t : List Bool) → length t ≤ 4 → value_bit t ≡ b → HoldsPositions (get_or NOT_BELOW b 0) (λ s. not (begins t s))
unfolding not_below_test bits_hold each strings begins number
not-below-entry b t l e =
    subst (λ k. HoldsPositions (get_or NOT_BELOW k 0) (λ s. not (begins t s))) e
    (bits-held (get_or NOT_BELOW (value_bit t) 0) (λ s. not (begins t s)) (strings 5) (at_string 4 not_below_test refl t l))
