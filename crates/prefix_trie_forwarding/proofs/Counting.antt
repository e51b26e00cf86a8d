-- Counting the blocks that have groups.
use Rattle.std.proofs.Common.{◌≡◌, ◌≢◌, ◌∙◌, ◌⊎◌, ℕ, suc, ◌+◌, ◌-◌, ◌*◌, ◌/◌, ◌^◌, ◌<◌, ◌≤◌, Bool, true, false, cond, List, [], ◌∷◌, length, Some, None, refl, sym, ap, subst, arith, inl, inr, pow-add}
use Rattle.std.specs.Cmp.{Equal-is}
use Rattle.std.specs.FinMap.{contains_key-keys, empty_of_len, entries, get, get-empty, get-insert, get-remove, insert, keys, len, len-entries, len-insert, len-remove, remove}
use Rattle.std.specs.Ordering.{eq_by_cmp, is_eq}
use Rattle.std.specs.List.{list_any}
use Rattle.std.specs.Prelude.{is_some, ◌||◌}
use Rattle.std.proofs.lemmas.List.{length-map}
use Rattle.std.proofs.lemmas.Bool.{cases_Bool, cases_eq, cond-true, cond-false, false≢true}
use Rattle.std.proofs.lemmas.Nat.{mod_below, pow_pos, row_fits, shr_below, shr_split}
use Rattle.prefix_trie_bits.specs.BitStrings.{length-digits, number_of_digits}
use Rattle.prefix_trie_bits.specs.Model.Bits.{digits, number}
use Rattle.prefix_trie_bits.specs.Model.Nodes.{Nodes, has_node}
use Rattle.prefix_trie_bits.specs.Model.Order.{listing_cmp}
use Rattle.prefix_trie_bits.specs.Order.{listing-refl, listing_same, listing_total}
use Rattle.prefix_trie_forwarding.specs.Counts.{IsCounted, block_of}
use Rattle.prefix_trie_forwarding.proofs.Linking.{has_group_same}
use Rattle.prefix_trie_forwarding.specs.Walks.{GainsGroup, HasGroup, IsAddress, KeepsGroups, LosesGroup, upper}

-- ---- a set with one string more or less

has_added : (n : Nodes) (p q : List Bool) → has_node (insert n p tt) q ≡ cond (eq_by_cmp listing_cmp q p) true (has_node n q)
has_added n p q = ap is_some (get-insert listing_total n p tt q) ∙ both (eq_by_cmp listing_cmp q p)
  where
    both : (b : Bool) → is_some (cond b (Some tt) (get n q)) ≡ cond b true (is_some (get n q))
    both true = refl
    both false = refl

has_removed : (n : Nodes) (p q : List Bool) → has_node (remove n p) q ≡ cond (eq_by_cmp listing_cmp q p) false (has_node n q)
has_removed n p q = ap is_some (get-remove listing_total n p q) ∙ both (eq_by_cmp listing_cmp q p)
  where
    both : (b : Bool) → is_some (cond b None (get n q)) ≡ cond b false (is_some (get n q))
    both true = refl
    both false = refl

pub same_or_not : (p q : List Bool) → ((eq_by_cmp listing_cmp q p ≡ true) × (q ≡ p)) ⊎ ((eq_by_cmp listing_cmp q p ≡ false) × (q ≢ p))
same_or_not p q = elim (cases_Bool (eq_by_cmp listing_cmp q p)) [
  | inl e ↦ inl (e, listing_same q p ((Equal-is (listing_cmp q p)).0 e))
  | inr e ↦ inr (e, λ same. false≢true (sym e ∙ ap (λ x. is_eq (listing_cmp q x)) (sym same) ∙ ap is_eq (listing-refl q)))
]

-- a set that has some size has a string
some_key : (n : Nodes) → 1 ≤ len n → (p : List Bool) × (has_node n p ≡ true)
some_key n some = first (keys n) refl
  where
    here : (k : List Bool) (ks : List (List Bool)) → list_any (eq_by_cmp listing_cmp k) (k ∷ ks) ≡ true
    here k ks = ap (λ b. b || list_any (eq_by_cmp listing_cmp k) ks) (ap is_eq (listing-refl k))

    first : (ks : List (List Bool)) → keys n ≡ ks → (p : List Bool) × (has_node n p ≡ true)
    first [] e = absurd (let l = sym (length-map (entries n) (λ e. e.0)) ∙ ap length e in let m = len-entries n in omega (arith, l, m, some))
    first (k ∷ ks) e = (k, contains_key-keys n k ∙ ap (list_any (eq_by_cmp listing_cmp k)) e ∙ here k ks)

-- ---- blocks

-- a number whose upper part is small is small
pub address_below : (a r k : ℕ) → a / 2 ^ k < 2 ^ r → a < 2 ^ (r + k)
address_below a r k small =
    let last = row_fits (a / 2 ^ k) (2 ^ k) (2 ^ r) (2 ^ k) small (let l : 2 ^ k ≤ 2 ^ k = omega arith in l) in
    omega (arith, shr_split a k, mod_below a (2 ^ k) (pow_pos k), last, pow-add 2 r k)

pub upper_whole : (levels a r : ℕ) → IsAddress (2 ^ r) levels a → a / 2 ^ (8 * levels) < 2 ^ r
unfolding upper
upper_whole levels a r ia = ia

module _ (r levels : ℕ) where
  block_small : (a k : ℕ) → IsAddress (2 ^ r) levels a → suc k ≤ levels → upper (suc k) a < 2 ^ (r + 8 * (levels - suc k))
  unfolding upper
  block_small a k ia more =
      let rest : 8 * levels ≡ 8 * suc k + 8 * (levels - suc k) = omega (arith, more) in
      let small : a / 2 ^ (8 * levels) < 2 ^ r = ia in
      let whole : a < 2 ^ (r + 8 * levels) = address_below a r (8 * levels) small in
      shr_below a (r + 8 * (levels - suc k)) (8 * suc k) (subst (λ n. a < 2 ^ n) (let e : r + 8 * levels ≡ r + 8 * (levels - suc k) + 8 * suc k = omega (arith, rest) in e) whole)

  -- a block is that of one level, and its addresses are the same but for the bytes left
  pub block_only : (a b k j : ℕ) → IsAddress (2 ^ r) levels a → IsAddress (2 ^ r) levels b → suc k ≤ levels → suc j ≤ levels → block_of r levels a k ≡ block_of r levels b j
      → (k ≡ j) × (upper (suc k) a ≡ upper (suc k) b)
  block_only a b k j ia ib more less e =
      let size = sym (length-digits (r + 8 * (levels - suc k)) (upper (suc k) a)) ∙ ap length e ∙ length-digits (r + 8 * (levels - suc j)) (upper (suc j) b) in
      let level : k ≡ j = omega (arith, size, more, less) in
      let here : block_of r levels a k ≡ block_of r levels b k = e ∙ ap (λ k. block_of r levels b k) (sym level) in (
        level,
        sym (number_of_digits (r + 8 * (levels - suc k)) (upper (suc k) a) (block_small a k ia more)) ∙ ap number here ∙
            number_of_digits (r + 8 * (levels - suc k)) (upper (suc k) b) (block_small b k ib more),
      )

  group_there : (s : ℕ → ℕ) (a b k j : ℕ) → (k ≡ j) × (upper (suc k) a ≡ upper (suc k) b) → HasGroup (2 ^ r) levels s a k → HasGroup (2 ^ r) levels s b j
  group_there s a b k j e h = subst (λ j. HasGroup (2 ^ r) levels s b j) e.0 (has_group_same (2 ^ r) levels s b a k (sym e.1) h)

  group_back : (s : ℕ → ℕ) (a b k j : ℕ) → (k ≡ j) × (upper (suc k) a ≡ upper (suc k) b) → HasGroup (2 ^ r) levels s b j → HasGroup (2 ^ r) levels s a k
  group_back s a b k j e h = has_group_same (2 ^ r) levels s a b k e.1 (subst (λ j. HasGroup (2 ^ r) levels s b j) (sym e.0) h)

  pub block_same : (a b k j : ℕ) → k ≡ j → upper (suc k) a ≡ upper (suc k) b → block_of r levels a k ≡ block_of r levels b j
  block_same a b k j e u = ap (λ n. digits (r + 8 * (levels - suc k)) n) u ∙ ap (λ k. block_of r levels b k) e

  -- a group more
  pub count_gained : (s t : ℕ → ℕ) (b j made : ℕ) (free rest : List ℕ) → IsAddress (2 ^ r) levels b → suc j ≤ levels → GainsGroup (2 ^ r) levels b j s t → (HasGroup (2 ^ r) levels s b j → ⊥)
      → length free ≡ length rest + 1 → IsCounted r levels made s free → IsCounted r levels made t rest
  count_gained s t b j made free rest ib less gain none shorter counted blocks has =
      let was = counted (remove blocks p) (record { each = λ a k ia more. (forth a k ia more, back a k ia more); only = only }) in
      let size = len-remove listing_total blocks p ∙ cond-true _ _ _ there in
      omega (arith, was, size, shorter, some)
    where
      p : List Bool
      p = block_of r levels b j

      there : has_node blocks p ≡ true
      there = (has.each b j ib less).1 ((gain b j ib).1 (inr (refl, refl)))

      some : 1 ≤ len blocks
      some = elim (cases_eq (len blocks) 0) [
        | inl e ↦ absurd (false≢true (sym (ap is_some (get-empty listing_cmp p)) ∙ ap (λ n. has_node n p) (sym (empty_of_len blocks e)) ∙ there))
        | inr ne ↦ omega (arith, ne)
      ]

      forth : (a k : ℕ) → IsAddress (2 ^ r) levels a → suc k ≤ levels → has_node (remove blocks p) (block_of r levels a k) ≡ true → HasGroup (2 ^ r) levels s a k
      forth a k ia more e = elim (same_or_not p (block_of r levels a k)) [
        | inl same ↦ absurd (false≢true (sym (has_removed blocks p (block_of r levels a k) ∙ cond-true _ _ _ same.0) ∙ e))
        | inr other ↦ elim ((gain a k ia).0 ((has.each a k ia more).0 (sym (has_removed blocks p (block_of r levels a k) ∙ cond-false _ _ _ other.0) ∙ e))) [
          | inl h ↦ h
          | inr q ↦ absurd (other.1 (block_same a b k j q.0 q.1))
        ]
      ]

      back : (a k : ℕ) → IsAddress (2 ^ r) levels a → suc k ≤ levels → HasGroup (2 ^ r) levels s a k → has_node (remove blocks p) (block_of r levels a k) ≡ true
      back a k ia more h = has_removed blocks p (block_of r levels a k) ∙ elim (same_or_not p (block_of r levels a k)) [
        | inl same ↦ absurd (none (group_there s a b k j (block_only a b k j ia ib more less same.1) h))
        | inr other ↦ cond-false _ _ _ other.0 ∙ (has.each a k ia more).1 ((gain a k ia).1 (inl h))
      ]

      only : (q : List Bool) → has_node (remove blocks p) q ≡ true → (a : ℕ) × (k : ℕ) × IsAddress (2 ^ r) levels a × (suc k ≤ levels) × (q ≡ block_of r levels a k)
      only q e = elim (same_or_not p q) [
        | inl same ↦ absurd (false≢true (sym (has_removed blocks p q ∙ cond-true _ _ _ same.0) ∙ e))
        | inr other ↦ has.only q (sym (has_removed blocks p q ∙ cond-false _ _ _ other.0) ∙ e)
      ]

  -- a group less
  pub count_lost : (s t : ℕ → ℕ) (b j made : ℕ) (free more : List ℕ) → IsAddress (2 ^ r) levels b → suc j ≤ levels → LosesGroup (2 ^ r) levels b j s t → HasGroup (2 ^ r) levels s b j
      → length more ≡ length free + 1 → IsCounted r levels made s free → IsCounted r levels made t more
  count_lost s t b j made free more ib less lose some longer counted blocks has =
      let was = counted (insert blocks p tt) (record { each = λ a k ia in_levels. (forth a k ia in_levels, back a k ia in_levels); only = only }) in
      let size = len-insert listing_total blocks p tt ∙ cond-false _ _ _ fresh in
      omega (arith, was, size, longer)
    where
      p : List Bool
      p = block_of r levels b j

      fresh : has_node blocks p ≡ false
      fresh = elim (cases_Bool (has_node blocks p)) [
        | inl e ↦ absurd (((lose b j ib).0 ((has.each b j ib less).0 e)).1 (refl, refl))
        | inr e ↦ e
      ]

      forth : (a k : ℕ) → IsAddress (2 ^ r) levels a → suc k ≤ levels → has_node (insert blocks p tt) (block_of r levels a k) ≡ true → HasGroup (2 ^ r) levels s a k
      forth a k ia in_levels e = elim (same_or_not p (block_of r levels a k)) [
        | inl same ↦ group_back s a b k j (block_only a b k j ia ib in_levels less same.1) some
        | inr other ↦ ((lose a k ia).0 ((has.each a k ia in_levels).0 (sym (has_added blocks p (block_of r levels a k) ∙ cond-false _ _ _ other.0) ∙ e))).0
      ]

      back : (a k : ℕ) → IsAddress (2 ^ r) levels a → suc k ≤ levels → HasGroup (2 ^ r) levels s a k → has_node (insert blocks p tt) (block_of r levels a k) ≡ true
      back a k ia in_levels h = has_added blocks p (block_of r levels a k) ∙ elim (same_or_not p (block_of r levels a k)) [
        | inl same ↦ cond-true _ _ _ same.0
        | inr other ↦ cond-false _ _ _ other.0 ∙ (has.each a k ia in_levels).1 ((lose a k ia).1 (h, λ q. other.1 (block_same a b k j q.0 q.1)))
      ]

      only : (q : List Bool) → has_node (insert blocks p tt) q ≡ true → (a : ℕ) × (k : ℕ) × IsAddress (2 ^ r) levels a × (suc k ≤ levels) × (q ≡ block_of r levels a k)
      only q e = elim (same_or_not p q) [
        | inl same ↦ (b, j, ib, less, same.1)
        | inr other ↦ has.only q (sym (has_added blocks p q ∙ cond-false _ _ _ other.0) ∙ e)
      ]

  -- no groups
  pub count_none : (s : ℕ → ℕ) → ((a k : ℕ) → IsAddress (2 ^ r) levels a → HasGroup (2 ^ r) levels s a k → ⊥) → IsCounted r levels 0 s []
  count_none s none blocks has = elim (cases_eq (len blocks) 0) [
    | inl e ↦ omega (arith, e)
    | inr ne ↦ absurd (let q = some_key blocks (omega (arith, ne)) in let w = has.only q.0 q.1 in none w.0 w.1 w.2 ((has.each w.0 w.1 w.2 w.3).0 (ap (has_node blocks) (sym w.4) ∙ q.1)))
  ]

  -- the same groups
  pub count_kept : (s t : ℕ → ℕ) (made made_then : ℕ) (free free_then : List ℕ) → KeepsGroups (2 ^ r) levels s t → made_then + length free ≡ made + length free_then → IsCounted r levels made s free → IsCounted r levels made_then t free_then
  count_kept s t made made_then free free_then keeps as_many counted blocks has =
      let was = counted blocks (record { each = λ a k ia more. ((λ e. (keeps a k ia).0 ((has.each a k ia more).0 e)), (λ h. (has.each a k ia more).1 ((keeps a k ia).1 h))); only = has.only }) in
      omega (arith, was, as_many)
