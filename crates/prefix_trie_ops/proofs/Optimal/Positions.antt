-- What the tests on the next entry say about the walk, and what is left after it is taken: for `aggregate`.
use Rattle.std.proofs.Common.{◌≡◌, ◌∙◌, ◌+◌, ◌<◌, ◌++◌, ◌&&◌, nat_lt, Bool, true, false, true≢false, cond, List, [], ◌∷◌, ℕ, length, take, Some, None, Less, Equal, Greater, is_eq, ap, sym, subst, refl, arith, length-append}
use Rattle.std.proofs.lemmas.List.{take_at}
use Rattle.prefix_trie_bits.specs.Begins.{begins-refl}
use Rattle.prefix_trie_bits.specs.Model.Bits.{digits}
use Rattle.prefix_trie_bits.specs.Order.{listing-refl, listing_same}
use Rattle.prefix_trie.specs.Terms.{begins, listing_cmp}
use Rattle.prefix_trie_ops.specs.Optimal.{first_value_at, is_first_below, items_after}
use Rattle.prefix_trie_ops.proofs.Covers.{no_shorter}

-- a string that s does not begin is not s
pub not_begun : (s t : List Bool) → begins s t ≡ false → is_eq (listing_cmp s t) ≡ false
not_begun s t off = elim (listing_cmp s t) as (λ o. listing_cmp s t ≡ o → is_eq o ≡ false) [
  | Less ↦ λ _. refl
  | Equal ↦ λ l. absurd (true≢false (sym (begins-refl s) ∙ ap (begins s) (listing_same s t l) ∙ off))
  | Greater ↦ λ _. refl
] refl

-- a longer string is not s
pub longer : (s t : List Bool) → length s < length t → is_eq (listing_cmp s t) ≡ false
longer s t less = elim (listing_cmp s t) as (λ o. listing_cmp s t ≡ o → is_eq o ≡ false) [
  | Less ↦ λ _. refl
  | Equal ↦ λ l. let same = ap length (listing_same s t l) in absurd (omega arith)
  | Greater ↦ λ _. refl
] refl

-- a string that s begins, and that is not longer, is s
pub begun : (s t : List Bool) → begins s t ≡ true → nat_lt (length s) (length t) ≡ false → is_eq (listing_cmp s t) ≡ true
begun s t b n = subst (λ x. is_eq (listing_cmp s x) ≡ true) (no_shorter s t b n) (ap is_eq (listing-refl s))

module _ {P T' : Type 0} (path : P → List Bool) (s : List Bool) (es rest : List (P × T')) (e : P × T') (is : es ≡ e ∷ rest) where
  pub other_value : is_eq (listing_cmp s (path e.0)) ≡ false → first_value_at path s es ≡ None
  other_value off = ap (first_value_at path s) is ∙ ap (λ b. cond b (Some e.1) None) off

  pub other_items : is_eq (listing_cmp s (path e.0)) ≡ false → items_after path s es ≡ es
  other_items off = ap (items_after path s) is ∙ ap (λ b. cond b rest (e ∷ rest)) off ∙ sym is

  pub taken_value : is_eq (listing_cmp s (path e.0)) ≡ true → first_value_at path s es ≡ Some e.1
  taken_value at = ap (first_value_at path s) is ∙ ap (λ b. cond b (Some e.1) None) at

  pub taken_items : is_eq (listing_cmp s (path e.0)) ≡ true → items_after path s es ≡ rest
  taken_items at = ap (items_after path s) is ∙ ap (λ b. cond b rest (e ∷ rest)) at

  pub is_below : nat_lt (length s) (length (path e.0)) ≡ true → begins s (path e.0) ≡ true → is_first_below path s es ≡ true
  is_below l b = ap (is_first_below path s) is ∙ ap (λ n. n && begins s (path e.0)) l ∙ b

-- the path of a half is the path with one bit more
pub half_path : (path whole : List Bool) (longer bits rest : List Bool) (n : ℕ) (tail : List Bool) → path ≡ take n whole → length path ≡ n → length tail ≡ 1
    → bits ≡ take n whole ++ tail ++ rest → longer ≡ take (n + 1) bits → longer ≡ path ++ tail
half_path path whole longer bits rest n tail is l one b long =
    let short : length (path ++ tail) ≡ n + 1 = length-append path tail ∙ ap (λ k. length path + k) one ∙ ap (λ k. k + 1) l in
    long ∙ ap (take (n + 1)) (b ∙ ap (λ a. a ++ tail ++ rest) (sym is)) ∙ take_at (path ++ tail) rest (n + 1) short

pub one_digit : (n : ℕ) → length (digits 1 n) ≡ 1
unfolding digits
one_digit n = refl

pub lower_half : digits 1 0 ≡ false ∷ []
unfolding digits
lower_half = refl

pub upper_half : digits 1 1 ≡ true ∷ []
unfolding digits
upper_half = refl
