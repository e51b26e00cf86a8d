-- The slots follow the entries: answers, and the blocks that have groups.
use Rattle.std.proofs.Common.{◌≡◌, ◌∙◌, ℕ, ◌+◌, ◌-◌, ◌*◌, ◌/◌, ◌%◌, ◌^◌, ◌<◌, ◌≤◌, Bool, false, cond, nat_eq, List, ◌++◌, length, add-sub_of_le, add-zero, append_assoc, eqb-true, eq-eqb, slice_index, sym, ap, ap₂, subst, arith, length-append}
use Rattle.std.proofs.lemmas.List.{length-replicate, replicate-append-replicate, take-append-le}
use Rattle.std.proofs.lemmas.Nat.{mod_low, pow_pos, shl-shr, shl_below, shr_below}
use Rattle.prefix_trie_bits.specs.Begins.{begins-from-take, begins-take, same_bool}
use Rattle.prefix_trie_bits.specs.BitStrings.{digits-number, digits-shl, number-lt, number_of_digits, take-digits}
use Rattle.prefix_trie_bits.specs.Calls.Entries.{AreWithin}
use Rattle.prefix_trie_bits.specs.Model.Bits.{begins, digits, number, zeros}
use Rattle.prefix_trie_bits.specs.Model.Entries.{Entries}
use Rattle.prefix_trie_bits.specs.Model.Matches.{longest_match}
use Rattle.prefix_trie.specs.Laws.Lookups.{LookupLaws}
use Rattle.prefix_trie_forwarding.specs.Forwarding.{Follows, answer_of}
use Rattle.prefix_trie_forwarding.specs.Keys.{first_of}
use Rattle.prefix_trie_forwarding.specs.Walks.{IsAddress, IsChanged, IsSame, answer, upper}
use Rattle.prefix_trie_forwarding.specs.declared.hop.Hop.{Hop}
use Rattle.prefix_trie_forwarding.proofs.Matches.{same_match}
use Rattle.prefix_trie_forwarding.proofs.Reading.{digits_first, first_below}

-- ---- networks as numbers

module _ (w : ℕ) (s : List Bool) (fits : length s ≤ w) where
  size : length s + (w - length s) ≡ w
  size = add-sub_of_le fits

  first_number : first_of w s ≡ number s * 2 ^ (w - length s)
  first_number =
      let k = w - length s in
      ap number (ap (λ t. t ++ zeros (w - length s)) (sym (digits-number s)) ∙ sym (digits-shl (length s) (w - length s) (number s))) ∙
      number_of_digits (length s + (w - length s)) (number s * 2 ^ (w - length s)) (shl_below (number s) (length s) (w - length s) (number-lt s))

  first_upper : first_of w s / 2 ^ (w - length s) ≡ number s
  first_upper = ap (λ n. n / 2 ^ (w - length s)) first_number ∙ shl-shr (number s) (w - length s)

  -- the first number of a network ends in zeros
  pub first_aligned : first_of w s % 2 ^ (w - length s) ≡ 0
  first_aligned = ap (λ n. n % 2 ^ (w - length s)) first_number ∙ mod_whole (number s) (w - length s)
    where
      mod_whole : (n k : ℕ) → n * 2 ^ k % 2 ^ k ≡ 0
      mod_whole n k = ap (λ x. x % 2 ^ k) (sym (add-zero (n * 2 ^ k))) ∙ mod_low n k 0 (pow_pos k)

  -- an address is in a network if its number without the last bits is that of the network
  pub by_number : (a : ℕ) → a < 2 ^ w → nat_eq (a / 2 ^ (w - length s)) (first_of w s / 2 ^ (w - length s)) ≡ begins s (digits w a)
  by_number a small =
      let upper_is : number (digits (length s) (a / 2 ^ (w - length s))) ≡ a / 2 ^ (w - length s) =
      number_of_digits (length s) (a / 2 ^ (w - length s)) (shr_below a (length s) (w - length s) (subst (λ n. a < 2 ^ n) (sym size) small)) in
      let taken = take-digits (length s) w a fits in
      same_bool (nat_eq (a / 2 ^ (w - length s)) (first_of w s / 2 ^ (w - length s))) (begins s (digits w a))
      (λ e. (
      let same : a / 2 ^ (w - length s) ≡ number s = eqb-true _ _ e ∙ first_upper in
      begins-from-take s (digits w a) (length s) (taken ∙ ap (λ n. digits (length s) n) same ∙ digits-number s)))
      (λ e. eq-eqb _ _ (sym upper_is ∙ ap number (sym taken ∙ begins-take s (digits w a) e) ∙ sym first_upper))

-- zeros after a string do not change its first number
pub first_filled : (w n : ℕ) (s : List Bool) → length s + n ≤ w → first_of w (s ++ zeros n) ≡ first_of w s
first_filled w n s fits =
    let long : length (s ++ zeros n) ≡ length s + n = length-append s (zeros n) ∙ ap (λ k. length s + k) (length-replicate n false) in
    let rest : n + (w - length (s ++ zeros n)) ≡ w - length s = omega (arith, long, fits) in
    ap number (append_assoc s (zeros n) (zeros (w - length (s ++ zeros n))) ∙ ap (λ z. s ++ z) (replicate-append-replicate n (w - length (s ++ zeros n)) false ∙ ap zeros rest))

-- the addresses are the numbers of the width
pub as_address : (r levels a : ℕ) → a < 2 ^ (r + 8 * levels) → IsAddress (2 ^ r) levels a
unfolding upper
as_address r levels a small = shr_below a r (8 * levels) small

-- ---- answers

module _ (r levels : ℕ) (m : Entries Hop) (s t : List ℕ) (follows : Follows r levels s m) where
  pub follows_same : IsSame (2 ^ r) levels (slice_index s) (slice_index t) → Follows r levels t m
  follows_same same a small = same a (as_address r levels a small) ∙ follows a small

  -- a change of the answers to the addresses of a network is followed
  pub follows_changed : (n : Entries Hop) (p : List Bool) (f : ℕ → ℕ) → length p ≤ r + 8 * levels
      → IsChanged (2 ^ r) levels (first_of (r + 8 * levels) p) (r + 8 * levels - length p) f (slice_index s) (slice_index t)
      → ((q : List Bool) → answer_of (longest_match n q) ≡ cond (begins p q) (f (answer_of (longest_match m q))) (answer_of (longest_match m q)))
      → Follows r levels t n
  follows_changed n p f fits change match a small =
      let w = r + 8 * levels in
      let q = digits (r + 8 * levels) a in
      let was = follows a small in
      change a (as_address r levels a small) ∙
      ap₂ (λ (b : Bool) (e : ℕ). cond b (f e) e) (by_number (r + 8 * levels) p fits a small) was ∙
      sym (match (digits (r + 8 * levels) a))

-- the answer to an address is that of its longest match
pub follows_address : {P : Type 0} (laws : LookupLaws P Hop) (r levels : ℕ) (m : Entries Hop) (s : List ℕ) (b : List Bool) → Follows r levels s m → AreWithin (length b) m → length b ≤ r + 8 * levels
    → answer (2 ^ r) levels (slice_index s) (first_of (r + 8 * levels) b) ≡ answer_of (longest_match m b)
follows_address laws r levels m s b follows within fits =
    follows (first_of (r + 8 * levels) b) (first_below b (r + 8 * levels) fits) ∙
    ap (λ q. answer_of (longest_match m q)) (digits_first b (r + 8 * levels) fits) ∙
    ap answer_of (same_match laws m (b ++ zeros (r + 8 * levels - length b)) b (λ k stored. same_bool (begins k (b ++ zeros (r + 8 * levels - length b))) (begins k b)
    (λ h. begins-from-take k b (length k) (sym (take-append-le (length k) b (zeros (r + 8 * levels - length b)) (within k stored)) ∙ begins-take k (b ++ zeros (r + 8 * levels - length b)) h))
    (λ h. begins-from-take k (b ++ zeros (r + 8 * levels - length b)) (length k) (take-append-le (length k) b (zeros (r + 8 * levels - length b)) (within k stored) ∙ begins-take k b h))))
