-- The first byte that passes a test, as `memchr` finds it: for lines, and for bytes that a text has or not.
use Rattle.std.proofs.Common.{◌≡◌, ℕ, Bool, false, not, List, length, Option, None, Some, is_some, arith, sym, ap}
use Rattle.std.specs.Option.{unwrap_or}
use Rattle.std.specs.List.{list_any, position_or_len}
use Rattle.std.proofs.lemmas.Bool.{false_from_ne_true}
use Rattle.std.proofs.lemmas.List.Sums.{prefix_len_is}
use Rattle.std.proofs.lemmas.List.Folds.{list_any_at, list_any_none}
use Rattle.std.proofs.lemmas.List.Elements.{All-from_get_or}
use Rattle.memchr.specs.Find.{IsFirstByte}

module _ (test : ℕ → Bool) (bs : List ℕ) where
  -- its index, or the length if no byte passes
  pub first_or_length : (r : Option ℕ) → IsFirstByte test bs r → unwrap_or r (length bs) ≡ position_or_len test bs
  first_or_length None none = sym (prefix_len_is (λ b. not (test b)) bs (length bs) 0 (omega arith) (λ k less. ap not (false_from_ne_true _ (none k (omega arith) less))) (λ less. absurd (omega arith)))
  first_or_length (Some n) first = sym (prefix_len_is (λ b. not (test b)) bs n 0 (omega (arith, first.0.high)) (λ k less. ap not (false_from_ne_true _ (first.0.before k (omega arith) less))) (λ less. ap not first.1))

  -- whether there is one
  pub first_is_some : (r : Option ℕ) → IsFirstByte test bs r → is_some r ≡ list_any test bs
  first_is_some None none = sym (list_any_none test bs (All-from_get_or (λ b. test b ≡ false) bs 0 (λ k less. false_from_ne_true _ (none k (omega arith) less))))
  first_is_some (Some n) first = sym (list_any_at test bs n 0 first.0.high first.1)
