-- Where the first addresses of ranges are kept: whole, or as their upper 64 bits. This project's own.
use Rattle.std.specs.Prelude.{ℕ, ◌-◌, ◌*◌, ◌^◌, ◌≤◌, List, [], ◌∷◌, map, Option, None, ⊤}
use Rattle.prefix_trie_fib.specs.declared.compact.Layout.{Layout}
use Rattle.prefix_trie_fib.specs.declared.compact.Layout.TheVariants.{Empty, Upper, Whole}

-- ranges whose first addresses are given by their upper 64 bits
abbrev pub widened : {V : Type 0} → ℕ → List (ℕ × V) → List (ℕ × V)
widened width rs = map (λ r. (r.0 * 2 ^ (width - 64), r.1)) rs

module _ {K T A : Type 0} where
  -- the ranges that a layout keeps
  abbrev pub ranges_in : ℕ → Layout K T A → List (ℕ × Option T)
  ranges_in width Empty = (0, None) ∷ []
  ranges_in width (Whole rs) = rs
  ranges_in width (Upper rs) = widened width rs

  -- addresses have an upper half if it is kept
  abbrev pub HasUpperHalf : ℕ → Layout K T A → Type 0
  HasUpperHalf width Empty = ⊤
  HasUpperHalf width (Whole rs) = ⊤
  HasUpperHalf width (Upper rs) = 64 ≤ width
