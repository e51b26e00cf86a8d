-- Two maps that `==` finds equal have the same entries. This project's own.
use Rattle.std.specs.Prelude.{◌≡◌, ◌↔◌, ℕ, ◌&&◌, Bool, true, List}
use Rattle.std.specs.Cmp.Lexicographic.{pointwise}
use Rattle.prefix_trie_bits.specs.Model.Entries.{Entries}
use Rattle.prefix_trie_bits.specs.Calls.Entries.{AreWithin}
use Rattle.prefix_trie_bits.specs.Model.Selections.{listing, prefix_pairs}

-- if `==` of prefixes and of values decides whether they are the same, `==` of maps decides whether their entries are
-- No key is longer than the width, as in every map.
pub record EqualLaws {P : Type 0} (T : Type 0) (width : ℕ) (back : List Bool → P) : Type 0 where
  pub same : (eq_prefix : P → P → Bool) (eq_value : T → T → Bool) → ((p q : P) → (eq_prefix p q ≡ true) ↔ (p ≡ q)) → ((v w : T) → (eq_value v w ≡ true) ↔ (v ≡ w))
      → (m n : Entries T) → AreWithin width m → AreWithin width n
      → (pointwise (λ x y. eq_prefix x.0 y.0 && eq_value x.1 y.1) (prefix_pairs back (listing m)) (prefix_pairs back (listing n)) ≡ true) ↔ (m ≡ n)
