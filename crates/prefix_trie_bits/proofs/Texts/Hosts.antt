-- What `parse_host` returns for a text without a slash.
use Rattle.std.proofs.Common.{◌≡◌, ℕ, List, Option, Some, None, Ok, Err, Contains, Bor, is_some, false, true≢false, refl, arith}
use Rattle.std.proofs.lemmas.Str.Pattern.{IsSplitOnceResult, split_parts}
use Rattle.prefix_trie_bits.specs.Texts.{ParsesHost}
use Rattle.prefix_trie_bits.specs.declared.prefix.networks.text.ParseNetworkError.TheVariants.{Address}
use Rattle.prefix_trie_bits.proofs.Texts.Slashes.{contains_none}

no_slash : (text : List ℕ) (r : Option (Bor (List ℕ) × Bor (List ℕ))) → IsSplitOnceResult 47 text r → is_some r ≡ false → ¬ (Contains text 47)
no_slash text (Some x) split is = absurd (true≢false is)
no_slash text None split is = contains_none text (split_parts 47 text None split (omega arith))

module _ {A : Type 0} (Spells : List ℕ → A → Type 0) (bits : A → ℕ) (width : ℕ) (text : List ℕ)
    (r : Option (Bor (List ℕ) × Bor (List ℕ))) (split : IsSplitOnceResult 47 text r) where
  -- the network of the address, or an error if the text is no address
  pub as_host : is_some r ≡ false → (a : A) → Spells text a → ParsesHost Spells bits width text (Ok (bits a, width))
  as_host is a spells = record { with_slash = λ slash. absurd (no_slash text r split is slash); without_slash = λ _. (a, spells, refl) }

  pub as_none : is_some r ≡ false → ((a : A) → ¬ (Spells text a)) → ParsesHost Spells bits width text (Err Address)
  as_none is none = record { with_slash = λ slash. absurd (no_slash text r split is slash); without_slash = λ _. (refl, none) }
