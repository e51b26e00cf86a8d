-- What `parse` returns for a text, in each of its four cases: for `from_str` of networks.
use Rattle.std.proofs.Common.{◌≡◌, ◌≢◌, ℕ, ◌≤◌, List, [], ◌∷◌, ◌++◌, Option, Some, None, Ok, Err, decimal, Bor, refl, sym, ap, ◌∙◌, subst, arith, append_assoc}
use Rattle.std.proofs.lemmas.Str.Pattern.{IsSplitOnceResult, split_parts, split_once_first}
use Rattle.prefix_trie_bits.specs.Texts.{IsNetworkText, ParsesNetwork, before_slash, after_slash}
use Rattle.prefix_trie_bits.specs.declared.prefix.networks.text.ParseNetworkError.TheVariants.{MissingSlash, Address, Length}
use Rattle.prefix_trie_bits.proofs.Texts.Slashes.{Free, Free-from_get_or, same_cut, contains, contains_none}

module _ {A : Type 0} (Spells : List ℕ → A → Type 0) (bits : A → ℕ) (width : ℕ) (free : (front : List ℕ) (a : A) → Spells front a → Free front) (text : List ℕ) where
  pub spelled : (p : ℕ × ℕ) (h : IsNetworkText Spells bits width text p) → text ≡ h.front ++ 47 ∷ decimal p.1
  spelled p h = h.spelled ∙ append_assoc h.front (47 ∷ []) (decimal p.1)

  pub no_slash : (r : Option (Bor (List ℕ) × Bor (List ℕ))) → IsSplitOnceResult 47 text r → r ≡ None → ParsesNetwork Spells bits width text (Err MissingSlash)
  no_slash r split is =
      let none = rw is at (split_parts 47 text r split (omega arith)) in
      let without = contains_none text none in
      record { network = λ p h. without (contains text h.front _ (spelled p h)); reason = without }

  module _ (x : Bor (List ℕ) × Bor (List ℕ)) (split : IsSplitOnceResult 47 text (Some x)) where
    whole : text ≡ x.0.now ++ 47 ∷ x.1.now
    whole = (split_parts 47 text (Some x) split (omega arith)).0

    front_free : Free x.0.now
    front_free = Free-from_get_or _ (split_parts 47 text (Some x) split (omega arith)).1

    parts : (x.0.now ≡ before_slash Spells bits width text) × (x.1.now ≡ after_slash Spells bits width text)
    parts = let h = split_once_first 47 text (Some x) split (omega arith) in (h.1, h.2)

    -- the text before the first slash is the address, and the text after it is the length
    cut : (p : ℕ × ℕ) (h : IsNetworkText Spells bits width text p) → (x.0.now ≡ h.front) × (x.1.now ≡ decimal p.1)
    cut p h = same_cut _ _ _ _ front_free (free _ _ h.spells) (sym whole ∙ spelled p h)

    pub invalid_address : ((a : A) → ¬ (Spells x.0.now a)) → ParsesNetwork Spells bits width text (Err Address)
    invalid_address bad = record {
      network = λ p h. bad h.address (subst (λ t. Spells t h.address) (sym (cut p h).0) h.spells);
      reason = (contains text _ _ whole, subst (λ t. (a : A) → ¬ (Spells t a)) parts.0 bad);
    }

    pub invalid_length : (a : A) → Spells x.0.now a → ((n : ℕ) → n ≤ width → x.1.now ≢ decimal n) → ParsesNetwork Spells bits width text (Err Length)
    invalid_length a spells bad = record {
      network = λ p h. bad p.1 h.fits (cut p h).1;
      reason = (contains text _ _ whole, (a, subst (λ t. Spells t a) parts.0 spells), subst (λ t. (n : ℕ) → n ≤ width → t ≢ decimal n) parts.1 bad);
    }

    pub parsed : (a : A) (n : ℕ) → Spells x.0.now a → n ≤ width → x.1.now ≡ decimal n → ParsesNetwork Spells bits width text (Ok (bits a, n))
    parsed a n spells fits is = record {
      network = record {
        front = x.0.now;
        address = a;
        spelled = whole ∙ ap (λ t. x.0.now ++ 47 ∷ t) is ∙ sym (append_assoc x.0.now (47 ∷ []) (decimal n));
        spells = spells;
        value = refl;
        fits = fits;
      };
      reason = tt;
    }
