-- The whole map is what is under the empty string: for `aggregate`.
use Rattle.std.proofs.Common.{◌≡◌, ◌∙◌, Bool, true, cond, List, [], ◌∷◌, filter, is_le, ap, sym, refl}
use Rattle.prefix_trie.specs.Terms.{Entries, listing, listing_cmp, listing_from}

module _ {X : Type 0} where
  from_first : (es : List (List Bool × X)) → es ≡ filter (λ e. is_le (listing_cmp [] e.0)) es
  from_first [] = refl
  from_first (x ∷ es) = ap (λ ys. x ∷ ys) (from_first es) ∙ sym (ap (λ b. cond b (x ∷ filter (λ e. is_le (listing_cmp [] e.0)) es) (filter (λ e. is_le (listing_cmp [] e.0)) es)) (is_first x.0))
    where
      is_first : (t : List Bool) → is_le (listing_cmp [] t) ≡ true
      is_first [] = refl
      is_first (b ∷ t) = refl

  -- all keys are at the empty string or after it
  pub all_from_root : (m : Entries X) → listing m ≡ listing_from m []
  all_from_root m = from_first (listing m)
