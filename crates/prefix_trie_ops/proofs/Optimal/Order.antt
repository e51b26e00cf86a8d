-- The listing order around a string and its two extensions by one bit: for the walk of `aggregate`.
use Rattle.std.proofs.Common.{◌≡◌, ◌≢◌, ◌&&◌, ◌++◌, not, Bool, true, false, true≢false, List, [], ◌∷◌, length, ap, sym, refl, arith, is_le, is_lt, length-append}
use Rattle.prefix_trie_bits.specs.Begins.{begins-append, begins-length, begins-trans}
use Rattle.prefix_trie_bits.specs.Model.Order.{listing_cmp}
use Rattle.prefix_trie_bits.specs.Model.Bits.{begins}

-- what is after a string is at or after its extension by 0
pub after_is_from : (s x : List Bool) → is_lt (listing_cmp s x) ≡ is_le (listing_cmp (s ++ false ∷ []) x)
after_is_from [] [] = refl
after_is_from [] (true ∷ x) = refl
after_is_from [] (false ∷ []) = refl
after_is_from [] (false ∷ b ∷ x) = refl
after_is_from (a ∷ s) [] = refl
after_is_from (true ∷ s) (true ∷ x) = after_is_from s x
after_is_from (false ∷ s) (false ∷ x) = after_is_from s x
after_is_from (true ∷ s) (false ∷ x) = refl
after_is_from (false ∷ s) (true ∷ x) = refl

-- what is after the extension by 0, and not under it, is at or after the extension by 1
pub past_left : (s x : List Bool) → (is_lt (listing_cmp (s ++ false ∷ []) x) && not (begins (s ++ false ∷ []) x)) ≡ is_le (listing_cmp (s ++ true ∷ []) x)
unfolding begins
past_left [] [] = refl
past_left [] (true ∷ []) = refl
past_left [] (true ∷ b ∷ x) = refl
past_left [] (false ∷ []) = refl
past_left [] (false ∷ b ∷ x) = refl
past_left (a ∷ s) [] = refl
past_left (true ∷ s) (true ∷ x) = past_left s x
past_left (false ∷ s) (false ∷ x) = past_left s x
past_left (true ∷ s) (false ∷ x) = refl
past_left (false ∷ s) (true ∷ x) = refl

-- what is after the extension by 1, and not under it, is after the string and not under it
pub past_right : (s x : List Bool) → (is_lt (listing_cmp (s ++ true ∷ []) x) && not (begins (s ++ true ∷ []) x)) ≡ (is_lt (listing_cmp s x) && not (begins s x))
unfolding begins
past_right [] [] = refl
past_right [] (true ∷ []) = refl
past_right [] (true ∷ b ∷ x) = refl
past_right [] (false ∷ x) = refl
past_right (a ∷ s) [] = refl
past_right (true ∷ s) (true ∷ x) = past_right s x
past_right (false ∷ s) (false ∷ x) = past_right s x
past_right (true ∷ s) (false ∷ x) = refl
past_right (false ∷ s) (true ∷ x) = refl

-- no string begins with both extensions
pub apart : (s t : List Bool) → begins (s ++ false ∷ []) t ≡ true → begins (s ++ true ∷ []) t ≡ true → ⊥
unfolding begins
apart [] (true ∷ t) l r = true≢false (sym l)
apart [] (false ∷ t) l r = true≢false (sym r)
apart [] [] l r = true≢false (sym l)
apart (a ∷ s) [] l r = true≢false (sym l)
apart (true ∷ s) (true ∷ t) l r = apart s t l r
apart (false ∷ s) (false ∷ t) l r = apart s t l r
apart (true ∷ s) (false ∷ t) l r = true≢false (sym l)
apart (false ∷ s) (true ∷ t) l r = true≢false (sym l)

-- what begins with an extension begins with the string
pub above : (s t : List Bool) (b : Bool) → begins (s ++ b ∷ []) t ≡ true → begins s t ≡ true
above s t b h = begins-trans s (s ++ b ∷ []) t (begins-append s (b ∷ [])) h

-- what begins with an extension is not the string
pub is_other : (s t : List Bool) (b : Bool) → begins (s ++ b ∷ []) t ≡ true → t ≢ s
is_other s t b h e =
    let long = ap length e in
    let within = begins-length (s ++ b ∷ []) t h in
    let more = length-append s (b ∷ []) in
    omega arith
