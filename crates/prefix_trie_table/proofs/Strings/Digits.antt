-- What the chunks and the value bit of a bit string say about the string.
use Rattle.prefix_trie_table.proofs.Prelude.{◌≡◌, ℕ, zero, suc, ◌*◌, ◌/◌, ◌<◌, ◌≤◌, Bool, List, [], ◌∷◌, ◌++◌, length, take, drop, get_or, refl, sym, ap, ◌∙◌, subst, arith, ◌^◌, ◌%◌, length-drop, nil_from_length, value_bit, number, same-from-number, number-lt, value_bit-injective, value_bit-small, chunks_of, rest_of, bit_of}
use Rattle.std.proofs.lemmas.List.{length-take-le}

-- induction on a string by steps of five bits
pub by_steps : (P : List Bool → Type 0) → ((r : List Bool) → length r ≤ 4 → P r) → ((a b c d e : Bool) (s : List Bool) → P s → P (a ∷ b ∷ c ∷ d ∷ e ∷ s)) → (s : List Bool) → P s
by_steps P short step (a ∷ b ∷ c ∷ d ∷ e ∷ s) = step a b c d e s (by_steps P short step s)
by_steps P short step (a ∷ b ∷ c ∷ d ∷ []) = short (a ∷ b ∷ c ∷ d ∷ []) (omega arith)
by_steps P short step (a ∷ b ∷ c ∷ []) = short (a ∷ b ∷ c ∷ []) (omega arith)
by_steps P short step (a ∷ b ∷ []) = short (a ∷ b ∷ []) (omega arith)
by_steps P short step (a ∷ []) = short (a ∷ []) (omega arith)
by_steps P short step [] = short [] (omega arith)

pub short_path : (r : List Bool) → length r ≤ 4 → (chunks_of r ≡ []) × (rest_of r ≡ r)
short_path (a ∷ b ∷ c ∷ d ∷ e ∷ s) h = absurd (omega (arith, h))
short_path (a ∷ b ∷ c ∷ d ∷ []) h = (refl, refl)
short_path (a ∷ b ∷ c ∷ []) h = (refl, refl)
short_path (a ∷ b ∷ []) h = (refl, refl)
short_path (a ∷ []) h = (refl, refl)
short_path [] h = (refl, refl)

-- a string has one chunk for each five bits
pub path-length : (s : List Bool) → length (chunks_of s) ≡ length s / 5
path-length = by_steps (λ s. length (chunks_of s) ≡ length s / 5) (λ r h. let e = ap (λ p. length p) (short_path r h).0 in omega (arith, h, e)) (λ a b c d e s ih. omega (arith, ih))

five_more : (n : ℕ) → 5 * suc n ≡ suc (suc (suc (suc (suc (5 * n)))))
five_more n = omega arith

drop-five : (n : ℕ) (a b c d e : Bool) (s : List Bool) → drop (5 * suc n) (a ∷ b ∷ c ∷ d ∷ e ∷ s) ≡ drop (5 * n) s
drop-five n a b c d e s = ap (λ k. drop k (a ∷ b ∷ c ∷ d ∷ e ∷ s)) (five_more n)

take-five : (n : ℕ) (a b c d e : Bool) (s : List Bool) → take (5 * suc n) (a ∷ b ∷ c ∷ d ∷ e ∷ s) ≡ a ∷ b ∷ c ∷ d ∷ e ∷ take (5 * n) s
take-five n a b c d e s = ap (λ k. take k (a ∷ b ∷ c ∷ d ∷ e ∷ s)) (five_more n)

-- the rest is what is left when the chunks are dropped
pub rest-is : (s : List Bool) → rest_of s ≡ drop (5 * length (chunks_of s)) s
rest-is = by_steps (λ s. rest_of s ≡ drop (5 * length (chunks_of s)) s) (λ r h. (short_path r h).1 ∙ ap (λ p. drop (5 * length p) r) (sym (short_path r h).0))
    (λ a b c d e s ih. ih ∙ sym (drop-five (length (chunks_of s)) a b c d e s))

-- chunk k is the number of its five bits
pub step-is : (s : List Bool) (k : ℕ) → k < length (chunks_of s) → get_or (chunks_of s) k 0 ≡ number (take 5 (drop (5 * k) s))
step-is = by_steps (λ s. (k : ℕ) → k < length (chunks_of s) → get_or (chunks_of s) k 0 ≡ number (take 5 (drop (5 * k) s)))
    (λ r h k less. absurd (let e = ap (λ p. length p) (short_path r h).0 in omega (arith, e, less))) further
  where
    further : (a b c d e : Bool) (s : List Bool) → ((k : ℕ) → k < length (chunks_of s) → get_or (chunks_of s) k 0 ≡ number (take 5 (drop (5 * k) s))) → (k : ℕ) →
        k < suc (length (chunks_of s)) → get_or (number (a ∷ b ∷ c ∷ d ∷ e ∷ []) ∷ chunks_of s) k 0 ≡ number (take 5 (drop (5 * k) (a ∷ b ∷ c ∷ d ∷ e ∷ s)))
    further a b c d e s ih zero h = refl
    further a b c d e s ih (suc k) h = ih k (omega arith) ∙ ap (λ t. number (take 5 t)) (sym (drop-five k a b c d e s))

-- a chunk is below 32
pub step-small : (s : List Bool) (k : ℕ) → k < length (chunks_of s) → get_or (chunks_of s) k 0 < 32
step-small s k h = subst (λ n. n < 32) (sym (step-is s k h)) (subst (λ n. number (take 5 (drop (5 * k) s)) < 2 ^ n)
    (length-take-le 5 (drop (5 * k) s) (omega (arith, h, path-length s, length-drop (5 * k) s))) (number-lt (take 5 (drop (5 * k) s))))

-- the first chunks are those of a beginning of the string
pub path-take : (k : ℕ) (s : List Bool) → 5 * k ≤ length s → chunks_of (take (5 * k) s) ≡ take k (chunks_of s)
path-take zero s h = refl
path-take (suc k) (a ∷ b ∷ c ∷ d ∷ e ∷ s) h = ap chunks_of (take-five k a b c d e s) ∙ ap (λ p. number (a ∷ b ∷ c ∷ d ∷ e ∷ []) ∷ p) (path-take k s (omega arith))
path-take (suc k) (a ∷ b ∷ c ∷ d ∷ []) h = absurd (omega arith)
path-take (suc k) (a ∷ b ∷ c ∷ []) h = absurd (omega arith)
path-take (suc k) (a ∷ b ∷ []) h = absurd (omega arith)
path-take (suc k) (a ∷ []) h = absurd (omega arith)
path-take (suc k) [] h = absurd (omega arith)

-- the chunks and the value bit determine the string
pub string_is : (s t : List Bool) → chunks_of s ≡ chunks_of t → bit_of s ≡ bit_of t → s ≡ t
string_is (a ∷ b ∷ c ∷ d ∷ e ∷ s) (a2 ∷ b2 ∷ c2 ∷ d2 ∷ e2 ∷ t) p q =
    let steps : number (a ∷ b ∷ c ∷ d ∷ e ∷ []) ∷ chunks_of s ≡ number (a2 ∷ b2 ∷ c2 ∷ d2 ∷ e2 ∷ []) ∷ chunks_of t = p in
    let heads : number (a ∷ b ∷ c ∷ d ∷ e ∷ []) ≡ number (a2 ∷ b2 ∷ c2 ∷ d2 ∷ e2 ∷ []) = cc in
    let tails : chunks_of s ≡ chunks_of t = cc in
    let fives : ◌≡◌ {A = List Bool} (a ∷ b ∷ c ∷ d ∷ e ∷ []) (a2 ∷ b2 ∷ c2 ∷ d2 ∷ e2 ∷ []) = same-from-number _ _ refl heads in
    let rest : s ≡ t = string_is s t tails q in
    let joined : (a ∷ b ∷ c ∷ d ∷ e ∷ []) ++ s ≡ (a2 ∷ b2 ∷ c2 ∷ d2 ∷ e2 ∷ []) ++ t = (λ i. fives i ++ rest i) in joined
string_is (a ∷ b ∷ c ∷ d ∷ e ∷ s) t p q = absurd (let f : number (a ∷ b ∷ c ∷ d ∷ e ∷ []) ∷ chunks_of s ≡ [] = p in cc)
string_is s (a ∷ b ∷ c ∷ d ∷ e ∷ t) p q = absurd (let f : [] ≡ number (a ∷ b ∷ c ∷ d ∷ e ∷ []) ∷ chunks_of t = p in cc)
string_is s t p q = value_bit-injective s t q

-- a value bit is below 31
pub bit_of-small : (s : List Bool) → bit_of s < 31
bit_of-small = by_steps (λ s. bit_of s < 31) (λ r h. subst (λ x. value_bit x < 31) (sym (short_path r h).1) (value_bit-small r h)) (λ a b c d e s ih. ih)

pub five_path : (r : List Bool) → length r ≡ 5 → chunks_of r ≡ number r ∷ []
five_path = by_steps (λ r. length r ≡ 5 → chunks_of r ≡ number r ∷ []) (λ r h five. absurd (omega (arith, h, five)))
    (λ a b c d e s ih five. subst (λ t. chunks_of (a ∷ b ∷ c ∷ d ∷ e ∷ t) ≡ number (a ∷ b ∷ c ∷ d ∷ e ∷ t) ∷ []) (sym (nil_from_length s (omega (arith, five)))) refl)

-- appending a string to a node's string appends its chunks, and its rest is the rest
pub search_paths-append : (s t : List Bool) → length s % 5 ≡ 0 → (chunks_of (s ++ t) ≡ chunks_of s ++ chunks_of t) × (rest_of (s ++ t) ≡ rest_of t)
search_paths-append s t = by_steps (λ s. length s % 5 ≡ 0 → (chunks_of (s ++ t) ≡ chunks_of s ++ chunks_of t) × (rest_of (s ++ t) ≡ rest_of t))
    (λ r h whole. subst (λ x. (chunks_of (x ++ t) ≡ chunks_of x ++ chunks_of t) × (rest_of (x ++ t) ≡ rest_of t)) (sym (nil_from_length r (omega (arith, h, whole)))) (refl, refl))
    (λ a b c d e s ih whole. let more = ih (less (length s) whole) in (ap (λ p. number (a ∷ b ∷ c ∷ d ∷ e ∷ []) ∷ p) more.0, more.1)) s
  where
    less : (n : ℕ) → suc (suc (suc (suc (suc n)))) % 5 ≡ 0 → n % 5 ≡ 0
    less n h = omega (arith, h)

pub path-append : (s t : List Bool) → length s % 5 ≡ 0 → chunks_of (s ++ t) ≡ chunks_of s ++ chunks_of t
path-append s t h = (search_paths-append s t h).0
