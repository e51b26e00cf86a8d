-- Tests on bit strings as tests on their chunks.
use Rattle.prefix_trie_table.proofs.Prelude.{◌≡◌, ℕ, ◌*◌, ◌%◌, ◌≤◌, Bool, true, List, [], ◌∷◌, ◌++◌, length, length-append, take, refl, sym, ap, ◌∙◌, subst, arith, take_at, drop_all, begins, same_bool, begins-take, begins-from-take, begins-length, same_string, value_bit, same_string-is, is-same_string, chunks_of, rest_of, bit_of, same_path, is_start}
use Rattle.std.proofs.lemmas.List.{length-take-le}
use Rattle.prefix_trie_table.proofs.Strings.SmallFacts.{five_times, fifths}
use Rattle.prefix_trie_table.proofs.Strings.Digits.{string_is, path-length, path-take, rest-is}
use Rattle.prefix_trie_table.proofs.Strings.Paths.{same_path-true, same_path-equal, snoc_inj}
use Rattle.prefix_trie_table.proofs.Strings.Beginnings.{is_start-is, is_start_take}

-- two strings are equal exactly if their chunks and their value bits are
pub same_key : (s t : List Bool) → same_string s t ≡ same_path (chunks_of s ++ bit_of s ∷ []) (chunks_of t ++ bit_of t ∷ [])
same_key s t = same_bool _ _
    (λ h. same_path-equal _ _ (ap (λ x. chunks_of x ++ bit_of x ∷ []) (same_string-is s t h)))
    (λ h. let e : (chunks_of s ≡ chunks_of t) × (bit_of s ≡ bit_of t) = snoc_inj _ _ _ _ (same_path-true _ _ h) in is-same_string s t (string_is s t e.0 e.1))

-- a node's string has no bits after its last chunk
pub no_rest : (s : List Bool) → length s % 5 ≡ 0 → rest_of s ≡ []
no_rest s h = rest-is s ∙ drop_all (5 * length (chunks_of s)) s (omega (arith, five_times (length s) (length (chunks_of s)) h (path-length s)))

-- two nodes' strings are equal if their chunks are
pub same_above : (s t : List Bool) → length s % 5 ≡ 0 → length t % 5 ≡ 0 → chunks_of s ≡ chunks_of t → s ≡ t
same_above s t h k e = string_is s t e (ap value_bit (no_rest s h ∙ sym (no_rest t k)))

-- a string begins with a node's string exactly if its chunks begin with the node's chunks
pub begins-search_path : (t s : List Bool) → length t % 5 ≡ 0 → is_start (chunks_of t) (chunks_of s) ≡ begins t s
begins-search_path t s h = same_bool _ _
    (λ e.
    let r = is_start-is (chunks_of t) (chunks_of s) e in
    let k : ℕ = length (chunks_of t) in
    let first : take k (chunks_of s) ≡ chunks_of t = ap (take k) r.1 ∙ take_at (chunks_of t) r.0 k refl in
    let five : 5 * k ≡ length t = sym (five_times (length t) k h (path-length t)) in
    let less : k ≤ length (chunks_of s) = omega (arith, ap length r.1, length-append (chunks_of t) r.0) in
    let within : 5 * k ≤ length s = fifths (length s) k (length (chunks_of s)) less (path-length s) in
    let long : length (take (5 * k) s) ≡ 5 * k = length-take-le (5 * k) s within in
    begins-from-take t s (5 * k) (same_above (take (5 * k) s) t (ap (λ n. n % 5) (long ∙ five) ∙ h) h (path-take k s within ∙ first)))
    (λ e.
    let k : ℕ = length (chunks_of t) in
    let five : 5 * k ≡ length t = sym (five_times (length t) k h (path-length t)) in
    let within : 5 * k ≤ length s = omega (arith, begins-length t s e, five) in
    let first : take k (chunks_of s) ≡ chunks_of t = sym (path-take k s within) ∙ ap (λ n. chunks_of (take n s)) five ∙ ap chunks_of (begins-take t s e) in
    subst (λ p. is_start p (chunks_of s) ≡ true) first (is_start_take k (chunks_of s)))
