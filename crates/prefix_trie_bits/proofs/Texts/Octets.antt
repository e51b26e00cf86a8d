-- The text of an IPv4 network as its parts, and a byte in decimal as its digits: for `Display`.
use Rattle.std.proofs.Common.{◌≡◌, ℕ, ◌+◌, ◌-◌, ◌/◌, ◌%◌, ◌<◌, ◌≤◌, ◌^◌, List, [], ◌∷◌, ◌++◌, ◌∙◌, ap, sym, append_assoc, length, take, drop, length-drop, arith, codes, decimal, refl}
use Rattle.std.proofs.lemmas.Fmt.{decimal_digit, decimal_step}
use Rattle.std.proofs.lemmas.List.{take_all}
use Rattle.std.specs.Int.{w32, to_be_bytes}
use Rattle.std.specs.Net.Text.{ipv4_text}
use Rattle.prefix_trie_bits.specs.Texts.{ipv4_network_text}

module _ (rest : List ℕ) (n : ℕ) where
  pub one_digit : n < 10 → (48 + n % 10) ∷ rest ≡ decimal n ++ rest
  one_digit below =
      let same : n % 10 ≡ n = omega arith in
      ap (λ k. (48 + k) ∷ rest) same ∙ ap (λ digits. digits ++ rest) (sym (decimal_digit n below))

  -- the last of several digits
  last_digit : 10 ≤ n → n < 256 → decimal (n / 10) ++ ((48 + n % 10) ∷ rest) ≡ decimal n ++ rest
  last_digit least below =
      let small : n < 2 ^ 64 = omega arith in
      sym (append_assoc (decimal (n / 10)) ((48 + n % 10) ∷ []) rest) ∙ ap (λ digits. digits ++ rest) (sym (decimal_step n least small))

pub two_digits : (rest : List ℕ) (n : ℕ) → 10 ≤ n → n < 100 → (48 + n / 10 % 10) ∷ (48 + n % 10) ∷ rest ≡ decimal n ++ rest
two_digits rest n least below = one_digit ((48 + n % 10) ∷ rest) (n / 10) (omega arith) ∙ last_digit rest n least (omega arith)

pub three_digits : (rest : List ℕ) (n : ℕ) → 100 ≤ n → n < 256 → (48 + n / 100) ∷ (48 + n / 10 % 10) ∷ (48 + n % 10) ∷ rest ≡ decimal n ++ rest
three_digits rest n least below =
    let hundreds : n / 100 ≡ n / 10 / 10 % 10 = omega arith in
    ap (λ k. (48 + k) ∷ (48 + n / 10 % 10) ∷ (48 + n % 10) ∷ rest) hundreds
    ∙ two_digits ((48 + n % 10) ∷ rest) (n / 10) (omega arith) (omega arith) ∙ last_digit rest n (omega arith) below

-- the parts of a network, grouped from either end
pub grouped : (a b c d len : List ℕ) → a ++ (46 ∷ (b ++ (46 ∷ (c ++ (46 ∷ (d ++ (47 ∷ len))))))) ≡ a ++ codes "." ++ b ++ codes "." ++ c ++ codes "." ++ d ++ codes "/" ++ len
grouped a b c d len = simp (append_assoc) refl

-- what is read from the end of a buffer of 19 bytes is the text of a network
pub network_read : (read buffer octets : List ℕ) (start len : ℕ) (network : ℕ × ℕ) → length buffer ≡ 19
    → drop start buffer ≡ ipv4_text octets ++ codes "/" ++ decimal len → octets ≡ to_be_bytes w32 network.0 → len ≡ network.1
    → read ≡ take (19 - start) (drop start buffer) → read ≡ ipv4_network_text network
network_read read buffer octets start len network long written same_address same_len is =
    let rest : length (drop start buffer) ≤ 19 - start = omega (arith, length-drop start buffer, long) in
    is ∙ take_all (19 - start) (drop start buffer) rest ∙ written
    ∙ ap (λ o. ipv4_text o ++ codes "/" ++ decimal len) same_address ∙ ap (λ n. ipv4_text (to_be_bytes w32 network.0) ++ codes "/" ++ decimal n) same_len
