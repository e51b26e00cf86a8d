-- The number of an address and its bytes determine each other: for `text_laws`.
use Rattle.std.proofs.Common.{◌≡◌, ℕ, zero, suc, ◌-◌, ◌+◌, ◌*◌, ◌/◌, ◌%◌, ◌^◌, ◌<◌, List, [], ◌∷◌, length, get_or, refl, sym, ap, ◌∙◌, arith}
use Rattle.std.specs.Int.{w32, w128, to_be_bytes, from_be_bytes, bytes_high_first, byte_at}
use Rattle.std.specs.Net.Addr.{segments_of, octets_of, ipv4_bits, ipv6_bits}
use Rattle.std.proofs.lemmas.Nat.{from_be_bytes-to_be_bytes_4}

digits_sum : (q0 q1 q2 q3 q4 q5 q6 q7 q8 q9 q10 q11 q12 q13 q14 q15 r0 r1 r2 r3 r4 r5 r6 r7 r8 r9 r10 r11 r12 r13 r14 r15 : ℕ)
    → q0 ≡ q1 * 256 + r0
    → q1 ≡ q2 * 256 + r1
    → q2 ≡ q3 * 256 + r2
    → q3 ≡ q4 * 256 + r3
    → q4 ≡ q5 * 256 + r4
    → q5 ≡ q6 * 256 + r5
    → q6 ≡ q7 * 256 + r6
    → q7 ≡ q8 * 256 + r7
    → q8 ≡ q9 * 256 + r8
    → q9 ≡ q10 * 256 + r9
    → q10 ≡ q11 * 256 + r10
    → q11 ≡ q12 * 256 + r11
    → q12 ≡ q13 * 256 + r12
    → q13 ≡ q14 * 256 + r13
    → q14 ≡ q15 * 256 + r14
    → r15 ≡ q15
    → r15 * 256 ^ 15 + r14 * 256 ^ 14 + r13 * 256 ^ 13 + r12 * 256 ^ 12 + r11 * 256 ^ 11 + r10 * 256 ^ 10 + r9 * 256 ^ 9 + r8 * 256 ^ 8 + r7 * 256 ^ 7 + r6 * 256 ^ 6 + r5 * 256 ^ 5 + r4 * 256 ^ 4 + r3 * 256 ^ 3 + r2 * 256 ^ 2 + r1 * 256 ^ 1 + r0 ≡ q0
digits_sum q0 q1 q2 q3 q4 q5 q6 q7 q8 q9 q10 q11 q12 q13 q14 q15 r0 r1 r2 r3 r4 r5 r6 r7 r8 r9 r10 r11 r12 r13 r14 r15 h0 h1 h2 h3 h4 h5 h6 h7 h8 h9 h10 h11 h12 h13 h14 h15 = omega arith

-- the sixteen bytes of a number make the number again, where each byte is a remainder of a division by 256
pub from_be_bytes-to_be_bytes_16 : (n : ℕ) → n < 2 ^ 128 → from_be_bytes w128 (to_be_bytes w128 n) ≡ n
from_be_bytes-to_be_bytes_16 n fits =
    let s0 : n ≡ n / 256 * 256 + n % 256 = omega arith in
    let s1 : n / 256 ≡ n / 65536 * 256 + n / 256 % 256 = omega arith in
    let s2 : n / 65536 ≡ n / 16777216 * 256 + n / 65536 % 256 = omega arith in
    let s3 : n / 16777216 ≡ n / 4294967296 * 256 + n / 16777216 % 256 = omega arith in
    let s4 : n / 4294967296 ≡ n / 1099511627776 * 256 + n / 4294967296 % 256 = omega arith in
    let s5 : n / 1099511627776 ≡ n / 281474976710656 * 256 + n / 1099511627776 % 256 = omega arith in
    let s6 : n / 281474976710656 ≡ n / 72057594037927936 * 256 + n / 281474976710656 % 256 = omega arith in
    let s7 : n / 72057594037927936 ≡ n / 18446744073709551616 * 256 + n / 72057594037927936 % 256 = omega arith in
    let s8 : n / 18446744073709551616 ≡ n / 4722366482869645213696 * 256 + n / 18446744073709551616 % 256 = omega arith in
    let s9 : n / 4722366482869645213696 ≡ n / 1208925819614629174706176 * 256 + n / 4722366482869645213696 % 256 = omega arith in
    let s10 : n / 1208925819614629174706176 ≡ n / 309485009821345068724781056 * 256 + n / 1208925819614629174706176 % 256 = omega arith in
    let s11 : n / 309485009821345068724781056 ≡ n / 79228162514264337593543950336 * 256 + n / 309485009821345068724781056 % 256 = omega arith in
    let s12 : n / 79228162514264337593543950336 ≡ n / 20282409603651670423947251286016 * 256 + n / 79228162514264337593543950336 % 256 = omega arith in
    let s13 : n / 20282409603651670423947251286016 ≡ n / 5192296858534827628530496329220096 * 256 + n / 20282409603651670423947251286016 % 256 = omega arith in
    let s14 : n / 5192296858534827628530496329220096 ≡ n / 1329227995784915872903807060280344576 * 256 + n / 5192296858534827628530496329220096 % 256 = omega arith in
    let top : n / 1329227995784915872903807060280344576 % 256 ≡ n / 1329227995784915872903807060280344576 = omega arith in
    digits_sum n (n / 256) (n / 65536) (n / 16777216) (n / 4294967296) (n / 1099511627776) (n / 281474976710656) (n / 72057594037927936) (n / 18446744073709551616) (n / 4722366482869645213696) (n / 1208925819614629174706176) (n / 309485009821345068724781056) (n / 79228162514264337593543950336) (n / 20282409603651670423947251286016) (n / 5192296858534827628530496329220096) (n / 1329227995784915872903807060280344576)
    (n % 256) (n / 256 % 256) (n / 65536 % 256) (n / 16777216 % 256) (n / 4294967296 % 256) (n / 1099511627776 % 256) (n / 281474976710656 % 256) (n / 72057594037927936 % 256) (n / 18446744073709551616 % 256) (n / 4722366482869645213696 % 256) (n / 1208925819614629174706176 % 256) (n / 309485009821345068724781056 % 256) (n / 79228162514264337593543950336 % 256) (n / 20282409603651670423947251286016 % 256) (n / 5192296858534827628530496329220096 % 256) (n / 1329227995784915872903807060280344576 % 256)
    s0 s1 s2 s3 s4 s5 s6 s7 s8 s9 s10 s11 s12 s13 s14 top

-- each byte is below 256
pub bytes-below : (k n i : ℕ) → get_or (bytes_high_first k n) i 0 < 256
bytes-below zero n i = omega arith
bytes-below (suc k) n i =
    let later = bytes-below k n in
    elim i as (λ j. get_or (byte_at k n ∷ bytes_high_first k n) j 0 < 256) [ zero ↦ byte-below k n | suc j ↦ later j ]
  where
    byte-below : (k n : ℕ) → byte_at k n < 256
    byte-below zero n = omega arith
    byte-below (suc k) n = omega arith

-- the segments made of octets are below 2^16
pub segments-below : (bs : List ℕ) → ((i : ℕ) → get_or bs i 0 < 256) → (i : ℕ) → get_or (segments_of bs) i 0 < 2 ^ 16
segments-below [] h i = omega arith
segments-below (a ∷ []) h i = omega arith
segments-below (a ∷ b ∷ bs) h i =
    let later = segments-below bs (λ j. h (suc (suc j))) in
    let first : a * 256 + b < 2 ^ 16 = omega (arith, h 0, h 1) in
    elim i as (λ j. get_or ((a * 256 + b) ∷ segments_of bs) j 0 < 2 ^ 16) [ zero ↦ first | suc j ↦ later j ]

-- the octets of segments made of octets are these octets
pub octets-segments : (k : ℕ) (bs : List ℕ) → length bs ≡ k + k → ((i : ℕ) → get_or bs i 0 < 256) → octets_of (segments_of bs) ≡ bs
octets-segments k [] even h = refl
octets-segments k (a ∷ []) even h = absurd (omega (arith, even))
octets-segments k (a ∷ b ∷ bs) even h =
    let high : (a * 256 + b) / 256 ≡ a = omega (arith, h 1) in
    let low : (a * 256 + b) % 256 ≡ b = omega (arith, h 1) in
    let later = octets-segments (k - 1) bs (omega (arith, even)) (λ j. h (suc (suc j))) in
    rw (high, low, later) refl

-- a number is the number of the address with its bytes
pub bits_of_ipv4 : (n : ℕ) → n < 2 ^ 32 → n ≡ ipv4_bits (record { octets = to_be_bytes w32 n })
unfolding ipv4_bits
bits_of_ipv4 n fits = sym (from_be_bytes-to_be_bytes_4 n fits)

pub bits_of_ipv6 : (n : ℕ) → n < 2 ^ 128 → n ≡ ipv6_bits (record { segments = segments_of (to_be_bytes w128 n) })
unfolding ipv6_bits
bits_of_ipv6 n fits =
    sym (ap (λ t. from_be_bytes w128 t) (octets-segments 8 (to_be_bytes w128 n) refl (bytes-below 16 n)) ∙ from_be_bytes-to_be_bytes_16 n fits)
