-- A walk over the networks of a length starts with all of them, stays within the addresses, and goes one network further.
use Rattle.std.proofs.Common.{◌≡◌, ℕ, suc, ◌+◌, ◌-◌, ◌*◌, ◌^◌, ◌<◌, ◌≤◌, [], ◌∷◌, ◌++◌, Some, refl, sym, ap, ◌∙◌, arith, pow_pos, take}
use Rattle.std.proofs.Math.Nat.{suc-mul}
use Rattle.std.proofs.lemmas.Nat.{pow-add}
use Rattle.prefix_trie_bits.specs.Model.Bits.{digits, zeros}
use Rattle.prefix_trie_bits.specs.Networks.{networks_from, networks_left, subnets_of}
use Rattle.prefix_trie_bits.proofs.Networks.Ends.{number_is, last_is}

-- the last network is left
pub last_left : (width len address more : ℕ) → more ≡ 0 → networks_left width len (Some address) more ≡ (address, len) ∷ []
unfolding networks_from
last_left width len address more none = ap (λ n. networks_from width len address (suc n)) none

-- after a network come the others
pub next_left : (width len address more : ℕ) → 0 < more
    → networks_left width len (Some address) more ≡ (address, len) ∷ networks_left width len (Some (address + 2 ^ (width - len))) (more - 1)
unfolding networks_from
next_left width len address more some =
    let one_more : more ≡ suc (more - 1) = omega arith in
    ap (λ n. networks_from width len address (suc n)) one_more

-- a walk from the lowest address on with 2 ^ (len - n) networks has all of them left, and ends within the addresses
pub first_left : (w v n len low more : ℕ) → n ≤ len → len ≤ w → v < 2 ^ w → low < 2 ^ w → digits w low ≡ take n (digits w v) ++ zeros (w - n) → more ≡ 2 ^ (len - n) - 1
    → (networks_left w len (Some low) more ≡ subnets_of w (v, n) len) × (low + more * 2 ^ (w - len) < 2 ^ w)
first_left w v n len low more longer within small fits bits is =
    let some : 0 < 2 ^ (len - n) = pow_pos (len - n) in
    let all : suc more ≡ 2 ^ (len - n) = omega (arith, is, some) in
    let split : w - n ≡ (len - n) + (w - len) = omega arith in
    let size : 2 ^ (w - n) ≡ more * 2 ^ (w - len) + 2 ^ (w - len) = ap (λ k. 2 ^ k) split ∙ pow-add 2 (len - n) (w - len) ∙ ap (λ k. k * 2 ^ (w - len)) (sym all) ∙ suc-mul more (2 ^ (w - len)) in
    let one : 0 < 2 ^ (w - len) = pow_pos (w - len) in
    let ends = (last_is w v n low (2 ^ (w - n) - 1) (omega arith) small fits bits refl).0 in
    let room : low + more * 2 ^ (w - len) < 2 ^ w = omega (arith, size, one, ends) in
    (λ i. networks_from w len (number_is w low _ fits bits i) (all i), room)

-- 2 ^ (w - (w - (len - n))) is 2 ^ (len - n)
pub shorter : (w n len : ℕ) → n ≤ len → len ≤ w → w - (w - (len - n)) ≡ len - n
shorter w n len longer within = omega (arith, longer, within)

-- the address after the end of a network
pub after_it : (w len address host : ℕ) → host ≡ 2 ^ (w - len) - 1 → address + 2 ^ (w - len) ≡ address + host + 1
after_it w len address host is =
    let some : 0 < 2 ^ (w - len) = pow_pos (w - len) in
    omega (arith, is, some)
