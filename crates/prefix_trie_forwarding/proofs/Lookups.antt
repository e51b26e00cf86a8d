-- The slots that a lookup reads exist.
use Rattle.std.proofs.Common.{◌≡◌, ℕ, ◌+◌, ◌*◌, ◌^◌, ◌<◌, ◌≤◌, Bool, List, length, ap, arith}
use Rattle.prefix_trie_forwarding.specs.Keys.{first_of}
use Rattle.prefix_trie_forwarding.specs.Walks.{AreSlots, slot_in, upper}
use Rattle.prefix_trie_forwarding.proofs.Reading.{first_address}
use Rattle.prefix_trie_forwarding.proofs.Walks.{slot_inside}

pub root_inside : (r levels groups size x : ℕ) (b : List Bool) → length b ≤ r + 8 * levels → x ≡ upper levels (first_of (r + 8 * levels) b) → size ≡ 2 ^ r + 256 * groups → x < size
root_inside r levels groups size x b fits at is = let ia = first_address b r levels fits in omega (arith, at, ia, is)

pub next_inside : (root groups size e x y q : ℕ) (s : ℕ → ℕ) → AreSlots groups s → e ≡ s x → 2147483648 ≤ e → y ≡ slot_in root e q → size ≡ root + 256 * groups → y < size
next_inside root groups size e x y q s are is group at size_is =
    let inside = slot_inside root groups s x q are (let h : 2147483648 ≤ e = group in omega (arith, is, h)) in
    let same : slot_in root e q ≡ slot_in root (s x) q = ap (λ e. slot_in root e q) is in
    omega (arith, at, same, inside, size_is)
