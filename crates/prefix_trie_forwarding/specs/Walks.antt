-- Slots in groups, and the walk of an address through them: a multibit trie of fixed strides, whose levels after the
-- first read a byte each. This project's own, after Gupta, Lin and McKeown, "Routing lookups in hardware at memory
-- access speeds", 1998.
-- A slot below 2^31 is an answer. Another one refers to a group of 256 slots. The first `root` slots are read by the
-- address without its last `levels` bytes, and those of a group by the next byte.
use Rattle.std.specs.Prelude.{◌≡◌, ◌≢◌, ◌⊎◌, ◌↔◌, ℕ, ◌+◌, ◌-◌, ◌*◌, ◌/◌, ◌%◌, ◌^◌, ◌<◌, ◌≤◌, cond, nat_lt, nat_le, nat_eq, List, length, slice_index}
use Rattle.std.proofs.Common.{zero, suc}

-- an address without its last k bytes
unfoldable pub upper : ℕ → ℕ → ℕ
upper k a = a / 2 ^ (8 * k)

-- the slot, in the group that e refers to, of an address that is q without its later bytes
abbrev pub slot_in : ℕ → ℕ → ℕ → ℕ
slot_in root e q = root + 256 * (e - 2147483648) + q % 256

-- the answer to an address from slot x on, with k bytes left
unfoldable pub value_from : ℕ → (ℕ → ℕ) → ℕ → ℕ → ℕ → ℕ
value_from root s a zero x = s x
value_from root s a (suc k) x = cond (nat_lt (s x) 2147483648) (s x) (value_from root s a k (slot_in root (s x) (upper k a)))

-- the answer to an address
abbrev pub answer : ℕ → ℕ → (ℕ → ℕ) → ℕ → ℕ
answer root levels s a = value_from root s a levels (upper levels a)

-- the addresses of the slots
abbrev pub IsAddress : ℕ → ℕ → ℕ → Type 0
IsAddress root levels a = upper levels a < root

-- after n steps the walk of an address is at slot x, with k bytes left
unfoldable pub Reaches : ℕ → ℕ → (ℕ → ℕ) → ℕ → ℕ → ℕ → ℕ → Type 0
Reaches root levels s a zero k x = (k ≡ levels) × (x ≡ upper levels a)
Reaches root levels s a (suc n) k x = (y : ℕ) × Reaches root levels s a n (suc k) y × (2147483648 ≤ s y) × (x ≡ slot_in root (s y) (upper k a))

-- the groups that slots refer to exist, and no two slots refer to one group
pub record AreSlots (groups : ℕ) (s : ℕ → ℕ) : Type 0 where
  pub inside : (x : ℕ) → 2147483648 ≤ s x → s x < 2147483648 + groups
  pub single : (x y : ℕ) → 2147483648 ≤ s x → s x ≡ s y → x ≡ y

-- groups that exist, to which no slot refers, each listed once
pub record AreFree (groups : ℕ) (s : ℕ → ℕ) (free : List ℕ) : Type 0 where
  pub known : (i : ℕ) → i < length free → slice_index free i < groups
  pub unused : (i x : ℕ) → i < length free → s x ≢ 2147483648 + slice_index free i
  pub apart : (i j : ℕ) → i < length free → j < length free → slice_index free i ≡ slice_index free j → i ≡ j

-- the walk of each address ends with an answer
abbrev pub HasValues : ℕ → ℕ → (ℕ → ℕ) → Type 0
HasValues root levels s = (a : ℕ) → IsAddress root levels a → answer root levels s a < 2147483648

-- the block of addresses that are an address but for their last bytes, k more than one of them, has a group
abbrev pub HasGroup : ℕ → ℕ → (ℕ → ℕ) → ℕ → ℕ → Type 0
HasGroup root levels s a k = (n : ℕ) × (x : ℕ) × Reaches root levels s a n (suc k) x × (2147483648 ≤ s x)

-- the slots that the walk of an address is at refer to groups, as long as more than so many bits are left
abbrev pub HasPath : ℕ → ℕ → (ℕ → ℕ) → ℕ → ℕ → Type 0
HasPath root levels s first bits = (n k x : ℕ) → Reaches root levels s first n k x → bits < 8 * k → 2147483648 ≤ s x

-- ---- changes

-- t differs from s between two slots at most
pub record AgreesOutside (low high : ℕ) (s t : ℕ → ℕ) : Type 0 where
  pub below : (x : ℕ) → x < low → t x ≡ s x
  pub above : (x : ℕ) → high ≤ x → t x ≡ s x

-- each address has the answer in t that it has in s
abbrev pub IsSame : ℕ → ℕ → (ℕ → ℕ) → (ℕ → ℕ) → Type 0
IsSame root levels s t = (a : ℕ) → IsAddress root levels a → answer root levels t a ≡ answer root levels s a

-- the same blocks have groups
abbrev pub KeepsGroups : ℕ → ℕ → (ℕ → ℕ) → (ℕ → ℕ) → Type 0
KeepsGroups root levels s t = (a k : ℕ) → IsAddress root levels a → HasGroup root levels t a k ↔ HasGroup root levels s a k

-- the blocks that have groups are those that had some and the one of b
abbrev pub GainsGroup : ℕ → ℕ → ℕ → ℕ → (ℕ → ℕ) → (ℕ → ℕ) → Type 0
GainsGroup root levels b j s t = (a k : ℕ) → IsAddress root levels a
    → HasGroup root levels t a k ↔ (HasGroup root levels s a k ⊎ ((k ≡ j) × (upper (suc k) a ≡ upper (suc k) b)))

-- the blocks that have groups are those that had some, without the one of b
abbrev pub LosesGroup : ℕ → ℕ → ℕ → ℕ → (ℕ → ℕ) → (ℕ → ℕ) → Type 0
LosesGroup root levels b j s t = (a k : ℕ) → IsAddress root levels a
    → HasGroup root levels t a k ↔ (HasGroup root levels s a k × ((k ≡ j) × (upper (suc k) a ≡ upper (suc k) b) → ⊥))

-- the blocks that have groups are those that had some and those that the addresses lie in that are b but for so many last
-- bits
abbrev pub GainsPath : ℕ → ℕ → ℕ → ℕ → (ℕ → ℕ) → (ℕ → ℕ) → Type 0
GainsPath root levels b bits s t = (a k : ℕ) → IsAddress root levels a
    → HasGroup root levels t a k ↔ (HasGroup root levels s a k ⊎ ((suc k ≤ levels) × (bits < 8 * suc k) × (upper (suc k) a ≡ upper (suc k) b)))

-- an answer from least to most becomes to
abbrev pub changed : ℕ → ℕ → ℕ → ℕ → ℕ
changed least most to e = cond (nat_le least e) (cond (nat_le e most) to e) e

-- the answers to the addresses that are b but for their last bits become what f says, and the others stay
abbrev pub IsChanged : ℕ → ℕ → ℕ → ℕ → (ℕ → ℕ) → (ℕ → ℕ) → (ℕ → ℕ) → Type 0
IsChanged root levels b bits f s t = (a : ℕ) → IsAddress root levels a
    → answer root levels t a ≡ cond (nat_eq (a / 2 ^ bits) (b / 2 ^ bits)) (f (answer root levels s a)) (answer root levels s a)

-- the slots from x on that the addresses read that agree with b but for their last 8 * k + d bits
pub record IsRun (root levels b n k d x : ℕ) (s : ℕ → ℕ) : Type 0 where
  pub reached : Reaches root levels s b n k x
  pub aligned : upper k b % 2 ^ d ≡ 0
  pub place : ((k ≡ levels) × (x + 2 ^ d ≤ root)) ⊎ ((suc k ≤ levels) × (d ≤ 8))

-- t has the groups of s, and each of its answers is that of s or what f says of it
pub record IsChangedBy (f : ℕ → ℕ) (s t : ℕ → ℕ) : Type 0 where
  pub groups : (x : ℕ) → 2147483648 ≤ s x → t x ≡ s x
  pub values : (x : ℕ) → s x < 2147483648 → (t x ≡ s x) ⊎ (t x ≡ f (s x))

-- x is one of `count` slots from `low` on, or in one of the groups below them, at most k levels down
unfoldable pub IsUnder : ℕ → (ℕ → ℕ) → ℕ → ℕ → ℕ → ℕ → Type 0
IsUnder root s zero low count x = (low ≤ x) × (x < low + count)
IsUnder root s (suc k) low count x =
    ((low ≤ x) × (x < low + count))
    ⊎ ((y : ℕ) × (low ≤ y) × (y < low + count) × (2147483648 ≤ s y) × IsUnder root s k (root + 256 * (s y - 2147483648)) 256 x)

-- the first slots, up to `to`, of a run from `low` on are changed, with the groups below them, k levels down
pub record AreChanged (root : ℕ) (f : ℕ → ℕ) (k low count : ℕ) (s t : ℕ → ℕ) (to : ℕ) : Type 0 where
  pub by : IsChangedBy f s t
  pub done : (a y : ℕ) → low ≤ y → y < to → value_from root s a k y < 2147483648 → value_from root t a k y ≡ f (value_from root s a k y)
  pub under : (x : ℕ) → (t x ≡ s x) ⊎ IsUnder root s k low count x
