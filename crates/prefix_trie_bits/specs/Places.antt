-- The places of a node of a tree bitmap (Eatherton, Dittia and Varghese): strings of at most five
-- bits under its own string.
-- The numbers of the bits are those of the Rust crate.
use Rattle.std.specs.Prelude.{◌≡◌, ◌≢◌, ℕ, zero, suc, ◌+◌, ◌-◌, ◌/◌, ◌%◌, ◌^◌, ◌<◌, ◌≤◌, Bool, true, false, cond, nat_lt, ◌==◌, List, [], ◌∷◌, ◌++◌, length, map, filter, take, slice_index_or}
use Rattle.std.specs.Int.{bit_at}
use Rattle.std.specs.Ordering.{is_lt}
use Rattle.prefix_trie_bits.specs.Model.Bits.{number}
use Rattle.prefix_trie_bits.specs.Model.Order.{listing_cmp}
use Rattle.prefix_trie_bits.specs.declared.node.Place.{Place}
use Rattle.prefix_trie_bits.specs.declared.node.Place.TheVariants.{Value, Child}

-- whether bit k of a bitmap is set
abbrev pub has : ℕ → ℕ → Bool
has bitmap k = bit_at bitmap k == 1

-- the value bit of a string of at most four bits; a string of five has the child bit `number s`
abbrev pub value_bit : List Bool → ℕ
value_bit s = 2 ^ length s - 1 + number s

-- the number that a 1 and then the string write, which counts the places level by level: `value_bit s + 1`, or 32 and the child bit
abbrev pub heap_number : List Bool → ℕ
heap_number s = 2 ^ length s + number s

-- the strings of at most n bits, each before its extensions, and 0 before 1
unfoldable pub strings : ℕ → List (List Bool)
strings zero = [] ∷ []
strings (suc n) = [] ∷ (map (λ s. false ∷ s) (strings n) ++ map (λ s. true ∷ s) (strings n))

-- the elements at the set bits of m
unfoldable pub pick : {X : Type 0} → ℕ → List X → List X
pick m [] = []
pick m (x ∷ xs) = cond (m % 2 == 1) (x ∷ pick (m / 2) xs) (pick (m / 2) xs)

-- the set bits of a mask of value bits are those of the strings that pass a test; there is no value
-- bit 31
pub record HoldsValues (mask : ℕ) (test : List Bool → Bool) : Type 0 where
  pub bits : (s : List Bool) → length s ≤ 4 → has mask (value_bit s) ≡ test s
  pub small : mask < 2 ^ 31

-- the set bits of a mask of child bits are those of the strings that pass a test
abbrev pub HoldsChildren : ℕ → (List Bool → Bool) → Type 0
HoldsChildren mask test = (s : List Bool) → length s ≡ 5 → has mask (number s) ≡ test s

-- whether the bit of a place is in the masks
abbrev pub is_in : ℕ → ℕ → List Bool → Bool
is_in values children s = cond (nat_lt (length s) 5) (has values (value_bit s)) (has children (number s))

-- the set bits of a value mask and a child mask are those of the places that pass a test
pub record HoldsPlaces (values children : ℕ) (test : List Bool → Bool) : Type 0 where
  pub bits : (s : List Bool) → length s ≤ 5 → is_in values children s ≡ test s
  pub small : values < 2 ^ 31

-- the strings whose bits are in the masks, in listing order
abbrev pub places : ℕ → ℕ → List (List Bool)
places values children = filter (is_in values children) (strings 5)

-- the set bits of a mask of positions, in the listing of all strings, are those of the strings that
-- pass a test
abbrev pub HoldsPositions : ℕ → (List Bool → Bool) → Type 0
HoldsPositions mask test = (i : ℕ) → i < length (strings 5) → has mask i ≡ test (slice_index_or (strings 5) i [])

-- the place of a string: its value bit, or of five bits its child bit
abbrev pub place_of : List Bool → Place
place_of s = cond (nat_lt (length s) 5) (Value (value_bit s)) (Child (number s))

-- whether s is listed before t
abbrev pub is_before : List Bool → List Bool → Bool
is_before s t = is_lt (listing_cmp s t)

-- the bitmap has a value at the first j bits of a string
abbrev pub has_first : ℕ → List Bool → ℕ → Bool
has_first bitmap rest j = has bitmap (value_bit (take j rest))

-- b is the value bit of the longest string in the bitmap that begins rest
pub record IsLongest (bitmap : ℕ) (rest : List Bool) (b : ℕ) : Type 0 where
  pub len : ℕ
  pub short : len ≤ 4
  pub within : len ≤ length rest
  pub bit_is : b ≡ value_bit (take len rest)
  pub set : has bitmap b ≡ true
  pub none_longer : (i : ℕ) → len < i → i ≤ 4 → i ≤ length rest → has_first bitmap rest i ≡ false

-- b is the value bit of the shortest string in the bitmap that begins rest
pub record IsShortest (bitmap : ℕ) (rest : List Bool) (b : ℕ) : Type 0 where
  pub len : ℕ
  pub short : len ≤ 4
  pub within : len ≤ length rest
  pub bit_is : b ≡ value_bit (take len rest)
  pub set : has bitmap b ≡ true
  pub none_shorter : (i : ℕ) → i < len → has_first bitmap rest i ≡ false

-- no string in the bitmap begins rest
abbrev pub NoneBegins : ℕ → List Bool → Type 0
NoneBegins bitmap rest = (i : ℕ) → i ≤ 4 → i ≤ length rest → has_first bitmap rest i ≡ false

-- the string at place p was the first of the list, and the others are left
pub record TakesPlace (old new : List (List Bool)) (p : Place) : Type 0 where
  pub string : List Bool
  pub short : length string ≤ 5
  pub first : old ≡ string ∷ new
  pub place : p ≡ place_of string

-- bit k is clear in m and set in m', and the other bits are the same
pub record Sets (m k m' : ℕ) : Type 0 where
  pub clear : has m k ≡ false
  pub present : has m' k ≡ true
  pub others : (d : ℕ) → d ≢ k → has m' d ≡ has m d
