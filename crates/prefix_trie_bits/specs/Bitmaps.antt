-- The set bits of a node's bitmap, in order. These are the ranks of the tree bitmap (Eatherton, Dittia and Varghese).
use Rattle.std.specs.Prelude.{ℕ, zero, suc, Bool, true, false, cond, List, [], ◌∷◌, ◌++◌, length, ltb}
use Rattle.prefix_trie_bits.specs.Places.{has}

-- whether bit b of a bitmap of 32 bits is set
unfoldable pub has_bit : ℕ → ℕ → Bool
has_bit bitmap b = cond (ltb b 32) (has bitmap b) false

-- a list of the bit if the test holds, and otherwise an empty list
abbrev pub if_set : Bool → ℕ → List ℕ
if_set true b = b ∷ []
if_set false b = []

-- the set bits below b, lowest first
abbrev pub bits_below : ℕ → ℕ → List ℕ
bits_below bitmap zero = []
bits_below bitmap (suc b) = bits_below bitmap b ++ if_set (has_bit bitmap b) b

-- the set bits
unfoldable pub bits : ℕ → List ℕ
bits bitmap = bits_below bitmap 32

-- how many set bits are below b
unfoldable pub rank : ℕ → ℕ → ℕ
rank bitmap b = length (bits_below bitmap b)
