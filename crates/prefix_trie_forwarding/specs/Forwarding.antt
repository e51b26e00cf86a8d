-- A forwarding table: for each address, the length and the hop of its longest match.
use Rattle.std.specs.Prelude.{◌≡◌, ℕ, ◌+◌, ◌*◌, ◌^◌, ◌<◌, Bool, List, length, Option, None, Some, slice_index}
use Rattle.std.specs.Option.{option_map}
use Rattle.prefix_trie_bits.specs.Model.Bits.{digits}
use Rattle.prefix_trie_bits.specs.Model.Entries.{Entries}
use Rattle.prefix_trie_bits.specs.Model.Matches.{longest_match}
use Rattle.prefix_trie_forwarding.specs.Walks.{answer}
use Rattle.prefix_trie_forwarding.specs.declared.hop.Hop.{Hop}

-- the hop of a match
abbrev pub hop_of : Option (List Bool × Hop) → Option Hop
hop_of found = option_map (λ e. e.1) found

-- the length of a match and its hop
abbrev pub length_and_hop : Option (List Bool × Hop) → Option (ℕ × Hop)
length_and_hop found = option_map (λ e. (length e.0, e.1)) found

-- the answer that slots hold for a match: 0 for none, else the length, with one added, above the 23 bits of the hop
abbrev pub answer_of : Option (List Bool × Hop) → ℕ
answer_of None = 0
answer_of (Some e) = (length e.0 + 1) * 8388608 + e.1.number

-- each address, of so many bits, has the answer of its longest match
abbrev pub Follows : (root_bits levels : ℕ) → List ℕ → Entries Hop → Type 0
Follows root_bits levels slots m = (a : ℕ) → a < 2 ^ (root_bits + 8 * levels)
    → answer (2 ^ root_bits) levels (slice_index slots) a ≡ answer_of (longest_match m (digits (root_bits + 8 * levels) a))
