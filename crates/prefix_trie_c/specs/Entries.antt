-- Entries as C reads them, and what the calls on arrays of them write.
use Rattle.std.specs.Prelude.{◌≡◌, ℕ, ◌+◌, ◌*◌, ◌^◌, ◌/◌, ◌%◌, Bool, true, false, List, ◌++◌, length, map, take, drop, Option, None, Some, cond}
use Rattle.std.specs.Option.{is_some, option_map, unwrap_or}
use Rattle.prefix_trie.specs.Terms.{Entries, ipv6_path, longest_match, shortest_match, prefix_pair, covers, listing_from, listing_after, listing_below, prefix_pairs}
use Rattle.prefix_trie_c.specs.Calls.{Gives}
use Rattle.prefix_trie_c.specs.declared.codes.TheConstants.{DONE, MISSING}
use Rattle.prefix_trie_c.specs.declared.entries.FoundMatch.{FoundMatch}
use Rattle.prefix_trie_c.specs.declared.entries.FoundValue.{FoundValue}
use Rattle.prefix_trie_c.specs.declared.entries.Replaced.{Replaced}
use Rattle.prefix_trie_c.specs.declared.entries.V4Entry.{V4Entry}
use Rattle.prefix_trie_c.specs.declared.entries.V6Entry.{V6Entry}

-- the path of an IPv6 network whose address is passed as its first and its last 64 bits
abbrev pub v6_path : ℕ → ℕ → ℕ → List Bool
v6_path high low bits = ipv6_path (high * 2 ^ 64 + low, bits)

-- the entry of an IPv4 network and its value. All is 0 if there is none
abbrev pub v4_entry : Option ((ℕ × ℕ) × ℕ) → V4Entry
v4_entry None = record { value = 0; address = 0; length = 0; found = false }
v4_entry (Some (network, x)) = record { value = x; address = network.0; length = network.1; found = true }

-- the entry of an IPv6 network and its value. All is 0 if there is none
abbrev pub v6_entry : Option ((ℕ × ℕ) × ℕ) → V6Entry
v6_entry None = record { value = 0; high = 0; low = 0; length = 0; found = false }
v6_entry (Some (network, x)) = record { value = x; high = network.0 / 2 ^ 64; low = network.0 % 2 ^ 64; length = network.1; found = true }

-- the network and the value of an entry that is to be inserted
abbrev pub v4_item : V4Entry → (ℕ × ℕ) × ℕ
v4_item e = ((e.address, e.length), e.value)

abbrev pub v6_item : V6Entry → (ℕ × ℕ) × ℕ
v6_item e = ((e.high * 2 ^ 64 + e.low, e.length), e.value)

-- no value, and why
abbrev pub no_value : ℕ → FoundValue
no_value code = record { value = 0; code = code }

-- a value, or none
abbrev pub found_value : Option ℕ → FoundValue
found_value None = no_value MISSING
found_value (Some x) = record { value = x; code = DONE }

-- no match, and why
abbrev pub no_match : ℕ → FoundMatch
no_match code = record { value = 0; length = 0; code = code }

-- the value of a match and the length of its network, or no match
abbrev pub found_match : {P : Type 0} → (P → ℕ) → Option (P × ℕ) → FoundMatch
found_match len_of None = no_match MISSING
found_match len_of (Some (network, x)) = record { value = x; length = len_of network; code = DONE }

-- the value that an insertion replaced, if any, and the insertion's code
abbrev pub replaced_value : ℕ → Option ℕ → Replaced
replaced_value code before = record { value = unwrap_or before 0; code = code; found = is_some before }

-- an array begins with these items, as many as fit, and the count says how many. Its places past the count are as they were
abbrev pub Lists : {X E : Type 0} → (Option X → E) → List X → ℕ → List E → List E → Type 0
Lists made items count old new =
    (new ≡ map (λ e. made (Some e)) (take (length old) items) ++ drop count old) × (count ≡ length (take (length old) items))

module _ {P : Type 0} (back : List Bool → P) (m : Entries ℕ) where
  -- the network of the longest match, with its value
  abbrev pub match_of : List Bool → Option (P × ℕ)
  match_of path = prefix_pair back (longest_match m path)

  -- the network of the shortest match, with its value
  abbrev pub shortest_of : List Bool → Option (P × ℕ)
  shortest_of path = prefix_pair back (shortest_match m path)

  -- the longest match is written, or the code says that there is none
  abbrev pub Matches : {E : Type 0} → (Option (P × ℕ) → E) → List Bool → ℕ → E → E → Type 0
  Matches made path code old new = Gives (option_map (λ e. made (Some e)) (match_of path)) code old new

  -- the same for the shortest match
  abbrev pub MatchesShortest : {E : Type 0} → (Option (P × ℕ) → E) → List Bool → ℕ → E → E → Type 0
  MatchesShortest made path code old new = Gives (option_map (λ e. made (Some e)) (shortest_of path)) code old new

  -- the entries after a path in listing order, the path's own included or not
  abbrev pub entries_after : List Bool → Bool → List (P × ℕ)
  entries_after path inclusive = prefix_pairs back (cond inclusive (listing_from m path) (listing_after m path))

  -- the array begins with the next entries
  abbrev pub Fills : {E : Type 0} → (Option (P × ℕ) → E) → List Bool → Bool → ℕ → List E → List E → Type 0
  Fills made path inclusive count old new = Lists made (entries_after path inclusive) count old new

  -- the array begins with the entries whose networks this one contains, in listing order
  abbrev pub FillsContained : {E : Type 0} → (Option (P × ℕ) → E) → List Bool → ℕ → List E → List E → Type 0
  FillsContained made path count old new = Lists made (prefix_pairs back (listing_below m path)) count old new

  -- the array begins with the entries whose networks contain this one, shortest first
  abbrev pub FillsCovers : {E : Type 0} → (Option (P × ℕ) → E) → List Bool → ℕ → List E → List E → Type 0
  FillsCovers made path count old new = Lists made (prefix_pairs back (covers m path)) count old new
