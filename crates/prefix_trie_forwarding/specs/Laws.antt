-- How lookups follow the changes of a table, and which groups it has: for `forwarding_laws`.
use Rattle.std.specs.Prelude.{◌≡◌, ◌≢◌, ℕ, ◌<◌, ◌≤◌, Bool, true, false, List, length, Some, None, IfSome}
use Rattle.prefix_trie_bits.specs.Model.Bits.{begins}
use Rattle.prefix_trie_bits.specs.Model.Entries.{Entries, no_entries, with_entry, without_entry}
use Rattle.prefix_trie_bits.specs.Model.Matches.{longest_match}
use Rattle.prefix_trie_forwarding.specs.Forwarding.{hop_of}
use Rattle.prefix_trie_forwarding.specs.Needs.{AreNeeded, needed_groups}
use Rattle.prefix_trie_forwarding.specs.declared.hop.Hop.{Hop}

pub record ForwardingLaws : Type 0 where
  -- a new table has no hop
  pub nothing : (q : List Bool) → hop_of (longest_match (no_entries {T = Hop}) q) ≡ None
  -- after an insertion, the network's addresses have its hop, except those that had a longer match
  pub inserted : (m : Entries Hop) (q s : List Bool) (hop : Hop) → begins s q ≡ true → IfSome (longest_match m q) (λ e. length e.0 ≤ length s)
      → hop_of (longest_match (with_entry m s hop) q) ≡ Some hop
  pub inserted_shorter : (m : Entries Hop) (q s : List Bool) (hop : Hop) (e : List Bool × Hop) → longest_match m q ≡ Some e → length s < length e.0
      → hop_of (longest_match (with_entry m s hop) q) ≡ hop_of (longest_match m q)
  -- all other addresses have the hop that they had
  pub inserted_aside : (m : Entries Hop) (q s : List Bool) (hop : Hop) → begins s q ≡ false → hop_of (longest_match (with_entry m s hop) q) ≡ hop_of (longest_match m q)
  -- after a removal, the addresses whose match it was have the hop of the longest match that is left, and all others the
  -- hop that they had
  pub removed : (m : Entries Hop) (q s : List Bool) (hop : Hop) → longest_match m q ≡ Some (s, hop)
      → hop_of (longest_match (without_entry m s) q) ≡ hop_of (longest_match (without_entry m s) s)
  pub removed_aside : (m : Entries Hop) (q s : List Bool) → IfSome (longest_match m q) (λ e. e.0 ≢ s) → hop_of (longest_match (without_entry m s) q) ≡ hop_of (longest_match m q)
  -- the needed groups in words
  pub groups : (root_bits : ℕ) (m : Entries Hop) → AreNeeded root_bits m (needed_groups root_bits m)
