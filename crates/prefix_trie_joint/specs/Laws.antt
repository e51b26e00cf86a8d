-- How the joined entries follow from those of each family, and how writing walks go on, as statements for contracts. This project's own.
use Rattle.std.specs.Prelude.{◌≡◌, ◌+◌, Bool, true, false, List, [], ◌∷◌, ◌++◌, MatchOption, None}
use Rattle.std.specs.FinMap.{get, len}
use Rattle.prefix_trie.specs.Terms.{Entries, listing, longest_match, with_entry}
use Rattle.prefix_trie_bits.specs.Model.Step.{Call, Clear, Done, Reply}
use Rattle.prefix_trie_table.specs.Model.Contents.{Contents}
use Rattle.prefix_trie_joint.specs.declared.prefix.IpPrefix.{IpPrefix}
use Rattle.prefix_trie_joint.specs.declared.map.JointPrefixMap.{JointPrefixMap}
use Rattle.prefix_trie_joint.specs.declared.map.writing.IterMut.{IterMut}
use Rattle.prefix_trie_joint.specs.Changes.{limits_of, IsCompacted, OnEach, RetainsNeeded, SplitsOnFamily, StepOnEach, StepOnFamily}
use Rattle.prefix_trie_joint.specs.Joined.{entries_of, joined, under, AreIpKeys}
use Rattle.prefix_trie_joint.specs.Lending.{with_longest_of, with_value_of}
use Rattle.prefix_trie_joint.specs.Networks.{ip_path}
use Rattle.prefix_trie_joint.specs.Writing.{passed, stepped, to_come}

pub record FamilyLaws (T A : Type 0) : Type 0 where
  -- the value of a key is the one that its family has
  pub ipv4 : (a b : Entries T) (s : List Bool) → get (joined a b) (false ∷ s) ≡ get a s
  pub ipv6 : (a b : Entries T) (s : List Bool) → get (joined a b) (true ∷ s) ≡ get b s
  -- no network has the empty key
  pub neither : (a b : Entries T) → get (joined a b) [] ≡ None
  -- the IPv4 entries come first, and then the IPv6 entries
  pub listed : (a b : Entries T) → listing (joined a b) ≡ under false (listing a) ++ under true (listing b)
  -- there are as many as both families have
  pub count : (a b : Entries T) → len (joined a b) ≡ len a + len b
  -- they determine the entries of each family
  pub ipv4_determined : (a b c d : Entries T) → joined a b ≡ joined c d → a ≡ c
  pub ipv6_determined : (a b c d : Entries T) → joined a b ≡ joined c d → b ≡ d
  -- what is written through a `&mut` to a value is the new value of its network
  pub written : (m : JointPrefixMap T A) (p : IpPrefix) (x : T) → entries_of (with_value_of m p x) ≡ with_entry (entries_of m) (ip_path p) x
  -- what is written through a `&mut` to the value of a longest match is the new value of the network that matched
  pub longest_written : (m : JointPrefixMap T A) (p : IpPrefix) (x : T) → MatchOption (longest_match (entries_of m) (ip_path p))
      (with_longest_of m p x ≡ m) (λ e. entries_of (with_longest_of m p x) ≡ with_entry (entries_of m) e.0 x)

-- the slot limits of both families stay; no array is longer than its limit, by `AreWhole`
pub record LimitLaws (T : Type 0) : Type 0 where
  -- after a change of one family
  pub stepped : (p : IpPrefix) (call : List Bool → Call (List Bool) T) (reply : Reply (List Bool) T) (old new : Contents T × Contents T)
      → StepOnFamily p call reply old new → limits_of new ≡ limits_of old
  -- after `clear`, `retain` and `compact`
  pub cleared : (old new : Contents T × Contents T) → StepOnEach Clear Done old new → limits_of new ≡ limits_of old
  pub retained : (old new : Contents T × Contents T) → OnEach (λ width. RetainsNeeded) old new → limits_of new ≡ limits_of old
  pub compacted : (old new : Contents T × Contents T) → OnEach (λ width. IsCompacted) old new → limits_of new ≡ limits_of old
  -- a split leaves them to both maps
  pub split : (p : IpPrefix) (old second new : Contents T × Contents T) → SplitsOnFamily p old second new → (limits_of second ≡ limits_of old) × (limits_of new ≡ limits_of old)

pub record WritingLaws (T A : Type 0) : Type 0 where
  -- after a step, the rest is to come
  pub steps : (w : IterMut T A) (e : List Bool × T) (es : List (List Bool × T)) → AreIpKeys (entries_of w.map.now) → to_come w ≡ e ∷ es → to_come (stepped w) ≡ es
  -- after its next entry, at which a value was left, a walk has the rest to come
  pub goes_on : (w : IterMut T A) (value : T) (e : List Bool × T) (es : List (List Bool × T)) → AreIpKeys (entries_of w.map.now) → to_come w ≡ e ∷ es → to_come (passed w value) ≡ es
  -- the value is stored at that entry, and nothing else changed
  pub writes : (w : IterMut T A) (value : T) (e : List Bool × T) (es : List (List Bool × T)) → AreIpKeys (entries_of w.map.now) → to_come w ≡ e ∷ es
      → entries_of (passed w value).map.now ≡ with_entry (entries_of w.map.now) e.0 value
