-- What a joint map is when a `&mut` to one of its values ends. This project's own.
use Rattle.std.specs.Prelude.{Option}
use Rattle.std.specs.Borrow.{Lends, LendsIf, Fml, RattleType, MutBor}
use Rattle.std.specs.declared.alloc.Allocator as alloc
use Rattle.prefix_trie.specs.Terms.{ipv4_path, ipv6_path, with_longest_at, with_value_at}
use Rattle.prefix_trie_joint.specs.declared.prefix.IpPrefix.{IpPrefix}
use Rattle.prefix_trie_joint.specs.declared.prefix.IpPrefix.TheVariants.{V4, V6}
use Rattle.prefix_trie_joint.specs.declared.map.JointPrefixMap.{JointPrefixMap}
use Rattle.prefix_trie_joint.specs.contracts.map.JointPrefixMap as joint

-- the joint map with the value x at a network
abbrev pub with_value_of : {T A : Type 0} → JointPrefixMap T A → IpPrefix → T → JointPrefixMap T A
with_value_of m (V4 network) x = record m { ipv4 = with_value_at m.ipv4 (ipv4_path network) x }
with_value_of m (V6 network) x = record m { ipv6 = with_value_at m.ipv6 (ipv6_path network) x }

-- the same for the longest stored network that contains it, if there is one
abbrev pub with_longest_of : {T A : Type 0} → JointPrefixMap T A → IpPrefix → T → JointPrefixMap T A
with_longest_of m (V4 network) x = record m { ipv4 = with_longest_at m.ipv4 (ipv4_path network) x }
with_longest_of m (V6 network) x = record m { ipv6 = with_longest_at m.ipv6 (ipv6_path network) x }

module _ (T A : RattleType) (a : alloc.Ghosts A.Denot) (m : MutBor (JointPrefixMap T.Denot A.Denot)) (p : IpPrefix) where
  -- once the borrow r ends, the value of the network is the last one written through r; without a borrow the map is unchanged
  abbrev pub lends_value_if : Option (MutBor T.Denot) → Fml
  lends_value_if r = LendsIf (joint.the_row T A a) T m r (with_value_of m.now p) m.now

  -- the same for the value of the longest match
  abbrev pub lends_longest_if : Option (MutBor T.Denot) → Fml
  lends_longest_if r = LendsIf (joint.the_row T A a) T m r (with_longest_of m.now p) m.now

  -- the same if there is a borrow
  abbrev pub lends_value : MutBor T.Denot → Fml
  lends_value r = Lends (joint.the_row T A a) T m r (with_value_of m.now p)
