-- The joined entries follow from those of each family: the law for callers.
use Rattle.std.proofs.Common.{◌≡◌, List, Bool, true, false, ◌∷◌, Option, None, Some, MatchOption, sym, subst, refl}
use Rattle.prefix_trie.specs.Terms.{ipv4_path, ipv6_path, longest_match, with_entry, with_match_at}
use Rattle.std.specs.Option.{option_map}
use Rattle.prefix_trie_table.specs.Model.Contents.{Contents}
use Rattle.prefix_trie_joint.specs.declared.prefix.IpPrefix.{IpPrefix}
use Rattle.prefix_trie_joint.specs.declared.prefix.IpPrefix.TheVariants.{V4, V6}
use Rattle.prefix_trie_joint.specs.declared.map.JointPrefixMap.{JointPrefixMap}
use Rattle.prefix_trie_joint.specs.Joined.{entries_of}
use Rattle.prefix_trie_joint.specs.Changes.{limits_of, SplitsOnFamily, StepOnFamily}
use Rattle.prefix_trie_joint.specs.Laws.{FamilyLaws, LimitLaws}
use Rattle.prefix_trie_joint.specs.Lending.{with_longest_of, with_value_of}
use Rattle.prefix_trie_joint.specs.Networks.{ip_path}
use Rattle.prefix_trie_joint.proofs.Changes.{ipv4_of, ipv6_of, with_ipv4, with_ipv6}
use Rattle.prefix_trie_joint.proofs.Joined.{get_ipv4, get_ipv6, get_neither, listing_joined}
use Rattle.prefix_trie_joint.proofs.Matches.{longest_of}
use Rattle.prefix_trie_joint.proofs.Walks.{len_joined}

pub written : {T A : Type 0} (m : JointPrefixMap T A) (p : IpPrefix) (x : T) → entries_of (with_value_of m p x) ≡ with_entry (entries_of m) (ip_path p) x
written m (V4 network) x = with_ipv4 m.ipv4.entries m.ipv6.entries _ (ipv4_path network) x refl
written m (V6 network) x = with_ipv6 m.ipv4.entries m.ipv6.entries _ (ipv6_path network) x refl

longest_written : {T A : Type 0} (m : JointPrefixMap T A) (p : IpPrefix) (x : T) → MatchOption (longest_match (entries_of m) (ip_path p))
    (with_longest_of m p x ≡ m) (λ e. entries_of (with_longest_of m p x) ≡ with_entry (entries_of m) e.0 x)
longest_written {T} {A} m (V4 network) x =
    let q = ipv4_path network in
    let new : Option (List Bool × T) → JointPrefixMap T A = λ o. record m { ipv4 = with_match_at m.ipv4 o x } in
    subst (λ (o : Option (List Bool × T)). MatchOption o (with_longest_of m (V4 network) x ≡ m) (λ e. entries_of (with_longest_of m (V4 network) x) ≡ with_entry (entries_of m) e.0 x))
    (sym (longest_of false m.ipv4.entries m.ipv6.entries q))
    (elim (longest_match m.ipv4.entries q) as (λ o. MatchOption (option_map {U = List Bool × T} (λ e. (false ∷ e.0, e.1)) o) (new o ≡ m) (λ e. entries_of (new o) ≡ with_entry (entries_of m) e.0 x))
    [ None ↦ refl | Some e ↦ with_ipv4 m.ipv4.entries m.ipv6.entries _ e.0 x refl ])
longest_written {T} {A} m (V6 network) x =
    let q = ipv6_path network in
    let new : Option (List Bool × T) → JointPrefixMap T A = λ o. record m { ipv6 = with_match_at m.ipv6 o x } in
    subst (λ (o : Option (List Bool × T)). MatchOption o (with_longest_of m (V6 network) x ≡ m) (λ e. entries_of (with_longest_of m (V6 network) x) ≡ with_entry (entries_of m) e.0 x))
    (sym (longest_of true m.ipv4.entries m.ipv6.entries q))
    (elim (longest_match m.ipv6.entries q) as (λ o. MatchOption (option_map {U = List Bool × T} (λ e. (true ∷ e.0, e.1)) o) (new o ≡ m) (λ e. entries_of (new o) ≡ with_entry (entries_of m) e.0 x))
    [ None ↦ refl | Some e ↦ with_ipv6 m.ipv4.entries m.ipv6.entries _ e.0 x refl ])

pub family_laws : {T A : Type 0} → FamilyLaws T A
family_laws = record {
  ipv4 = get_ipv4;
  ipv6 = get_ipv6;
  neither = get_neither;
  listed = listing_joined;
  count = len_joined;
  ipv4_determined = ipv4_of;
  ipv6_determined = ipv6_of;
  written = written;
  longest_written = longest_written;
}

module _ {T : Type 0} where
  limits : (old new : Contents T × Contents T) → new.0.space.limit ≡ old.0.space.limit → new.1.space.limit ≡ old.1.space.limit → limits_of new ≡ limits_of old
  limits old new ipv4 ipv6 = λ i. (ipv4 i, ipv6 i)

  same : {m n : Contents T} → m ≡ n → m.space.limit ≡ n.space.limit
  same e = λ i. (e i).space.limit

  pub limit_laws : LimitLaws T
  limit_laws = record {
    stepped = λ p call reply old new. elim p as (λ p. StepOnFamily p call reply old new → limits_of new ≡ limits_of old)
        [ V4 network ↦ λ h. limits old new h.0.space.same_limit (same h.1) | V6 network ↦ λ h. limits old new (same h.1) h.0.space.same_limit ];
    cleared = λ old new h. limits old new h.0.space.same_limit h.1.space.same_limit;
    retained = λ old new h. limits old new h.0.space.same_limit h.1.space.same_limit;
    compacted = λ old new h. limits old new h.0.limit h.1.limit;
    split = λ p old second new. elim p as (λ p. SplitsOnFamily p old second new → (limits_of second ≡ limits_of old) × (limits_of new ≡ limits_of old)) [
      | V4 network ↦ λ h. (limits old second h.0.same_limit (λ i. (h.1.space i).limit), limits old new (h.0.drops 32).space.same_limit (same h.2))
      | V6 network ↦ λ h. (limits old second (λ i. (h.1.space i).limit) h.0.same_limit, limits old new (same h.2) (h.0.drops 128).space.same_limit)
    ];
  }
