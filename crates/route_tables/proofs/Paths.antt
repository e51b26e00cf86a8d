-- The network that a stored key is listed as has this key as its path, so the longest match that a lookup returns is the
-- longest match: for `stored_paths` and `longest`.
use Rattle.std.proofs.Common.{◌≡◌, ◌≤◌, Bool, true, false, List, [], ◌∷◌, Option, Some, None, MatchOption, length, is_some, sym, ap, subst, ◌∙◌, true≢false}
use Rattle.std.specs.Borrow.{Bor}
use Rattle.std.specs.FinMap.{contains_key}
use Rattle.std.specs.Option.{option_map}
use Rattle.prefix_trie.specs.Laws.Lookups.{LookupLaws}
use Rattle.prefix_trie.specs.Terms.{lent_item, longest_match, network_back, network_path, prefix_pair, AreWithin, Entries, IsLongestMatch, IsUncovered}
use Rattle.prefix_trie_joint.specs.Joined.{joined}
use Rattle.prefix_trie_joint.specs.Laws.{FamilyLaws}
use Rattle.prefix_trie_joint.specs.Networks.{ip_back, ip_path}
use Rattle.prefix_trie_joint.specs.declared.prefix.IpPrefix.{IpPrefix}

pub paths_stored : {T A : Type 0} → FamilyLaws T A → (ipv4 ipv6 : Entries T) → AreWithin 32 ipv4 → AreWithin 128 ipv6
    → ((s : List Bool) → length s ≤ 32 → network_path 32 (network_back 32 s) ≡ s) → ((s : List Bool) → length s ≤ 128 → network_path 128 (network_back 128 s) ≡ s)
    → (s : List Bool) → contains_key (joined ipv4 ipv6) s ≡ true → ip_path (ip_back s) ≡ s
paths_stored laws ipv4 ipv6 within4 within6 back4 back6 [] stored = absurd (true≢false (sym stored ∙ ap is_some (laws.neither ipv4 ipv6)))
paths_stored laws ipv4 ipv6 within4 within6 back4 back6 (false ∷ s) stored =
    ap (λ t. false ∷ t) (back4 s (within4 s (sym (ap is_some (laws.ipv4 ipv4 ipv6 s)) ∙ stored)))
paths_stored laws ipv4 ipv6 within4 within6 back4 back6 (true ∷ s) stored =
    ap (λ t. true ∷ t) (back6 s (within6 s (sym (ap is_some (laws.ipv6 ipv4 ipv6 s)) ∙ stored)))

same_some : {X : Type 0} (x y : X) → Some x ≡ Some y → x ≡ y
same_some x y e = cc

module _ {P T : Type 0} (laws : LookupLaws P T) (m : Entries T) (paths : (s : List Bool) → contains_key m s ≡ true → ip_path (ip_back s) ≡ s) (q : List Bool) where
  of_match : (o : Option (List Bool × T)) → MatchOption o (IsUncovered m q) (IsLongestMatch m q) → (r : Option (IpPrefix × Bor T)) → option_map lent_item r ≡ prefix_pair ip_back o
      → MatchOption r (IsUncovered m q) (λ found. IsLongestMatch m q (ip_path found.0, found.1.now))
  of_match None uncovered None e = uncovered
  of_match None uncovered (Some x) e = absurd (cc)
  of_match (Some d) found None e = absurd (cc)
  of_match (Some d) found (Some x) e =
      subst (λ p. IsLongestMatch m q (ip_path p.0, p.1)) (sym (same_some (lent_item x) (ip_back d.0, d.1) e))
      (subst (λ s. IsLongestMatch m q (s, d.1)) (sym (paths d.0 (ap is_some found.matches.stored))) found)

  pub longest_is : (r : Option (IpPrefix × Bor T)) → option_map lent_item r ≡ prefix_pair ip_back (longest_match m q)
      → MatchOption r (IsUncovered m q) (λ found. IsLongestMatch m q (ip_path found.0, found.1.now))
  longest_is r e = of_match (longest_match m q) (laws.found m q) r e
