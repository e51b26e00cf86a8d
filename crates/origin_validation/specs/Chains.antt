-- How the VRPs of each path are found: a map has the last one of each path, and each VRP has the one before it. This project's own.
use Rattle.std.specs.Prelude.{◌≡◌, ◌≢◌, ◌<◌, ◌≤◌, ℕ, Bool, List, None, Option, Some, length, map, slice_get}
use Rattle.std.specs.FinMap.{get}
use Rattle.prefix_trie.specs.Terms.{Entries}
use Rattle.prefix_trie_joint.specs.Networks.{ip_path}
use Rattle.prefix_trie_joint.specs.Texts.{IsIp}
use Rattle.prefix_trie_joint.specs.declared.prefix.IpPrefix.{IpPrefix}
use Rattle.origin_validation.specs.declared.vrp.Vrp.{Vrp}
use Rattle.origin_validation.specs.Validation.{Matches}

-- the paths of the VRPs
abbrev pub paths_of : List Vrp → List (List Bool)
paths_of vrps = map (λ vrp. ip_path vrp.prefix) vrps

-- the last index below n at which the path q is, or None if there is no such index
abbrev pub IsLatest : List (List Bool) → ℕ → List Bool → Option ℕ → Type 0
IsLatest paths n q None = (j : ℕ) → j < n → slice_get paths j ≢ Some q
IsLatest paths n q (Some i) = (i < n) × (slice_get paths i ≡ Some q) × ((j : ℕ) → j < n → i < j → slice_get paths j ≢ Some q)

-- the map has the last index below n of each path
abbrev pub AreLatest : List (List Bool) → ℕ → Entries ℕ → Type 0
AreLatest paths n latest = (q : List Bool) → IsLatest paths n q (get latest q)

-- each path has the last index before it at which the same path is
abbrev pub AreChained : List (List Bool) → List (Option ℕ) → Type 0
AreChained paths older = (j : ℕ) (q : List Bool) (before : Option ℕ) → slice_get paths j ≡ Some q → slice_get older j ≡ Some before → IsLatest paths j q before

-- what finds the first n VRPs of a list
pub record AreIndexed (n : ℕ) (vrps : List Vrp) (older : List (Option ℕ)) (latest : Entries ℕ) : Type 0 where
  pub counted : length older ≡ n
  pub chained : AreChained (paths_of vrps) older
  pub latest_are : AreLatest (paths_of vrps) n latest
  pub fitting : (j : ℕ) (vrp : Vrp) → j < n → slice_get vrps j ≡ Some vrp → IsIp vrp.prefix

-- no VRP with the path q from index n on matches the route
abbrev pub NoneMatchesFrom : ℕ → List Vrp → List Bool → IpPrefix → Option ℕ → Type 0
NoneMatchesFrom n vrps q route origin = (j : ℕ) (vrp : Vrp) → n ≤ j → slice_get vrps j ≡ Some vrp → ip_path vrp.prefix ≡ q → ¬ (Matches vrp route origin)
