-- Origin validation of routes. From RFC 6811, section 2. That AS 0 matches no route is from RFC 6483, section 4.
use Rattle.std.specs.Prelude.{◌≡◌, ◌≢◌, ◌≤◌, ℕ, true, Contains, List, Option, Some}
use Rattle.prefix_trie.specs.Terms.{begins}
use Rattle.prefix_trie_joint.specs.Networks.{ip_len, ip_path}
use Rattle.prefix_trie_joint.specs.declared.prefix.IpPrefix.{IpPrefix}
use Rattle.origin_validation.specs.declared.vrp.Vrp.{Vrp}
use Rattle.origin_validation.specs.declared.validity.Validity.{Validity}
use Rattle.origin_validation.specs.declared.validity.Validity.TheVariants.{Invalid, NotFound, Valid}

-- the VRP's prefix is the route's prefix or contains it
abbrev pub Covers : Vrp → IpPrefix → Type 0
Covers vrp route = begins (ip_path vrp.prefix) (ip_path route) ≡ true

-- the VRP allows the route to have this origin; None is the origin of a route whose path ends in a set
pub record Matches (vrp : Vrp) (route : IpPrefix) (origin : Option ℕ) : Type 0 where
  pub covers : Covers vrp route
  pub not_too_long : ip_len route ≤ vrp.max_len
  pub same_origin : origin ≡ Some vrp.origin
  pub not_zero : vrp.origin ≢ 0

-- the VRP makes the route invalid: it covers the route, none that covers it is longer, and none matches it
pub record MakesInvalid (vrps : List Vrp) (route : IpPrefix) (origin : Option ℕ) (vrp : Vrp) : Type 0 where
  pub listed : Contains vrps vrp
  pub covers : Covers vrp route
  pub longest : (other : Vrp) → Contains vrps other → Covers other route → ip_len other.prefix ≤ ip_len vrp.prefix
  pub no_match : (other : Vrp) → Contains vrps other → ¬ (Matches other route origin)

-- the state of a route, with a VRP that decides
abbrev pub IsValidity : List Vrp → IpPrefix → Option ℕ → Validity → Type 0
IsValidity vrps route origin (Valid vrp) = Contains vrps vrp × Matches vrp route origin
IsValidity vrps route origin (Invalid vrp) = MakesInvalid vrps route origin vrp
IsValidity vrps route origin NotFound = (vrp : Vrp) → Contains vrps vrp → ¬ (Covers vrp route)
