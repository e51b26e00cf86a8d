-- What access lists say of addresses. This project's own.
use Rattle.std.specs.Prelude.{ℕ, ⊤, Bool, cond, List, Option, Some, None, bytes_eq, codes, filter}
use Rattle.std.specs.Option.{option_map}
use Rattle.prefix_trie.specs.Terms.{covers, first_item, longest_match, IsLongestMatch, IsMatch, IsUncovered}
use Rattle.prefix_trie_joint.specs.Networks.{ip_back, ip_path}
use Rattle.prefix_trie_joint.specs.declared.prefix.IpPrefix.{IpPrefix}
use Rattle.route_tables.specs.Tables.{Values}
use Rattle.route_tables.specs.declared.access.Decision.{Decision}
use Rattle.route_tables.specs.declared.access.Decision.TheVariants.{Allowed, Denied, Unlisted}
use Rattle.route_tables.specs.declared.access.Precedence.{Precedence}
use Rattle.route_tables.specs.declared.access.Precedence.TheVariants.{DenyFirst, Longest}
use Rattle.route_tables.specs.declared.load.BadLines.TheVariants as bad_lines
use Rattle.route_tables.specs.declared.load.Reading.{Reading}
use Rattle.route_tables.specs.declared.load.TableKind.TheVariants.{AccessList}
use Rattle.route_tables.specs.declared.network.HostBits.{HostBits}

-- bad lines are refused, and values are rules
abbrev pub access_reading : HostBits → Reading
access_reading host_bits = record { host_bits = host_bits; bad_lines = bad_lines.Refused; kind = AccessList }

-- the decision of a network with a value
abbrev pub decision_of : IpPrefix → List ℕ → Decision
decision_of network value = cond (bytes_eq value (codes "allow")) (Allowed network) (Denied network)

-- the decision of the longest match, if there is one
abbrev pub decision_by_match : Option (List Bool × List ℕ) → Decision
decision_by_match None = Unlisted
decision_by_match (Some e) = decision_of (ip_back e.0) e.1

-- the longest network that contains the address decides
abbrev pub longest_decision : Values → List Bool → Decision
longest_decision m address = decision_by_match (longest_match m address)

-- in words: the network of a decision is the longest match, and has the rule that decides
abbrev pub IsLongestDecision : Values → List Bool → Decision → Type 0
IsLongestDecision m address (Allowed network) = IsLongestMatch m address (ip_path network, codes "allow")
IsLongestDecision m address (Denied network) = IsLongestMatch m address (ip_path network, codes "deny")
IsLongestDecision m address Unlisted = IsUncovered m address

-- some network with this value contains the address
abbrev pub IsCoveredBy : Values → List Bool → List ℕ → Type 0
IsCoveredBy m address value = (s : List Bool) × IsMatch m address (s, value)

-- the networks with this value that contain the address, shortest first
abbrev pub covers_with : Values → List Bool → List ℕ → List (List Bool × List ℕ)
covers_with m address value = filter (λ e. bytes_eq value e.1) (covers m address)

-- the first of them, if there is one
abbrev pub shortest_with : Values → List Bool → List ℕ → Option IpPrefix
shortest_with m address value = option_map (λ e. ip_back e.0) (first_item (covers_with m address value))

-- the decision, from the shortest network with `deny` that contains the address, and the shortest with `allow`
abbrev pub decision_by : Option IpPrefix → Option IpPrefix → Decision
decision_by (Some network) allowing = Denied network
decision_by None (Some network) = Allowed network
decision_by None None = Unlisted

-- a network with `deny` decides before one with `allow`, and the shortest is named
abbrev pub deny_first_decision : Values → List Bool → Decision
deny_first_decision m address = decision_by (shortest_with m address (codes "deny")) (shortest_with m address (codes "allow"))

-- in words: the network of a decision contains the address and has the rule that decides
abbrev pub IsDenyFirstDecision : Values → List Bool → Decision → Type 0
IsDenyFirstDecision m address (Allowed network) = IsMatch m address (ip_path network, codes "allow") × ¬ (IsCoveredBy m address (codes "deny"))
IsDenyFirstDecision m address (Denied network) = IsMatch m address (ip_path network, codes "deny")
IsDenyFirstDecision m address Unlisted = ¬ (IsCoveredBy m address (codes "allow")) × ¬ (IsCoveredBy m address (codes "deny"))

-- the decision of an access list on an address
abbrev pub decision : Precedence → Values → List Bool → Decision
decision Longest m address = longest_decision m address
decision DenyFirst m address = deny_first_decision m address

-- the decision allows the address
abbrev pub IsAllowing : Decision → Type 0
IsAllowing (Allowed network) = ⊤
IsAllowing (Denied network) = ⊥
IsAllowing Unlisted = ⊥

-- the address is allowed: its longest match has the rule `allow`; or some network with `allow` contains it, and none with `deny`
abbrev pub IsAllowed : Precedence → Values → List Bool → Type 0
IsAllowed Longest m address = (s : List Bool) × IsLongestMatch m address (s, codes "allow")
IsAllowed DenyFirst m address = IsCoveredBy m address (codes "allow") × ¬ (IsCoveredBy m address (codes "deny"))
