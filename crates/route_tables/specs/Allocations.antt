-- The lines that may need an allocation. This project's own.
use Rattle.std.specs.Prelude.{◌≡◌, ◌⊎◌, ◌<◌, ℕ, Some, List, Contains, length}
use Rattle.std.specs.FinMap.{get}
use Rattle.prefix_trie_joint.specs.Networks.{ip_path}
use Rattle.prefix_trie_joint.specs.declared.prefix.IpPrefix.{IpPrefix}
use Rattle.route_tables.specs.Reasons.{IsReason}
use Rattle.route_tables.specs.Routes.{IsRoute, IsSkipped}
use Rattle.route_tables.specs.Tables.{Values}
use Rattle.route_tables.specs.declared.line.ReadError.TheVariants.{Memory}
use Rattle.route_tables.specs.declared.load.Reading.{Reading}

-- a value of more than 16 bytes has memory of its own; a network that does not have this value needs a place in the table, or in a list
abbrev pub MayAllocate : Values → IpPrefix → List ℕ → Type 0
MayAllocate m network value = (16 < length value) ⊎ ¬ (get m (ip_path network) ≡ Some value)

-- the same for one of some networks
abbrev pub SomeMayAllocate : Values → List IpPrefix → List ℕ → Type 0
SomeMayAllocate m networks value = (network : IpPrefix) × Contains networks network × MayAllocate m network value

-- a line that adds nothing new to a table needs an allocation only if it is skipped, which is listed, or has a range
abbrev pub LineMayAllocate : Reading → List ℕ → Values → Type 0
LineMayAllocate reading line m =
    IsSkipped reading line
    ⊎ (IsReason reading line Memory ⊎ ((networks : List IpPrefix) × (value : List ℕ) × IsRoute reading line networks value × SomeMayAllocate m networks value))
