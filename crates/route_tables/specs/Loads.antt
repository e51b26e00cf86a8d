-- What reading a text adds to a table, and what it leaves if it fails. This project's own.
use Rattle.std.specs.Prelude.{◌≡◌, ◌⊎◌, ℕ, ◌+◌, ◌-◌, ◌*◌, ◌^◌, ◌<◌, ⊤, List, [], ◌∷◌, ◌++◌, length, slice_index_or, take}
use Rattle.prefix_trie.specs.Terms.{put_all}
use Rattle.prefix_trie_table.specs.Model.Contents.{Contents}
use Rattle.prefix_trie_joint.specs.Changes.{maps_of}
use Rattle.prefix_trie_joint.specs.Collected.{AreAfter}
use Rattle.prefix_trie_joint.specs.Joined.{entries_of}
use Rattle.prefix_trie_joint.specs.Networks.{ip_path}
use Rattle.prefix_trie_joint.specs.declared.map.JointPrefixMap.{JointPrefixMap}
use Rattle.route_tables.specs.Replaced.{replaced_by}
use Rattle.route_tables.specs.BadLines.{IsBadLine}
use Rattle.route_tables.specs.Routes.{Gives, HasRoutes, IsFirstBad, IsGood, Route}
use Rattle.route_tables.specs.Tables.{Values}
use Rattle.route_tables.specs.declared.load.BadLine.{BadLine}
use Rattle.route_tables.specs.declared.load.BadLines.TheVariants as bad_lines
use Rattle.route_tables.specs.declared.load.LoadError.{LoadError}
use Rattle.route_tables.specs.declared.load.LoadError.TheVariants.{Line, Refused}
use Rattle.route_tables.specs.declared.load.Reading.{Reading}
use Rattle.route_tables.specs.declared.load.Replaced.{Replaced}
use Rattle.route_tables.specs.declared.load.TableKind.TheVariants.{AnyValues}
use Rattle.route_tables.specs.declared.network.HostBits.TheVariants as host_bits

-- the entries after routes are added; the last of the routes of one network counts
abbrev pub with_routes : List Route → Values → Values
with_routes routes m = put_all ip_path routes m

-- the first of some routes are added
abbrev pub AddsFirst : List Route → Values → Values → Type 0
AddsFirst routes m after = (n : ℕ) × (after ≡ with_routes (take n routes) m)

-- some insertions into the maps of both families, which make at most 56 slots each
abbrev pub AddsSlots : ℕ → Contents (List ℕ) × Contents (List ℕ) → Contents (List ℕ) × Contents (List ℕ) → Type 0
AddsSlots n before after = (count : ℕ) → AreAfter count before → AreAfter (count + n) after

-- so many insertions may make more slots than an array can have
abbrev pub MayExceed : ℕ → Contents (List ℕ) × Contents (List ℕ) → Type 0
MayExceed n before = (count : ℕ) → AreAfter count before → 2 ^ 32 - 1 < 1 + 56 * (count + n)

-- a line adds its routes to a table, and lists those that replace another value
pub record AddsLine {A : Type 0} (reading : Reading) (number : ℕ) (line : List ℕ) (before after : JointPrefixMap (List ℕ) A) (listed then_listed : List Replaced) : Type 0 where
  pub routes : List Route
  pub gives : Gives reading line routes
  pub entries : entries_of after ≡ with_routes routes (entries_of before)
  pub replaced : then_listed ≡ listed ++ replaced_by number routes (entries_of before)
  pub slots : AddsSlots (length routes) (maps_of before) (maps_of after)

-- a line is listed if it is bad
abbrev pub ListsLine : Reading → ℕ → List ℕ → List BadLine → List BadLine → Type 0
ListsLine reading number line listed after =
    (IsGood reading line × (after ≡ listed)) ⊎ ((bad : BadLine) × IsBadLine reading number line bad × (after ≡ listed ++ bad ∷ []))

-- a line that is not skipped ends the reading: it is the first bad one, and the routes of the lines before it are added
pub record EndsAtBad (reading : Reading) (lines : List (List ℕ)) (m after : Values) (bad : BadLine) : Type 0 where
  pub refused : reading.bad_lines ≡ bad_lines.Refused
  pub index : ℕ
  pub first : IsFirstBad reading lines index
  pub named : IsBadLine reading (index + 1) (slice_index_or lines index []) bad
  pub routes : List Route
  pub before : HasRoutes reading (take index lines) routes
  pub entries : after ≡ with_routes routes m

-- a line may give these routes first, and others after them
abbrev pub GivesFirst : Reading → List ℕ → List Route → Type 0
GivesFirst reading line routes = (routes ≡ []) ⊎ ((more : List Route) × Gives reading line (routes ++ more))

-- a refusal ends the reading at a line: the routes of the lines before it are added, and maybe some routes of that line
pub record EndsAtRefusal (reading : Reading) (lines : List (List ℕ)) (m after : Values) : Type 0 where
  pub index : ℕ
  pub routes : List Route
  pub part : List Route
  pub before : HasRoutes reading (take index lines) routes
  pub part_of : GivesFirst reading (slice_index_or lines index []) part
  pub entries : after ≡ with_routes part (with_routes routes m)

-- where an error ends the reading, and what is added before
abbrev pub EndsAt : Reading → List (List ℕ) → Values → Values → LoadError → Type 0
EndsAt reading lines m after (Line bad) = EndsAtBad reading lines m after bad
EndsAt reading lines m after (Refused cause) = EndsAtRefusal reading lines m after

-- why a line ends the reading, and what it adds before
abbrev pub EndsAtLine : Reading → ℕ → List ℕ → Values → Values → LoadError → Type 0
EndsAtLine reading number line m after (Line bad) = (reading.bad_lines ≡ bad_lines.Refused) × IsBadLine reading number line bad × (after ≡ m)
EndsAtLine reading number line m after (Refused cause) = (part : List Route) × GivesFirst reading line part × (after ≡ with_routes part m)

-- host bits and bad lines are refused, and values are any
abbrev pub strict : Reading
strict = record { host_bits = host_bits.Refused; bad_lines = bad_lines.Refused; kind = AnyValues }

-- if the error names a line, it is a certain one
abbrev pub IfLineError : (BadLine → Type 0) → LoadError → Type 0
IfLineError Named (Line bad) = Named bad
IfLineError Named (Refused cause) = ⊤

-- if the error names a line, bad lines are refused, and it is the first one
abbrev pub NamesFirstBad : Reading → List (List ℕ) → LoadError → Type 0
NamesFirstBad reading lines error =
    IfLineError (λ bad. (reading.bad_lines ≡ bad_lines.Refused) × ((index : ℕ) × IsFirstBad reading lines index × IsBadLine reading (index + 1) (slice_index_or lines index []) bad)) error
