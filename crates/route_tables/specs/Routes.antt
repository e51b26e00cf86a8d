-- The meaning of the lines of a table. This project's own.
use Rattle.std.specs.Prelude.{◌≡◌, ◌⊎◌, ℕ, zero, suc, ⊤, codes, false, List, [], ◌∷◌, ◌++◌, map}
use Rattle.std.specs.Net.Grammar.{IsIpText}
use Rattle.std.specs.Str.{IsUtf8}
use Rattle.std.specs.declared.net.ip_addr.IpAddr.{IpAddr}
use Rattle.route_tables.specs.Lines.{fields, has_bare_return, has_hidden}
use Rattle.route_tables.specs.Networks.{AreOfEnds, AreOfText}
use Rattle.prefix_trie_joint.specs.declared.prefix.IpPrefix.{IpPrefix}
use Rattle.route_tables.specs.declared.line.ReadError.{ReadError}
use Rattle.route_tables.specs.declared.line.ReadError.TheVariants.{Line, Memory}
use Rattle.route_tables.specs.declared.load.BadLines.TheVariants.{Skipped}
use Rattle.route_tables.specs.declared.load.Reading.{Reading}
use Rattle.route_tables.specs.declared.load.TableKind.{TableKind}
use Rattle.route_tables.specs.declared.load.TableKind.TheVariants.{AccessList, AnyValues}

-- a network and its value
abbrev pub Route : Type 0
Route = IpPrefix × List ℕ

-- the line is blank, or has only a comment
abbrev pub IsBlank : List ℕ → Type 0
IsBlank line = (fields line ≡ []) × (has_bare_return line ≡ false)

-- the value is a rule of an access list: `allow` or `deny`
abbrev pub IsRule : List ℕ → Type 0
IsRule value = (value ≡ codes "allow") ⊎ (value ≡ codes "deny")

-- a table has any values, and an access list has rules
abbrev pub IsOfKind : TableKind → List ℕ → Type 0
IsOfKind AnyValues value = ⊤
IsOfKind AccessList value = IsRule value

-- a text that can be a value: it hides nothing, has no white space, and is no address
pub record IsValueText (kind : TableKind) (value : List ℕ) : Type 0 where
  pub utf8 : IsUtf8 value
  pub plain : has_hidden value ≡ false
  pub no_address : (address : IpAddr) → ¬ (IsIpText value address)
  pub of_kind : IsOfKind kind value

-- a text that a line can have as its value: the empty one, or a field that can be a value
abbrev pub IsLineValue : List ℕ → Type 0
IsLineValue value = (value ≡ []) ⊎ (IsValueText AnyValues value × (fields value ≡ value ∷ []))

-- fields are one value, or there are none, and the value is empty
abbrev pub IsValue : TableKind → List (List ℕ) → List ℕ → Type 0
IsValue kind [] value = (value ≡ []) × IsOfKind kind value
IsValue kind (field ∷ later) value = (later ≡ []) × (value ≡ field) × IsValueText kind value

-- a field denotes networks, and those after it are their value
pub record AreNetworksAndValue (reading : Reading) (first : List ℕ) (later : List (List ℕ)) (networks : List IpPrefix) (value : List ℕ) : Type 0 where
  pub utf8 : IsUtf8 first
  pub denotes : AreOfText reading.host_bits first networks
  pub is_value : IsValue reading.kind later value

-- two fields are the ends of a range, and those after them are its value
pub record AreEndsAndValue (reading : Reading) (first last : List ℕ) (later : List (List ℕ)) (networks : List IpPrefix) (value : List ℕ) : Type 0 where
  pub first_utf8 : IsUtf8 first
  pub last_utf8 : IsUtf8 last
  pub denote : AreOfEnds first last networks
  pub is_value : IsValue reading.kind later value

-- a field and those after it are networks and their value; the hyphen of a range may be a field
abbrev pub AreFieldsOf : Reading → List ℕ → List (List ℕ) → List IpPrefix → List ℕ → Type 0
AreFieldsOf reading first later networks value =
    AreNetworksAndValue reading first later networks value
    ⊎ ((last : List ℕ) × (rest : List (List ℕ)) × (later ≡ codes "-" ∷ last ∷ rest) × AreEndsAndValue reading first last rest networks value)

-- the fields of the line are those of networks and their value
pub record IsRoute (reading : Reading) (line : List ℕ) (networks : List IpPrefix) (value : List ℕ) : Type 0 where
  pub first : List ℕ
  pub later : List (List ℕ)
  pub has_fields : fields line ≡ first ∷ later
  pub are_fields : AreFieldsOf reading first later networks value
  pub no_return : has_bare_return line ≡ false

-- the line is neither blank nor one of networks
pub record IsBad (reading : Reading) (line : List ℕ) : Type 0 where
  pub is_some : ¬ (IsBlank line)
  pub is_none : (networks : List IpPrefix) (value : List ℕ) → ¬ (IsRoute reading line networks value)

-- an error that is about the line, and not about an allocation, means a fact
abbrev pub IfLine : Type 0 → ReadError → Type 0
IfLine Fact (Line error) = Fact
IfLine Fact Memory = ⊤

-- the routes of networks that have one value
abbrev pub routes_to : List ℕ → List IpPrefix → List Route
routes_to value networks = map (λ network. (network, value)) networks

-- a bad line that is skipped
abbrev pub IsSkipped : Reading → List ℕ → Type 0
IsSkipped reading line = (reading.bad_lines ≡ Skipped) × IsBad reading line

-- what a line gives: the routes of its networks; a blank line and one that is skipped give none
abbrev pub Gives : Reading → List ℕ → List Route → Type 0
Gives reading line routes =
    ((routes ≡ []) × (IsBlank line ⊎ IsSkipped reading line))
    ⊎ ((networks : List IpPrefix) × (value : List ℕ) × IsRoute reading line networks value × (routes ≡ routes_to value networks))

-- the routes of lines, in order
abbrev pub HasRoutes : Reading → List (List ℕ) → List Route → Type 0
HasRoutes reading [] routes = routes ≡ []
HasRoutes reading (line ∷ later) routes =
    (given : List Route) × (rest : List Route) × Gives reading line given × HasRoutes reading later rest × (routes ≡ given ++ rest)

-- the line is blank, a comment, or one of networks
abbrev pub IsGood : Reading → List ℕ → Type 0
IsGood reading line = IsBlank line ⊎ ((networks : List IpPrefix) × (value : List ℕ) × IsRoute reading line networks value)

-- the first bad line has this index, counted from 0
abbrev pub IsFirstBad : Reading → List (List ℕ) → ℕ → Type 0
IsFirstBad reading [] index = ⊥
IsFirstBad reading (line ∷ later) zero = IsBad reading line
IsFirstBad reading (line ∷ later) (suc index) = IsGood reading line × IsFirstBad reading later index
