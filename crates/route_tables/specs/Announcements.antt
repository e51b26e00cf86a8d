-- The lines of routes: a prefix, and the path of ASs through which it is announced. This project's own.
use Rattle.std.specs.Prelude.{◌≡◌, ◌≢◌, ◌⊎◌, ◌==◌, ◌&&◌, ◌||◌, ℕ, Bool, false, true, List, [], ◌∷◌, Option, None, Some, Result, Ok, Err}
use Rattle.std.specs.Char.{is_ascii_digit}
use Rattle.std.specs.List.{list_all, list_any}
use Rattle.std.specs.Str.{IsUtf8}
use Rattle.prefix_trie_joint.specs.declared.prefix.IpPrefix.{IpPrefix}
use Rattle.route_tables.specs.AsNumbers.{IsAsNumber}
use Rattle.route_tables.specs.Lines.{fields, has_bare_return}
use Rattle.route_tables.specs.Networks.{IsNetworkText}
use Rattle.route_tables.specs.Routes.{IsBlank}
use Rattle.route_tables.specs.declared.announcements.Announcement.{Announcement}
use Rattle.route_tables.specs.declared.network.HostBits.{HostBits}
use Rattle.route_tables.specs.declared.questions.QuestionError.{QuestionError}
use Rattle.route_tables.specs.declared.questions.QuestionError.TheVariants.{AsNumber, BareReturn, Network, NoOrigin, NotUtf8}

-- whether a byte is a brace
abbrev pub is_brace : ℕ → Bool
is_brace byte = byte == 123 || byte == 125

-- whether a byte is a digit, a brace or a comma
abbrev pub is_set_byte : ℕ → Bool
is_set_byte byte = ((is_ascii_digit byte || byte == 123) || byte == 125) || byte == 44

-- whether a field is a set of ASs or a part of one: it has a brace, and else only digits and commas
abbrev pub is_of_set : List ℕ → Bool
is_of_set field = list_any is_brace field && list_all is_set_byte field

-- what a field of a path denotes: an AS, or a set, which is no AS
abbrev pub IsHop : List ℕ → Option ℕ → Type 0
IsHop field None = is_of_set field ≡ true
IsHop field (Some n) = (is_of_set field ≡ false) × IsAsNumber field n

-- fields are the rest of a path after a hop, and the last hop is the origin
abbrev pub EndsPath : Option ℕ → List (List ℕ) → Option ℕ → Type 0
EndsPath hop [] origin = origin ≡ hop
EndsPath hop (field ∷ later) origin = (next : Option ℕ) × IsHop field next × EndsPath next later origin

-- fields are a path, and the last one denotes the origin
abbrev pub IsPath : List (List ℕ) → Option ℕ → Type 0
IsPath [] origin = ⊥
IsPath (field ∷ later) origin = (hop : Option ℕ) × IsHop field hop × EndsPath hop later origin

-- a field and those after it are a prefix and a path
pub record AreFieldsOfRoute (host_bits : HostBits) (first : List ℕ) (later : List (List ℕ)) (route : Announcement) : Type 0 where
  pub utf8 : IsUtf8 first
  pub prefix : IsNetworkText host_bits first route.prefix
  pub path : IsPath later route.origin

-- the fields of the line are those of a route
pub record IsRouteLine (host_bits : HostBits) (line : List ℕ) (route : Announcement) : Type 0 where
  pub first : List ℕ
  pub later : List (List ℕ)
  pub has_fields : fields line ≡ first ∷ later
  pub are_fields : AreFieldsOfRoute host_bits first later route
  pub no_return : has_bare_return line ≡ false

-- what is wrong with fields that are no path
abbrev pub IsPathError : List (List ℕ) → QuestionError → Type 0
IsPathError later NoOrigin = later ≡ []
IsPathError later AsNumber = (later ≢ []) × ((origin : Option ℕ) → ¬ (IsPath later origin))
IsPathError later error = ⊥

-- what is wrong with a field that is no prefix
abbrev pub IsRoutePrefixError : HostBits → List ℕ → QuestionError → Type 0
IsRoutePrefixError host_bits field NotUtf8 = ¬ (IsUtf8 field)
IsRoutePrefixError host_bits field (Network error) = (prefix : IpPrefix) → ¬ (IsNetworkText host_bits field prefix)
IsRoutePrefixError host_bits field error = ⊥

-- what is wrong with a field and those after it that are not of a route: the prefix or else the path
abbrev pub IsRouteFieldsError : HostBits → List ℕ → List (List ℕ) → QuestionError → Type 0
IsRouteFieldsError host_bits first later error =
    IsRoutePrefixError host_bits first error ⊎ (((prefix : IpPrefix) × IsNetworkText host_bits first prefix) × IsPathError later error)

-- why the line has no route
abbrev pub IsRouteError : HostBits → List ℕ → QuestionError → Type 0
IsRouteError host_bits line BareReturn = has_bare_return line ≡ true
IsRouteError host_bits line error = (first : List ℕ) × (later : List (List ℕ)) × (fields line ≡ first ∷ later) × IsRouteFieldsError host_bits first later error

-- the line is neither blank nor a comment, and has no route for this reason
pub record IsBadRoute (host_bits : HostBits) (line : List ℕ) (error : QuestionError) : Type 0 where
  pub is_some : ¬ (IsBlank line)
  pub is_none : (route : Announcement) → ¬ (IsRouteLine host_bits line route)
  pub reason : IsRouteError host_bits line error

-- what is read from a line: nothing if it is blank or a comment, its route, or why it has none
abbrev pub ReadsRoute : HostBits → List ℕ → Result (Option Announcement) QuestionError → Type 0
ReadsRoute host_bits line (Ok None) = IsBlank line
ReadsRoute host_bits line (Ok (Some route)) = IsRouteLine host_bits line route
ReadsRoute host_bits line (Err error) = IsBadRoute host_bits line error
