-- The lines of VRPs: CSV, as relying parties write it. This project's own.
use Rattle.std.specs.Prelude.{◌≡◌, ◌⊎◌, ◌≤◌, ◌==◌, ◌&&◌, ◌+◌, ◌-◌, ℕ, Bool, false, true, cond, List, [], ◌∷◌, ◌++◌, Option, None, Some, Result, Ok, Err, codes, length, nat_le, slice_index, slice_range}
use Rattle.std.specs.List.{after_first, before_first}
use Rattle.std.specs.Str.{IsUtf8}
use Rattle.origin_validation.specs.declared.vrp.Vrp.{Vrp}
use Rattle.prefix_trie_joint.specs.Networks.{ip_len, ip_width}
use Rattle.prefix_trie_joint.specs.declared.prefix.IpPrefix.{IpPrefix}
use Rattle.route_tables.specs.AsNumbers.{IsAsNumber, IsDecimal}
use Rattle.route_tables.specs.Lines.{has_bare_return, words}
use Rattle.route_tables.specs.Networks.{IsNetworkText}
use Rattle.route_tables.specs.declared.network.HostBits.{HostBits}
use Rattle.route_tables.specs.declared.vrp_lines.BadVrp.{BadVrp}
use Rattle.route_tables.specs.declared.vrp_lines.VrpError.{VrpError}
use Rattle.route_tables.specs.declared.vrp_lines.VrpError.TheVariants.{AsNumber, BareReturn, MaxLength, Network, NotUtf8}

-- whether a byte is a comma
abbrev pub is_comma : ℕ → Bool
is_comma byte = byte == 44

-- whether a word has a double quote at both ends
abbrev pub is_quoted : List ℕ → Bool
is_quoted word = (nat_le 2 (length word) && slice_index word 0 == 34) && slice_index word (length word - 1) == 34

-- a word without the double quotes around it
abbrev pub unquoted : List ℕ → List ℕ
unquoted word = cond (is_quoted word) (slice_range word 1 (length word - 1)) word

-- the only word, or nothing if there is none or more than one
abbrev pub only_word : List (List ℕ) → List ℕ
only_word [] = []
only_word (word ∷ []) = word
only_word (word ∷ other ∷ later) = []

-- the text of a field: its only word, without the double quotes around it
abbrev pub field_text : List ℕ → List ℕ
field_text field = unquoted (only_word (words field))

-- the texts of the first three fields of a line; a comma ends each field
abbrev pub first_field : List ℕ → List ℕ
first_field line = field_text (before_first is_comma line)

abbrev pub second_field : List ℕ → List ℕ
second_field line = first_field (after_first is_comma line)

abbrev pub third_field : List ℕ → List ℕ
third_field line = second_field (after_first is_comma line)

-- the VRP with this prefix, maximum length and AS
abbrev pub vrp_of : IpPrefix → ℕ → ℕ → Vrp
vrp_of prefix max_len origin = record { prefix = prefix; max_len = max_len; origin = origin }

-- the maximum length of a VRP with this prefix: a number from the prefix's length to the width of its address
pub record IsMaxLength (text : List ℕ) (prefix : IpPrefix) (n : ℕ) : Type 0 where
  pub decimal : IsDecimal text n
  pub least : ip_len prefix ≤ n
  pub most : n ≤ ip_width prefix

-- the texts of three fields are those of a VRP
pub record AreFieldsOfVrp (host_bits : HostBits) (first second third : List ℕ) (vrp : Vrp) : Type 0 where
  pub origin : IsAsNumber first vrp.origin
  pub utf8 : IsUtf8 second
  pub prefix : IsNetworkText host_bits second vrp.prefix
  pub max_len : IsMaxLength third vrp.prefix vrp.max_len

-- the first three fields of the line are those of a VRP
abbrev pub IsVrpLine : HostBits → List ℕ → Vrp → Type 0
IsVrpLine host_bits line vrp = AreFieldsOfVrp host_bits (first_field line) (second_field line) (third_field line) vrp × (has_bare_return line ≡ false)

-- the line is blank, or a header, whose first field is `ASN`
abbrev pub IsBlankOrHeader : List ℕ → Type 0
IsBlankOrHeader line = ((words line ≡ []) ⊎ (first_field line ≡ codes "ASN")) × (has_bare_return line ≡ false)

-- the text is an AS number
abbrev pub HasAsNumber : List ℕ → Type 0
HasAsNumber text = (n : ℕ) × IsAsNumber text n

-- what is wrong with a field that is no prefix
abbrev pub IsPrefixError : HostBits → List ℕ → VrpError → Type 0
IsPrefixError host_bits field NotUtf8 = ¬ (IsUtf8 field)
IsPrefixError host_bits field (Network error) = (prefix : IpPrefix) → ¬ (IsNetworkText host_bits field prefix)
IsPrefixError host_bits field error = ⊥

-- what is wrong with the first of three fields that is wrong
abbrev pub IsFieldsError : HostBits → List ℕ → List ℕ → List ℕ → VrpError → Type 0
IsFieldsError host_bits first second third AsNumber = ¬ (HasAsNumber first)
IsFieldsError host_bits first second third MaxLength =
    HasAsNumber first × ((prefix : IpPrefix) × IsNetworkText host_bits second prefix × ((n : ℕ) → ¬ (IsMaxLength third prefix n)))
IsFieldsError host_bits first second third error = HasAsNumber first × IsPrefixError host_bits second error

-- why the line has no VRP
abbrev pub IsVrpError : HostBits → List ℕ → VrpError → Type 0
IsVrpError host_bits line BareReturn = has_bare_return line ≡ true
IsVrpError host_bits line error = IsFieldsError host_bits (first_field line) (second_field line) (third_field line) error

-- the line is neither blank nor a header, and has no VRP for this reason
pub record IsBadVrp (host_bits : HostBits) (line : List ℕ) (error : VrpError) : Type 0 where
  pub is_some : ¬ (IsBlankOrHeader line)
  pub is_none : (vrp : Vrp) → ¬ (IsVrpLine host_bits line vrp)
  pub reason : IsVrpError host_bits line error

-- what is read from a line: nothing if it is blank or a header, its VRP, or why it has none
abbrev pub ReadsVrp : HostBits → List ℕ → Result (Option Vrp) VrpError → Type 0
ReadsVrp host_bits line (Ok None) = IsBlankOrHeader line
ReadsVrp host_bits line (Ok (Some vrp)) = IsVrpLine host_bits line vrp
ReadsVrp host_bits line (Err error) = IsBadVrp host_bits line error

-- a bad line, with its number
pub record IsBadVrpLine (host_bits : HostBits) (number : ℕ) (line : List ℕ) (bad : BadVrp) : Type 0 where
  pub named : bad.number ≡ number
  pub quoted : bad.text.now ≡ line
  pub is_bad : IsBadVrp host_bits line bad.error

-- the lines have exactly these VRPs and these bad lines, in order; `before` lines are before these
abbrev pub HaveVrps : HostBits → ℕ → List (List ℕ) → List Vrp → List BadVrp → Type 0
HaveVrps host_bits before [] vrps bad = (vrps ≡ []) × (bad ≡ [])
HaveVrps host_bits before (line ∷ later) vrps bad =
    (IsBlankOrHeader line × HaveVrps host_bits (before + 1) later vrps bad)
    ⊎ ((vrp : Vrp) × (rest : List Vrp) × IsVrpLine host_bits line vrp × (vrps ≡ vrp ∷ rest) × HaveVrps host_bits (before + 1) later rest bad)
    ⊎ ((first : BadVrp) × (rest : List BadVrp) × IsBadVrpLine host_bits (before + 1) line first × (bad ≡ first ∷ rest) × HaveVrps host_bits (before + 1) later vrps rest)

-- a line adds its VRP, or itself if it is bad
abbrev pub AddsVrpLine : HostBits → ℕ → List ℕ → List Vrp → List Vrp → List BadVrp → List BadVrp → Type 0
AddsVrpLine host_bits number line vrps after bad bad_after =
    (IsBlankOrHeader line × (after ≡ vrps) × (bad_after ≡ bad))
    ⊎ ((vrp : Vrp) × IsVrpLine host_bits line vrp × (after ≡ vrps ++ vrp ∷ []) × (bad_after ≡ bad))
    ⊎ ((one : BadVrp) × IsBadVrpLine host_bits number line one × (after ≡ vrps) × (bad_after ≡ bad ++ one ∷ []))
