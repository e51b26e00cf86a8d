-- Why a line is not read: the first reason, in the order in which a line is read. Each reason is true of the line. This project's own.
use Rattle.std.specs.Prelude.{◌≡◌, ◌==◌, ◌<◌, ◌≤◌, ◌⊎◌, ℕ, Bool, true, false, List, [], ◌∷◌, codes, map, Err}
use Rattle.std.specs.Char.{to_ascii_lowercase}
use Rattle.std.specs.List.{after_first, before_first}
use Rattle.std.specs.Net.Addr.{ipv4_bits, ipv6_bits}
use Rattle.std.specs.Net.Grammar.{IsIpText}
use Rattle.std.specs.Str.{IsUtf8}
use Rattle.std.specs.declared.net.ip_addr.IpAddr.{IpAddr}
use Rattle.std.specs.declared.net.ip_addr.IpAddr.TheVariants.{V4, V6}
use Rattle.prefix_trie_joint.specs.Networks.{lowest_ip}
use Rattle.prefix_trie_joint.specs.Texts.{IsIpNetworkText, ParsesIpNetwork}
use Rattle.prefix_trie_joint.specs.declared.prefix.IpPrefix.{IpPrefix}
use Rattle.route_tables.specs.Lines.{fields, has_bare_return, has_hidden}
use Rattle.route_tables.specs.Networks.{AreOfEnds, AreOfText, has_hyphen, has_slash}
use Rattle.route_tables.specs.Routes.{IsRule, IsValueText}
use Rattle.route_tables.specs.declared.line.LineError.{LineError}
use Rattle.route_tables.specs.declared.line.LineError.TheVariants.{AddressAsValue, BareReturn, CapitalLetters, ExtraField, HiddenCharacter, Network, NotUtf8, OtherValue, RangeEnds, RangeFamilies, RangeOrder}
use Rattle.route_tables.specs.declared.line.ReadError.{ReadError}
use Rattle.route_tables.specs.declared.line.ReadError.TheVariants.{Line, Memory}
use Rattle.route_tables.specs.declared.load.Reading.{Reading}
use Rattle.route_tables.specs.declared.load.TableKind.{TableKind}
use Rattle.route_tables.specs.declared.load.TableKind.TheVariants.{AccessList}
use Rattle.route_tables.specs.declared.network.HostBits.{HostBits}
use Rattle.route_tables.specs.declared.network.HostBits.TheVariants.{Refused}
use Rattle.route_tables.specs.declared.network.NetworkError.{NetworkError}
use Rattle.route_tables.specs.declared.network.NetworkError.TheVariants.{Address, HostBits as HasHostBits, Text}

-- why a text with a slash is not a network: `parse` says why, or it has host bits, which are refused
abbrev pub IsSlashReason : HostBits → List ℕ → NetworkError → Type 0
IsSlashReason host_bits text (Text error) = ParsesIpNetwork text (Err error)
IsSlashReason host_bits text HasHostBits = (host_bits ≡ Refused) × ((written : IpPrefix) × IsIpNetworkText text written × ¬ (written ≡ lowest_ip written))
IsSlashReason host_bits text Address = ⊥

-- why a text is not one network; without a slash, the reason is that it is no address
abbrev pub IsReasonBySlash : Bool → HostBits → List ℕ → NetworkError → Type 0
IsReasonBySlash true host_bits text error = IsSlashReason host_bits text error
IsReasonBySlash false host_bits text error = (error ≡ Address) × ((address : IpAddr) → ¬ (IsIpText text address))

abbrev pub IsNetworkReason : HostBits → List ℕ → NetworkError → Type 0
IsNetworkReason host_bits text error = IsReasonBySlash (has_slash text) host_bits text error

-- addresses of one family, the first not after the last
abbrev pub AreInOrder : IpAddr → IpAddr → Type 0
AreInOrder (V4 first) (V4 last) = ipv4_bits first ≤ ipv4_bits last
AreInOrder (V6 first) (V6 last) = ipv6_bits first ≤ ipv6_bits last
AreInOrder (V4 first) (V6 last) = ⊥
AreInOrder (V6 first) (V4 last) = ⊥

-- addresses of one family, the first after the last
abbrev pub AreOutOfOrder : IpAddr → IpAddr → Type 0
AreOutOfOrder (V4 first) (V4 last) = ipv4_bits last < ipv4_bits first
AreOutOfOrder (V6 first) (V6 last) = ipv6_bits last < ipv6_bits first
AreOutOfOrder (V4 first) (V6 last) = ⊥
AreOutOfOrder (V6 first) (V4 last) = ⊥

-- why the networks from an address to another are not returned; they are many, so an allocation of them may fail
abbrev pub IsRangeReason : IpAddr → IpAddr → ReadError → Type 0
IsRangeReason first last (Line RangeFamilies) = ¬ (AreInOrder first last) × ¬ (AreOutOfOrder first last)
IsRangeReason first last (Line RangeOrder) = AreOutOfOrder first last
IsRangeReason first last Memory = AreInOrder first last
IsRangeReason first last _ = ⊥

-- why two texts are not read as the ends of a range: they are not both addresses, or a reason is in the addresses
abbrev pub IsEndsReason : List ℕ → List ℕ → ReadError → Type 0
IsEndsReason before after error =
    ((error ≡ Line RangeEnds) × ((first last : IpAddr) → IsIpText before first → ¬ (IsIpText after last)))
    ⊎ ((first : IpAddr) × (last : IpAddr) × IsIpText before first × IsIpText after last × IsRangeReason first last error)

-- why a text is not read as networks: with a hyphen, a reason in its ends; without one, why it is not one network
abbrev pub IsReasonByHyphen : Bool → HostBits → List ℕ → ReadError → Type 0
IsReasonByHyphen true host_bits text error = IsEndsReason (before_first (λ b. b == 45) text) (after_first (λ b. b == 45) text) error
IsReasonByHyphen false host_bits text error = (cause : NetworkError) × (error ≡ Line (Network cause)) × IsNetworkReason host_bits text cause

abbrev pub IsTextReason : HostBits → List ℕ → ReadError → Type 0
IsTextReason host_bits text error = IsReasonByHyphen (has_hyphen text) host_bits text error

-- why a field is not read as networks
abbrev pub IsFieldReason : HostBits → List ℕ → ReadError → Type 0
IsFieldReason host_bits field error = (¬ (IsUtf8 field) × (error ≡ Line NotUtf8)) ⊎ (IsUtf8 field × IsTextReason host_bits field error)

-- why two fields are not read as the ends of a range
abbrev pub AreEndsReason : List ℕ → List ℕ → ReadError → Type 0
AreEndsReason first last error = (¬ (IsUtf8 first × IsUtf8 last) × (error ≡ Line NotUtf8)) ⊎ (IsUtf8 first × IsUtf8 last × IsEndsReason first last error)

-- a text that hides nothing and is no address
pub record IsPlainText (text : List ℕ) : Type 0 where
  pub utf8 : IsUtf8 text
  pub plain : has_hidden text ≡ false
  pub no_address : (address : IpAddr) → ¬ (IsIpText text address)

-- the value is a rule except for the case of its letters
abbrev pub IsRuleInOtherCase : List ℕ → Type 0
IsRuleInOtherCase value = (map to_ascii_lowercase value ≡ codes "allow") ⊎ (map to_ascii_lowercase value ≡ codes "deny")

-- why a field is not a value
abbrev pub IsValueTextReason : TableKind → List ℕ → LineError → Type 0
IsValueTextReason kind field NotUtf8 = ¬ (IsUtf8 field)
IsValueTextReason kind field HiddenCharacter = IsUtf8 field × (has_hidden field ≡ true)
IsValueTextReason kind field AddressAsValue = IsUtf8 field × (has_hidden field ≡ false) × ((address : IpAddr) × IsIpText field address)
IsValueTextReason kind field CapitalLetters = (kind ≡ AccessList) × IsPlainText field × ¬ (IsRule field) × IsRuleInOtherCase field
IsValueTextReason kind field OtherValue = (kind ≡ AccessList) × IsPlainText field × ¬ (IsRule field) × ¬ (IsRuleInOtherCase field)
IsValueTextReason kind field _ = ⊥

-- why the fields after the networks are not one value: none is a rule, the first is no value, or others follow it
abbrev pub IsValueReason : TableKind → List (List ℕ) → LineError → Type 0
IsValueReason kind [] error = (kind ≡ AccessList) × (error ≡ OtherValue)
IsValueReason kind (field ∷ later) error = IsValueTextReason kind field error ⊎ (IsValueText kind field × ¬ (later ≡ []) × (error ≡ ExtraField))

-- the error of a line whose networks are read is about its value
abbrev pub IsErrorOfValue : TableKind → List (List ℕ) → ReadError → Type 0
IsErrorOfValue kind later error = (cause : LineError) × (error ≡ Line cause) × IsValueReason kind later cause

-- why a field and those after it are not networks and their value
abbrev pub AreNoNetworksAndValue : Reading → List ℕ → List (List ℕ) → ReadError → Type 0
AreNoNetworksAndValue reading first later error =
    IsFieldReason reading.host_bits first error
    ⊎ (IsUtf8 first × ((networks : List IpPrefix) × AreOfText reading.host_bits first networks) × IsErrorOfValue reading.kind later error)

-- why two fields and those after them are not a range and its value
abbrev pub AreNoEndsAndValue : Reading → List ℕ → List ℕ → List (List ℕ) → ReadError → Type 0
AreNoEndsAndValue reading first last later error =
    AreEndsReason first last error
    ⊎ (((networks : List IpPrefix) × AreOfEnds first last networks) × IsErrorOfValue reading.kind later error)

-- a field and those after it: a hyphen and one more follow, or not
abbrev pub IsFieldsReason : Reading → List ℕ → List (List ℕ) → ReadError → Type 0
IsFieldsReason reading first later error =
    ((last : List ℕ) × (rest : List (List ℕ)) × (later ≡ codes "-" ∷ last ∷ rest) × AreNoEndsAndValue reading first last rest error)
    ⊎ (((last : List ℕ) (rest : List (List ℕ)) → ¬ (later ≡ codes "-" ∷ last ∷ rest)) × AreNoNetworksAndValue reading first later error)

-- why a line is not read: it has a bare carriage return, or a reason is in its fields
abbrev pub IsReason : Reading → List ℕ → ReadError → Type 0
IsReason reading line error =
    ((has_bare_return line ≡ true) × (error ≡ Line BareReturn))
    ⊎ ((has_bare_return line ≡ false) × ((first : List ℕ) × (later : List (List ℕ)) × (fields line ≡ first ∷ later) × IsFieldsReason reading first later error))
