-- The texts of values. This project's own.
use Rattle.std.specs.Prelude.{◌≡◌, ◌<◌, ℕ, true, List, [], ◌∷◌, length, string_bytes}
use Rattle.std.specs.Net.Grammar.{IsIpText}
use Rattle.std.specs.declared.net.ip_addr.IpAddr.{IpAddr}
use Rattle.route_tables.specs.Lines.{fields, has_hidden}
use Rattle.route_tables.specs.Routes.{IsLineValue}
use Rattle.route_tables.specs.declared.value.Text.{Text}
use Rattle.route_tables.specs.declared.value.Text.TheVariants.{Long, Short}
use Rattle.route_tables.specs.declared.value.ValueError.{ValueError}
use Rattle.route_tables.specs.declared.value.ValueError.TheVariants.{Address, Comment, HiddenCharacter, Memory}

-- the bytes of a text
abbrev pub bytes_of : Text → List ℕ
bytes_of (Short text) = text.bytes
bytes_of (Long text) = string_bytes text

-- the reason is true of a text that no value has; only a text of more than 16 bytes that a line can have needs memory
abbrev pub IsReason : List ℕ → ValueError → Type 0
IsReason text HiddenCharacter = has_hidden text ≡ true
IsReason text Address = (address : IpAddr) × IsIpText text address
IsReason text Comment = ¬ (fields text ≡ text ∷ [])
IsReason text Memory = IsLineValue text × (16 < length text)
