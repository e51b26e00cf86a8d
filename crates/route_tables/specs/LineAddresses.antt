-- The addresses in a line of text. Which texts are addresses is std's; what may be beside one is this project's own.
use Rattle.std.specs.Prelude.{◌≡◌, ℕ, ◌+◌, ◌-◌, ◌<◌, ◌≤◌, ◌==◌, Bool, ◌||◌, false, true, List, length, slice_index, slice_range, Option, IfSome}
use Rattle.std.specs.Char.{is_ascii_alphanumeric}
use Rattle.std.specs.Iterator.{Count, at_most}
use Rattle.std.specs.Net.Grammar.{IsIpText}
use Rattle.std.specs.declared.net.ip_addr.IpAddr.{IpAddr}

-- whether a byte is an ASCII letter, a digit or `_`
abbrev pub is_word_byte : ℕ → Bool
is_word_byte b = is_ascii_alphanumeric b || b == 95

-- whether a byte is a dot or a colon
abbrev pub is_mark : ℕ → Bool
is_mark b = b == 46 || b == 58

-- only dots and colons are between two indices
abbrev pub AreMarks : List ℕ → ℕ → ℕ → Type 0
AreMarks line from to = (i : ℕ) → from ≤ i → i < to → is_mark (slice_index line i) ≡ true

-- no letter, digit or `_` is beside the bytes between two indices
pub record IsAlone (line : List ℕ) (from to : ℕ) : Type 0 where
  pub before : (i : ℕ) → i + 1 ≡ from → is_word_byte (slice_index line i) ≡ false
  pub after : to < length line → is_word_byte (slice_index line to) ≡ false

-- a part of the line is the text of the address. Dots and colons may follow it, and nothing is beside both
pub record IsAddressIn (line : List ℕ) (address : IpAddr) : Type 0 where
  pub start : ℕ
  pub stop : ℕ
  pub end : ℕ
  pub in_order : (start ≤ stop) × (stop ≤ end) × (end ≤ length line)
  pub is_text : IsIpText (slice_range line start stop) address
  pub are_marks : AreMarks line stop end
  pub is_alone : IsAlone line start end

-- a step of a walk over the addresses of a line, which sees the line and how many of its bytes are read
abbrev pub YieldsAddress : List ℕ × ℕ → Option IpAddr → List ℕ × ℕ → Type 0
YieldsAddress before result after = (after.0 ≡ before.0) × IfSome result (IsAddressIn before.0)

-- at most as many addresses follow as bytes are left
abbrev pub bytes_left : List ℕ × ℕ → Count
bytes_left state = at_most (length state.0 - state.1)
