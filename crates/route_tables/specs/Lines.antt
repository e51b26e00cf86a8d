-- The lines of a text, and the fields of a line. This project's own.
use Rattle.std.specs.Prelude.{ℕ, ◌-◌, ◌==◌, Bool, ◌||◌, bytes_eq, false, not, cond, List, [], ◌∷◌, drop, length, take}
use Rattle.std.specs.Char.{is_ascii_whitespace, is_control, is_whitespace}
use Rattle.std.specs.Int.{is_in_range}
use Rattle.std.specs.List.{before_first, list_any, onto_first}
use Rattle.std.specs.Str.{chars}

-- a text without its byte order mark, if it begins with one
abbrev pub after_mark : List ℕ → List ℕ
after_mark text = cond (bytes_eq (take 3 text) (0xEF ∷ 0xBB ∷ 0xBF ∷ [])) (drop 3 text) text

-- the lines of a text; a line feed ends each one, and may be missing after the last
abbrev pub lines : List ℕ → List (List ℕ)
lines [] = []
lines (b ∷ bs) = cond (b == 10) ([] ∷ lines bs) (onto_first b (lines bs))

-- whether a text begins inside a word
abbrev pub begins_word : List ℕ → Bool
begins_word [] = false
begins_word (b ∷ bs) = not (is_ascii_whitespace b)

-- the words of a text, which white space separates
abbrev pub words : List ℕ → List (List ℕ)
words [] = []
words (b ∷ bs) = cond (is_ascii_whitespace b) (words bs) (cond (begins_word bs) (onto_first b (words bs)) ((b ∷ []) ∷ words bs))

-- whether a word begins a comment
abbrev pub begins_comment : List ℕ → Bool
begins_comment [] = false
begins_comment (b ∷ bs) = b == 35

-- the fields of a line: its words before the first that begins with `#`
abbrev pub fields : List ℕ → List (List ℕ)
fields line = before_first begins_comment (words line)

-- whether a carriage return is before the last byte of a line, so that no line feed follows it
abbrev pub has_bare_return : List ℕ → Bool
has_bare_return line = list_any (λ b. b == 13) (take (length line - 1) line)

-- whether a character changes the direction of the text after it: U+061C, U+200E, U+200F, U+202A to U+202E, U+2066 to U+2069
abbrev pub is_direction : ℕ → Bool
is_direction c = ((c == 0x61C || is_in_range 0x200E 0x200F c) || is_in_range 0x202A 0x202E c) || is_in_range 0x2066 0x2069 c

-- whether a character has no width: U+200B to U+200D, U+2060, U+FEFF
abbrev pub is_zero_width : ℕ → Bool
is_zero_width c = (is_in_range 0x200B 0x200D c || c == 0x2060) || c == 0xFEFF

-- whether a character can hide or change what a reader sees: a control character, white space, one without width, or one that
-- changes the direction
abbrev pub is_hidden : ℕ → Bool
is_hidden c = ((is_control c || is_whitespace c) || is_zero_width c) || is_direction c

-- whether a text has such a character
abbrev pub has_hidden : List ℕ → Bool
has_hidden text = list_any is_hidden (chars text)

-- whether a text has a dot or a colon
abbrev pub has_separator : List ℕ → Bool
has_separator text = list_any (λ b. b == 46 || b == 58) text

-- the lines of a text after its byte order mark
abbrev pub table_lines : List ℕ → List (List ℕ)
table_lines text = lines (after_mark text)
