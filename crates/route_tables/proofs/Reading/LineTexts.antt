-- Splitting a text into lines and words at the positions that the code finds: for `split_line` and `split_word`.
use Rattle.std.proofs.Common.{◌≡◌, ℕ, suc, zero, ◌+◌, ◌-◌, ◌<◌, ◌≤◌, Bool, true, false, not, cond, List, [], ◌∷◌, length, take, drop, get_or, refl, sym, ap, ◌∙◌, arith, true≢false, nat_lt, Some, None, length-drop}
use Rattle.std.proofs.lemmas.List.{take_all}
use Rattle.std.proofs.lemmas.Bool.{ltb-false}
use Rattle.std.proofs.lemmas.List.Sums.{prefix_len-le-length}
use Rattle.std.specs.Option.{unwrap_or}
use Rattle.std.specs.Prelude.{◌==◌}
use Rattle.std.specs.Char.{is_ascii_whitespace}
use Rattle.std.specs.Str.{IsTrimAsciiStart}
use Rattle.std.specs.List.{onto_first, position, position_or_len}
use Rattle.route_tables.specs.Lines.{begins_word, lines, words}

-- the index of the first byte that passes, or the length if none passes
pub or_length : (p : ℕ → Bool) (bs : List ℕ) → unwrap_or (position p bs) (length bs) ≡ position_or_len p bs
or_length p bs =
    let most = prefix_len-le-length (λ b. not (p b)) bs in
    elim (nat_lt (position_or_len p bs) (length bs)) as (λ v. nat_lt (position_or_len p bs) (length bs) ≡ v
    → unwrap_or (cond v (Some (position_or_len p bs)) None) (length bs) ≡ position_or_len p bs) [
      | true ↦ λ less. refl
      | false ↦ λ less. let least = ltb-false (position_or_len p bs) (length bs) less in omega arith
    ] refl

-- the lines of a text with a line feed are the first line and the lines of the rest
pub lines_first : (text : List ℕ) → position_or_len (λ b. b == 10) text < length text
    → lines text ≡ take (position_or_len (λ b. b == 10) text) text ∷ lines (drop (position_or_len (λ b. b == 10) text + 1) text)
lines_first [] less = absurd (omega arith)
lines_first (b ∷ bs) less =
    let n = position_or_len (λ c. c == 10) bs in
    elim (b == 10) as (λ v. cond (not v) (1 + n) 0 < length (b ∷ bs)
    → cond v ([] ∷ lines bs) (onto_first b (lines bs)) ≡ take (cond (not v) (1 + n) 0) (b ∷ bs) ∷ lines (drop (cond (not v) (1 + n) 0 + 1) (b ∷ bs))) [
      | true ↦ λ within. refl
      | false ↦ λ within.
          let later : 1 + n + 1 ≡ suc (n + 1) = omega arith in
          let here : 1 + n ≡ suc n = omega arith in
          rw later (rw here (ap (onto_first b) (lines_first bs (omega arith))))
    ] less

-- a text without a line feed is one line
pub lines_last : (text : List ℕ) → position_or_len (λ b. b == 10) text ≡ length text → 0 < length text → lines text ≡ text ∷ []
lines_last [] is some = absurd (omega arith)
lines_last (b ∷ []) is some =
    elim (b == 10) as (λ v. cond (not v) (1 + 0) 0 ≡ length (b ∷ []) → cond v ([] ∷ lines []) (onto_first b (lines [])) ≡ (b ∷ []) ∷ []) [
      | true ↦ λ whole. let none : 0 ≡ suc zero = whole in absurd (omega arith)
      | false ↦ λ whole. refl
    ] is
lines_last (b ∷ c ∷ cs) is some =
    let n = position_or_len (λ x. x == 10) (c ∷ cs) in
    elim (b == 10) as (λ v. cond (not v) (1 + n) 0 ≡ length (b ∷ c ∷ cs) → cond v ([] ∷ lines (c ∷ cs)) (onto_first b (lines (c ∷ cs))) ≡ (b ∷ c ∷ cs) ∷ []) [
      | true ↦ λ whole. let none : 0 ≡ suc (length (c ∷ cs)) = whole in absurd (omega arith)
      | false ↦ λ whole. ap (onto_first b) (lines_last (c ∷ cs) (omega arith) (omega arith))
    ] is

-- the same for the two parts that the code makes at the line feed
pub lines_cut : (text : List ℕ) (end : ℕ) → end ≡ position_or_len (λ b. b == 10) text → end < length text
    → lines text ≡ take end text ∷ lines (take (length text - (end + 1)) (drop (end + 1) text))
lines_cut text end is less =
    let rest : take (length text - (end + 1)) (drop (end + 1) text) ≡ drop (end + 1) text =
    take_all _ _ (omega (arith, length-drop (end + 1) text)) in
    rw rest (rw is (lines_first text (omega arith)))

-- the same for a text that is one line
pub lines_whole : (text : List ℕ) (end : ℕ) → end ≡ position_or_len (λ b. b == 10) text → length text ≤ end → 0 < length text → lines text ≡ text ∷ []
lines_whole text end is most some =
    let within = prefix_len-le-length (λ b. not (b == 10)) text in
    lines_last text (omega arith) some

-- an empty text has no lines
pub lines_none : (text : List ℕ) → length text ≡ 0 → lines text ≡ []
lines_none [] none = refl
lines_none (b ∷ bs) none = absurd (omega arith)

-- white space at the front does not change the words
pub words_after : (text : List ℕ) (n : ℕ) → ((i : ℕ) → i < n → is_ascii_whitespace (get_or text i 0) ≡ true) → words text ≡ words (drop n text)
words_after text zero white = refl
words_after [] (suc n) white = refl
words_after (b ∷ bs) (suc n) white =
    ap (λ v. cond v (words bs) (cond (begins_word bs) (onto_first b (words bs)) ((b ∷ []) ∷ words bs))) (white 0 (omega arith))
    ∙ words_after bs n (λ i less. white (suc i) (omega arith))

-- a text that does not begin with a word begins with white space or is empty
none_before : (text : List ℕ) → begins_word text ≡ false → position_or_len is_ascii_whitespace text ≡ 0
none_before [] white = refl
none_before (b ∷ bs) white = ap (λ v. cond v (1 + position_or_len is_ascii_whitespace bs) 0) white

-- the words of a text that begins with a word are that word and the words of the rest
pub words_first : (text : List ℕ) → begins_word text ≡ true
    → words text ≡ take (position_or_len is_ascii_whitespace text) text ∷ words (drop (position_or_len is_ascii_whitespace text) text)
words_first [] begins = absurd (true≢false (sym begins))
words_first (b ∷ bs) begins =
    let n = position_or_len is_ascii_whitespace bs in
    let rest : cond (begins_word bs) (onto_first b (words bs)) ((b ∷ []) ∷ words bs) ≡ (b ∷ take n bs) ∷ words (drop n bs) =
    elim (begins_word bs) as (λ v. begins_word bs ≡ v → cond v (onto_first b (words bs)) ((b ∷ []) ∷ words bs) ≡ (b ∷ take n bs) ∷ words (drop n bs)) [
      | true ↦ λ h. ap (onto_first b) (words_first bs h)
      | false ↦ λ h. let none : n ≡ 0 = none_before bs h in rw none refl
    ] refl in
    elim (is_ascii_whitespace b) as (λ v. not v ≡ true
    → cond v (words bs) (cond (begins_word bs) (onto_first b (words bs)) ((b ∷ []) ∷ words bs)) ≡ take (cond (not v) (1 + n) 0) (b ∷ bs) ∷ words (drop (cond (not v) (1 + n) 0) (b ∷ bs))) [
      | true ↦ λ e. absurd (true≢false (sym e))
      | false ↦ λ e. let here : 1 + n ≡ suc n = omega arith in rw here rest
    ] begins

-- removing the white space at the front does not change the words
pub words_trimmed : (text rest : List ℕ) → IsTrimAsciiStart text rest → words text ≡ words rest
words_trimmed text rest (n, is, long, white, stops) = words_after text n white ∙ ap words (sym is)

-- if nothing is left, there are no words
pub words_none : (text rest : List ℕ) → IsTrimAsciiStart text rest → length rest ≡ 0 → words text ≡ []
words_none text [] trims none = words_trimmed text [] trims
words_none text (b ∷ bs) trims none = absurd (omega arith)

-- if something is left, it begins with a word
begins_at : (text : List ℕ) (n : ℕ) → n < length text → is_ascii_whitespace (get_or text n 0) ≡ false → begins_word (drop n text) ≡ true
begins_at [] n less stops = absurd (omega arith)
begins_at (b ∷ bs) zero less stops = ap not stops
begins_at (b ∷ bs) (suc n) less stops = begins_at bs n (omega arith) stops

pub words_cut : (text rest : List ℕ) → IsTrimAsciiStart text rest → 0 < length rest
    → words text ≡ take (position_or_len is_ascii_whitespace rest) rest ∷ words (drop (position_or_len is_ascii_whitespace rest) rest)
words_cut text rest (n, is, long, white, stops) some =
    let less : n < length text = omega arith in
    let begins : begins_word rest ≡ true = ap begins_word is ∙ begins_at text n less (stops less) in
    words_trimmed text rest (n, is, long, white, stops) ∙ words_first rest begins
