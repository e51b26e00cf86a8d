-- The values that lines have: each is its own only field. For `load` and `Value`.
use Rattle.std.proofs.Common.{◌≡◌, ◌∙◌, ℕ, suc, ◌+◌, Bool, true, false, true≢false, not, cond, ◌||◌, List, [], ◌∷◌, take, refl, sym, ap, subst, inl, inr, arith}
use Rattle.std.specs.Char.{is_ascii_whitespace}
use Rattle.std.specs.List.{before_first, list_any, onto_first, position_or_len}
use Rattle.prefix_trie_joint.specs.declared.prefix.IpPrefix.{IpPrefix}
use Rattle.route_tables.specs.Lines.{begins_comment, begins_word, fields, words}
use Rattle.route_tables.specs.Routes.{AreFieldsOf, IsLineValue, IsRoute, IsValue, IsValueText}
use Rattle.route_tables.specs.declared.load.Reading.{Reading}
use Rattle.route_tables.specs.declared.load.TableKind.{TableKind}
use Rattle.route_tables.specs.declared.load.TableKind.TheVariants.{AnyValues}

-- a word: some bytes, and no white space
abbrev pub IsWord : List ℕ → Type 0
IsWord [] = ⊥
IsWord (b ∷ bs) = list_any is_ascii_whitespace (b ∷ bs) ≡ false

abbrev AreWords : List (List ℕ) → Type 0
AreWords [] = Unit {0}
AreWords (w ∷ ws) = IsWord w × AreWords ws

pub first_none : (b : Bool) (c : Bool) → (b || c) ≡ false → b ≡ false
first_none true c h = h
first_none false c h = refl

pub rest_none : (b : Bool) (c : Bool) → (b || c) ≡ false → c ≡ false
rest_none true c h = absurd (true≢false h)
rest_none false c h = h

both_none : (b : Bool) (c : Bool) → b ≡ false → c ≡ false → (b || c) ≡ false
both_none b c p q = ap (λ x. x || c) p ∙ q

-- a word is the only word of itself
pub words_of_word : (w : List ℕ) → IsWord w → words w ≡ w ∷ []
words_of_word [] is = absurd is
words_of_word (b ∷ []) is =
    ap (λ v. cond v (words []) (cond (begins_word []) (onto_first b (words [])) ((b ∷ []) ∷ words []))) (first_none (is_ascii_whitespace b) (list_any is_ascii_whitespace []) is)
words_of_word (b ∷ c ∷ cs) is =
    let rest : list_any is_ascii_whitespace (c ∷ cs) ≡ false = rest_none (is_ascii_whitespace b) (list_any is_ascii_whitespace (c ∷ cs)) is in
    ap (λ v. cond v (words (c ∷ cs)) (cond (begins_word (c ∷ cs)) (onto_first b (words (c ∷ cs))) ((b ∷ []) ∷ words (c ∷ cs)))) (first_none (is_ascii_whitespace b) (list_any is_ascii_whitespace (c ∷ cs)) is)
    ∙ ap (λ v. cond (not v) (onto_first b (words (c ∷ cs))) ((b ∷ []) ∷ words (c ∷ cs))) (first_none (is_ascii_whitespace c) (list_any is_ascii_whitespace cs) rest)
    ∙ ap (onto_first b) (words_of_word (c ∷ cs) rest)

-- a byte before the first word
onto_word : (b : ℕ) (ws : List (List ℕ)) → is_ascii_whitespace b ≡ false → AreWords ws → AreWords (onto_first b ws)
onto_word b [] plain are = (both_none (is_ascii_whitespace b) (list_any is_ascii_whitespace []) plain refl, tt)
onto_word b ([] ∷ ws) plain are = absurd are.0
onto_word b ((c ∷ cs) ∷ ws) plain are = (both_none (is_ascii_whitespace b) (list_any is_ascii_whitespace (c ∷ cs)) plain are.0, are.1)

pub are_words : (text : List ℕ) → AreWords (words text)
are_words [] = tt
are_words (b ∷ bs) =
    elim (is_ascii_whitespace b) as (λ v. is_ascii_whitespace b ≡ v → AreWords (cond v (words bs) (cond (begins_word bs) (onto_first b (words bs)) ((b ∷ []) ∷ words bs)))) [
      | true ↦ λ white. are_words bs
      | false ↦ λ plain. elim (begins_word bs) as (λ v. AreWords (cond v (onto_first b (words bs)) ((b ∷ []) ∷ words bs))) [
        | true ↦ onto_word b (words bs) plain (are_words bs)
        | false ↦ (both_none (is_ascii_whitespace b) (list_any is_ascii_whitespace []) plain refl, are_words bs)
      ]
    ] refl

-- ---- fields: words before the first that begins a comment

pub fields_next : (w : List ℕ) (ws : List (List ℕ)) → begins_comment w ≡ false → before_first begins_comment (w ∷ ws) ≡ w ∷ before_first begins_comment ws
fields_next w ws plain =
    let n : ℕ = position_or_len begins_comment ws in
    ap (λ v. take (cond (not v) (1 + n) 0) (w ∷ ws)) plain ∙ ap (λ k. take k (w ∷ ws)) (let one : 1 + n ≡ suc n = omega arith in one)

pub fields_end : (w : List ℕ) (ws : List (List ℕ)) → begins_comment w ≡ true → before_first begins_comment (w ∷ ws) ≡ []
fields_end w ws starts = ap (λ v. take (cond (not v) (1 + position_or_len begins_comment ws) 0) (w ∷ ws)) starts

-- a field: a word that begins no comment
abbrev pub IsField : List ℕ → Type 0
IsField w = IsWord w × (begins_comment w ≡ false)

abbrev AreFields : List (List ℕ) → Type 0
AreFields [] = Unit {0}
AreFields (w ∷ ws) = IsField w × AreFields ws

are_fields : (ws : List (List ℕ)) → AreWords ws → AreFields (before_first begins_comment ws)
are_fields [] are = tt
are_fields (w ∷ ws) are =
    elim (begins_comment w) as (λ v. begins_comment w ≡ v → AreFields (before_first begins_comment (w ∷ ws))) [
      | true ↦ λ starts. subst AreFields (sym (fields_end w ws starts)) tt
      | false ↦ λ plain. subst AreFields (sym (fields_next w ws plain)) ((are.0, plain), are_fields ws are.1)
    ] refl

-- a field is the only field of itself
pub fields_of_field : (w : List ℕ) → IsField w → fields w ≡ w ∷ []
fields_of_field w is = ap (before_first begins_comment) (words_of_word w is.0) ∙ fields_next w [] is.1

first_field : (line first : List ℕ) (later : List (List ℕ)) → fields line ≡ first ∷ later → IsField first × AreFields later
first_field line first later is = let all = subst AreFields is (are_fields (words line) (are_words line)) in (all.0, all.1)

-- and conversely
pub field_of_fields : (w : List ℕ) → fields w ≡ w ∷ [] → IsField w
field_of_fields w is = (first_field w w [] is).0

-- ---- the value of a line

of_any : (kind : TableKind) (value : List ℕ) → IsValueText kind value → IsValueText AnyValues value
of_any kind value is = record { utf8 = is.utf8; plain = is.plain; no_address = is.no_address; of_kind = tt }

of_value : (kind : TableKind) (later : List (List ℕ)) (value : List ℕ) → AreFields later → IsValue kind later value → IsLineValue value
of_value kind [] value are is = inl is.0
of_value kind (field ∷ rest) value are is =
    inr (of_any kind value is.2, subst (λ v. fields v ≡ v ∷ []) (sym is.1) (fields_of_field field are.0))

pub line_value : (reading : Reading) (line : List ℕ) (networks : List IpPrefix) (value : List ℕ) → IsRoute reading line networks value → IsLineValue value
line_value reading line networks value route = by route.are_fields
  where
    parts : IsField route.first × AreFields route.later
    parts = first_field line route.first route.later route.has_fields

    by : AreFieldsOf reading route.first route.later networks value → IsLineValue value
    by (inl are) = of_value reading.kind route.later value parts.1 are.is_value
    by (inr (last, rest, split, are)) = of_value reading.kind rest value (subst AreFields split parts.1).1.1 are.is_value
