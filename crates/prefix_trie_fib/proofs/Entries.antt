-- Entries of an index: what one says of its chunk, and what stays right when more are appended.
use Rattle.std.proofs.Common.{◌≡◌, ◌∙◌, inl, inr, ℕ, ◌+◌, ◌-◌, ◌*◌, ◌^◌, ◌<◌, ◌≤◌, List, [], ◌∷◌, ◌++◌, length, length-append, get_or, Option, None, Some, ap, sym, subst, arith, refl, pow-add, pow_pos}
use Rattle.std.proofs.Math.Nat.{lt_of_mul-lt-mul_right, mul-le-mul_right, mul-lt-mul_of_pos_right, mul_assoc}
use Rattle.std.proofs.Math.Seq.{get_or-append_seam}
use Rattle.std.proofs.lemmas.Bool.{cases_lt}
use Rattle.std.proofs.lemmas.List.{get_or_append_left}
use Rattle.std.specs.Option.{IfSome, MatchOption, unwrap_or}
use Rattle.prefix_trie_fib.specs.declared.index.chunk.Chunk.{Chunk}
use Rattle.prefix_trie_fib.specs.declared.index.chunk.Chunk.TheVariants.{Alone, Bitmap, Full, Many, Several, Split}
use Rattle.prefix_trie_fib.specs.Index.{Extends, HasParts, IsChunk, IsEntry, IsIndex, IsWhole}
use Rattle.prefix_trie_fib.specs.Line.{IsDivision}
use Rattle.prefix_trie_fib.specs.Search.{IsAmong, IsRangeOf, StartsBy}

module _ {V : Type 0} (rs : List (ℕ × V)) where
  -- a range that starts by a number starts by a greater one
  pub starts_later : (i m n : ℕ) → m ≤ n → StartsBy rs i m → StartsBy rs i n
  starts_later i m n le starts = record { inside = starts.inside; by = λ d. let b = starts.by d in omega (arith, b, le) }

  -- the range of a number is not before one that starts by the number
  pub not_before : IsDivision rs → (d : ℕ × V) (i last n : ℕ) → StartsBy rs i n → IsRangeOf rs last n → i ≤ last
  not_before division d i last n starts range = elim (cases_lt last i) [
    | inr le ↦ le
    | inl lt ↦
        let ends = range.ends d (let inside = starts.inside in omega (arith, lt, inside)) in
        let by = starts.by d in
        elim (cases_lt (last + 1) i) [
          | inl more ↦ (let u = division.rising (last + 1) i d more starts.inside in absurd (omega (arith, ends, by, u)))
          | inr at ↦ (let e : last + 1 ≡ i = omega (arith, lt, at) in absurd (omega (arith, ends, by, ap (λ k. (get_or rs k d).0) e)))
        ]
  ]

  -- the range of a number is one of those that it is among
  pub among_bounds : IsDivision rs → (d : ℕ × V) (first count n i : ℕ) → IsAmong rs first count n → IsRangeOf rs i n → (first ≤ i) × (i < first + count)
  among_bounds division d first count n i among range = (
    not_before division d first i n among.starts range,
    elim (cases_lt i (first + count)) [
      | inl lt ↦ lt
      | inr le ↦ (let above = among.above i d le range.starts.inside in let by = range.starts.by d in absurd (omega (arith, above, by)))
    ],
  )

  -- ranges from one that starts at a number or after it do so too
  pub from_middle : IsDivision rs → (n middle : ℕ) → ((d : ℕ × V) → n ≤ (get_or rs middle d).0) → (k : ℕ) (d : ℕ × V) → middle ≤ k → k < length rs → n ≤ (get_or rs k d).0
  from_middle division n middle lt k d le in_it = elim (cases_lt middle k) [
    | inl more ↦ let l = lt d in let u = division.rising middle k d more in_it in omega (arith, l, u)
    | inr at ↦ let e : middle ≡ k = omega (arith, le, at) in subst (λ j. n ≤ (get_or rs j d).0) e (lt d)
  ]

-- ---- a list of entries that is appended to

module _ {T : Type 0} where
  pub extends_self : (xs : List (Chunk T)) → Extends xs xs
  extends_self xs = record { longer = omega arith; same = λ k d lt. refl }

  pub extends_pushed : (xs ys : List (Chunk T)) (x : Chunk T) → Extends xs ys → Extends xs (ys ++ x ∷ [])
  extends_pushed xs ys x ext = record {
    longer = let l = ext.longer in omega (arith, l, length-append ys (x ∷ []));
    same = λ k d lt. get_or_append_left ys (x ∷ []) d k (let l = ext.longer in omega (arith, lt, l)) ∙ ext.same k d lt;
  }

  module _ (rs : List (ℕ × Option T)) where
    parts_kept : (w bits count : ℕ) (parts more : List (Chunk T)) (base q : ℕ) → Extends parts more → HasParts w bits rs count parts base q → HasParts w bits rs count more base q
    parts_kept w bits count parts more base q ext has = record {
      inside = let i = has.inside in let l = ext.longer in omega (arith, i, l);
      right = λ p d lt. subst (IsChunk w bits rs (q + p)) (sym (ext.same (base + p) d (let i = has.inside in omega (arith, i, lt)))) (has.right p d lt);
    }

    entry_kept : (w bits c : ℕ) (parts more : List (Chunk T)) (x : Chunk T) → Extends parts more → IsEntry w bits rs parts c x → IsEntry w bits rs more c x
    entry_kept w bits c parts more (Alone valued v) ext h = h
    entry_kept w bits c parts more (Bitmap rest starts first) ext h = h
    entry_kept w bits c parts more (Full count first) ext h = h
    entry_kept w bits c parts more (Several count first) ext h = h
    entry_kept w bits c parts more (Many first) ext h = h
    entry_kept w bits c parts more (Split p base) ext h = record {
      some = h.some;
      few = h.few;
      within = h.within;
      has_parts = parts_kept w (bits + p) (2 ^ p) parts more base (c * 2 ^ p) ext h.has_parts;
    }

    -- an entry of the whole chunk
    pub whole_entry : (w bits c : ℕ) (parts : List (Chunk T)) (x : Chunk T) → IsWhole x → IsChunk w bits rs c x → IsEntry w bits rs parts c x
    whole_entry w bits c parts (Alone valued v) t h = h
    whole_entry w bits c parts (Bitmap rest starts first) t h = h
    whole_entry w bits c parts (Full count first) t h = h
    whole_entry w bits c parts (Several count first) t h = h
    whole_entry w bits c parts (Many first) t h = h
    whole_entry w bits c parts (Split p base) t h = absurd t

    -- the entry of a chunk that is not split is one of the whole chunk
    pub entry_of_whole : (w bits c : ℕ) (parts : List (Chunk T)) (x : Chunk T) → IsWhole x → IsEntry w bits rs parts c x → IsChunk w bits rs c x
    entry_of_whole w bits c parts (Alone valued v) t h = h
    entry_of_whole w bits c parts (Bitmap rest starts first) t h = h
    entry_of_whole w bits c parts (Full count first) t h = h
    entry_of_whole w bits c parts (Several count first) t h = h
    entry_of_whole w bits c parts (Many first) t h = h
    entry_of_whole w bits c parts (Split p base) t h = absurd t

    pub index_pushed : (w bits : ℕ) (chunks parts more : List (Chunk T)) (x : Chunk T) → Extends parts more → IsIndex w bits rs chunks parts → IsEntry w bits rs more (length chunks) x
        → IsIndex w bits rs (chunks ++ x ∷ []) more
    index_pushed w bits chunks parts more x ext right here c d in_it =
        let longer : length (chunks ++ x ∷ []) ≡ length chunks + 1 = length-append chunks (x ∷ []) in
        elim (cases_lt c (length chunks)) [
          | inl old ↦ subst (IsEntry w bits rs more c) (sym (get_or_append_left chunks (x ∷ []) d c old)) (entry_kept w bits c parts more (get_or chunks c d) ext (right c d old))
          | inr new ↦
              let is : c ≡ length chunks = omega (arith, in_it, new, longer) in
              subst (IsEntry w bits rs more c) (sym (ap (λ k. get_or (chunks ++ x ∷ []) k d) is ∙ get_or-append_seam chunks x [] d))
              (subst (λ k. IsEntry w bits rs more k x) (sym is) here)
        ]

  -- the entries of the first i parts of a chunk from low on are appended
  pub record PartsSoFar (w bits : ℕ) (rs : List (ℕ × Option T)) (low : ℕ) (old now : List (Chunk T)) (i : ℕ) : Type 0 where
    pub extends : Extends old now
    pub long : length now ≡ length old + i
    pub right : (q p : ℕ) (d : Chunk T) → low ≡ q * 2 ^ (w - bits) → p < i → IsChunk w bits rs (q + p) (get_or now (length old + p) d)

  module _ (w bits : ℕ) (rs : List (ℕ × Option T)) (low : ℕ) (old : List (Chunk T)) where
    pub no_parts : PartsSoFar w bits rs low old old 0
    no_parts = record { extends = extends_self old; long = omega arith; right = λ q p d is lt. absurd (omega (arith, lt)) }

    pub part_pushed : (now : List (Chunk T)) (i : ℕ) (x : Chunk T) → PartsSoFar w bits rs low old now i → ((q : ℕ) → low ≡ q * 2 ^ (w - bits) → IsChunk w bits rs (q + i) x) → PartsSoFar w bits rs low old (now ++ x ∷ []) (i + 1)
    part_pushed now i x so_far here = record {
      extends = extends_pushed old now x so_far.extends;
      long = length-append now (x ∷ []) ∙ (let l = so_far.long in omega (arith, l));
      right = λ q p d from lt. let long = so_far.long in elim (cases_lt p i) [
        | inl before ↦ subst (IsChunk w bits rs (q + p)) (sym (get_or_append_left now (x ∷ []) d (length old + p) (omega (arith, before, long)))) (so_far.right q p d from before)
        | inr at ↦
            let is : p ≡ i = omega (arith, lt, at) in
            let place : length old + p ≡ length now = omega (arith, is, long) in
            subst (IsChunk w bits rs (q + p)) (sym (ap (λ k. get_or (now ++ x ∷ []) k d) place ∙ get_or-append_seam now x [] d))
            (subst (λ k. IsChunk w bits rs (q + k) x) (sym is) (here q from))
      ];
    }

    pub all_parts : (now : List (Chunk T)) (i q count : ℕ) → count ≤ i → low ≡ q * 2 ^ (w - bits) → PartsSoFar w bits rs low old now i → HasParts w bits rs count now (length old) q
    all_parts now i q count all is so_far = record {
      inside = let l = so_far.long in omega (arith, l, all);
      right = λ p d lt. so_far.right q p d is (omega (arith, lt, all));
    }

-- ---- what an entry says

pub match_option : {K : Type 0} (o : Option K) (P P' : Type 0) (Q Q' : K → Type 0) → (P → P') → ((k : K) → Q k → Q' k) → MatchOption o P Q → MatchOption o P' Q'
match_option None P P' Q Q' f g h = f h
match_option (Some k) P P' Q Q' f g h = g k h

pub if_some : {K : Type 0} (o : Option K) (P : Type 0) (Q Q' : K → Type 0) → ((k : K) → Q k → Q' k) → MatchOption o P Q → IfSome o Q'
if_some None P Q Q' g h = tt
if_some (Some k) P Q Q' g h = g k h

pub some_too : {K : Type 0} (o : Option K) (Q Q' : K → Type 0) → ((k : K) → Q k → Q' k) → IfSome o Q → IfSome o Q'
some_too None Q Q' g h = tt
some_too (Some k) Q Q' g h = g k h

-- the next address, or the same one at the end of all addresses
pub next_or : {K : Type 0} (f : K → ℕ) (IsKey : K → Type 0) (o : Option K) (at x : K) (step top : ℕ) → MatchOption o (top ≤ f at + step) (λ k. IsKey k × (f k ≡ f at + step)) → x ≡ unwrap_or o at
    → (f at ≤ f x) × (f at + step < top → f x ≡ f at + step)
next_or f IsKey None at x step top h is = (let e = ap f is in omega (arith, e), λ lt. absurd (omega (arith, h, lt)))
next_or f IsKey (Some k) at x step top h is = (let e = ap f is in let a = h.1 in omega (arith, e, a), λ lt. ap f is ∙ h.1)

-- the parts of a chunk are as many addresses as the chunk
pub split_size : (w bits p : ℕ) → bits + p ≤ w → 2 ^ p * 2 ^ (w - (bits + p)) ≡ 2 ^ (w - bits)
split_size w bits p fits = sym (ap (λ n. 2 ^ n) (let e : w - bits ≡ p + (w - (bits + p)) = omega (arith, fits) in e) ∙ pow-add 2 p (w - (bits + p)))

pub split_at : (w bits p c low : ℕ) → bits + p ≤ w → low ≡ c * 2 ^ (w - bits) → low ≡ c * 2 ^ p * 2 ^ (w - (bits + p))
split_at w bits p c low fits is = is ∙ ap (λ n. c * n) (sym (split_size w bits p fits)) ∙ sym (mul_assoc c (2 ^ p) (2 ^ (w - (bits + p))))

module _ (w bits c at step : ℕ) (within : bits ≤ w) (is_step : step ≡ 2 ^ (w - bits)) (is_at : at ≡ c * 2 ^ (w - bits)) where
  whole : 2 ^ w ≡ 2 ^ bits * 2 ^ (w - bits)
  whole = ap (λ n. 2 ^ n) (let e : w ≡ bits + (w - bits) = omega (arith, within) in e) ∙ pow-add 2 bits (w - bits)

  pub next_at : at + step ≡ (c + 1) * 2 ^ (w - bits)
  next_at = let e : (c + 1) * 2 ^ (w - bits) ≡ c * 2 ^ (w - bits) + 2 ^ (w - bits) = omega arith in omega (arith, e, is_step, is_at)

  pub more_chunks : at + step < 2 ^ w → c + 1 < 2 ^ bits
  more_chunks low = lt_of_mul-lt-mul_right (2 ^ (w - bits)) {m = c + 1} {n = 2 ^ bits} (omega (arith, low, whole, next_at))

  pub within_line : c < 2 ^ bits → at + 2 ^ (w - bits) ≤ 2 ^ w
  within_line in_it =
      let le : (c + 1) * 2 ^ (w - bits) ≤ 2 ^ bits * 2 ^ (w - bits) = mul-le-mul_right {m = c + 1} {n = 2 ^ bits} (2 ^ (w - bits)) (omega (arith, in_it)) in
      omega (arith, le, whole, next_at, is_step)

  pub last_chunk : c < 2 ^ bits → 2 ^ w ≤ at + step → c + 1 ≡ 2 ^ bits
  last_chunk in_it over = elim (cases_lt (c + 1) (2 ^ bits)) [
    | inl more ↦
        let lt : (c + 1) * 2 ^ (w - bits) < 2 ^ bits * 2 ^ (w - bits) = mul-lt-mul_of_pos_right {m = c + 1} {n = 2 ^ bits} {k = 2 ^ (w - bits)} more (pow_pos (w - bits)) in
        absurd (omega (arith, lt, over, whole, next_at))
    | inr at_end ↦ omega (arith, in_it, at_end)
  ]
