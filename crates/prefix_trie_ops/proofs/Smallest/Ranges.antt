-- Parts of a list from one index up to another, item by item: for the sets of values.
use Rattle.std.proofs.Common.{◌≡◌, ◌∙◌, ◌+◌, ◌-◌, ◌<◌, ◌≤◌, ◌++◌, ℕ, zero, suc, nat_le, leb-true, leb-false, true, false, List, [], ◌∷◌, length, take, drop, get_or, slice_range, nat_lt, ltb-true, ltb-false, Bor, Option, Some, None, is_some, true≢false, ap, sym, subst, refl, arith, length-append, length-drop}
use Rattle.std.specs.Option.{option_copied, unwrap_or, IfSome}
use Rattle.std.proofs.Math.Seq.{drop-cons}
use Rattle.std.proofs.lemmas.List.{append_assoc, drop-append-le, take-append-le}

module _ {X : Type 0} where
  -- a part begins with the item at its first index
  pub range_step : (xs : List X) (i end : ℕ) (x : X) → i < length xs → x ≡ get_or xs i x → i < end → slice_range xs i end ≡ x ∷ slice_range xs (i + 1) end
  range_step xs i end x within is less =
      let more : suc i ≡ i + 1 = omega arith in
      let n : end - i ≡ suc (end - (i + 1)) = omega arith in
      ap (λ k. take k (drop i xs)) n ∙ ap (take (suc (end - (i + 1)))) (drop-cons xs i x within)
      ∙ ap (λ y. y ∷ take (end - (i + 1)) (drop (suc i) xs)) (sym is) ∙ ap (λ k. x ∷ take (end - (i + 1)) (drop k xs)) more

  pub range_empty : (xs : List X) (i end : ℕ) → end ≤ i → slice_range xs i end ≡ []
  range_empty xs i end over = let n : end - i ≡ 0 = omega arith in ap (λ k. take k (drop i xs)) n

  -- the items from an index on begin with the item there
  pub drop_first : (xs : List X) (i : ℕ) (x : X) → i < length xs → x ≡ get_or xs i x → drop i xs ≡ x ∷ drop (i + 1) xs
  drop_first xs i x within is =
      let more : suc i ≡ i + 1 = omega arith in
      drop-cons xs i x within ∙ ap (λ y. y ∷ drop (suc i) xs) (sym is) ∙ ap (λ k. x ∷ drop k xs) more

  pub drop_past : (xs : List X) (i : ℕ) → length xs ≤ i → drop i xs ≡ []
  drop_past [] zero over = refl
  drop_past [] (suc i) over = refl
  drop_past (y ∷ ys) zero over = absurd (omega arith)
  drop_past (y ∷ ys) (suc i) over = drop_past ys i (omega arith)

  take_none : (n : ℕ) (xs : List X) → xs ≡ [] → take n xs ≡ []
  take_none zero xs none = refl
  take_none (suc n) xs none = ap (take (suc n)) none

  -- past the end of the list there is no item
  pub range_past : (xs : List X) (i end : ℕ) → length xs ≤ i → slice_range xs i end ≡ slice_range xs (i + 1) end
  range_past xs i end past = take_none (end - i) (drop i xs) (drop_past xs i past) ∙ sym (take_none (end - (i + 1)) (drop (i + 1) xs) (drop_past xs (i + 1) (omega arith)))

  -- items that are appended change no part
  pub range_append : (xs ys : List X) (i end : ℕ) → end ≤ length xs → slice_range (xs ++ ys) i end ≡ slice_range xs i end
  range_append xs ys i end within = elim (nat_le i end) as (λ b. nat_le i end ≡ b → slice_range (xs ++ ys) i end ≡ slice_range xs i end) [
    | true ↦ λ l.
        let ordered : i ≤ end = leb-true i end l in
        let short = length-drop i xs in
        ap (take (end - i)) (drop-append-le i xs ys (omega arith)) ∙ take-append-le (end - i) (drop i xs) ys (omega arith)
    | false ↦ λ l.
        let turned : end ≤ i = omega (arith, leb-false i end l) in
        range_empty (xs ++ ys) i end turned ∙ sym (range_empty xs i end turned)
  ] refl

  -- a part of a list to which items were appended begins with the item at its first index
  pub range_step_in : (xs ys all : List X) (i end : ℕ) (x : X) → all ≡ xs ++ ys → end ≤ length xs → i < length all → x ≡ get_or all i x → i < end → slice_range xs i end ≡ x ∷ slice_range xs (i + 1) end
  range_step_in xs ys all i end x whole short within is less =
      sym (range_append xs ys i end short) ∙ ap (λ zs. slice_range zs i end) (sym whole) ∙ range_step all i end x within is less
      ∙ ap (λ zs. x ∷ slice_range zs (i + 1) end) whole ∙ ap (λ zs. x ∷ zs) (range_append xs ys (i + 1) end short)

  -- what a read of an index gives is the item there
  pub read_at : (read : Option (Bor X)) (all : List X) (i : ℕ) (x : X) → option_copied read ≡ Some x → is_some read ≡ nat_lt i (length all) → IfSome read (λ b. b.now ≡ get_or all i b.now)
      → (i < length all) × (x ≡ get_or all i x)
  read_at None all i x is found at = absurd (true≢false (sym (ap is_some is)))
  read_at (Some b) all i x is found at =
      let same : b.now ≡ x = ap (λ o. unwrap_or o x) is in
      (ltb-true i (length all) (sym found), subst (λ y. y ≡ get_or all i y) same at)

  -- if it gives nothing, there is no item
  pub read_past : (read : Option (Bor X)) (all : List X) (i : ℕ) → option_copied read ≡ None → is_some read ≡ nat_lt i (length all) → length all ≤ i
  read_past None all i is found = ltb-false i (length all) (sym found)
  read_past (Some b) all i is found = absurd (true≢false (ap is_some is))

  -- a read of a part's first index gives the part's first item
  pub read_first : (read : Option (Bor X)) (all : List X) (i end : ℕ) → is_some read ≡ nat_lt i (length all) → IfSome read (λ b. b.now ≡ get_or all i b.now) → i < end → end ≤ length all
      → (x : X) × (option_copied read ≡ Some x) × (slice_range all i end ≡ x ∷ slice_range all (i + 1) end)
  read_first None all i end found at less within = let past = ltb-false i (length all) (sym found) in absurd (omega arith)
  read_first (Some b) all i end found at less within = (b.now, refl, range_step all i end b.now (ltb-true i (length all) (sym found)) at less)

  -- two parts are appended one after the other
  pub both_appended : (old found first second before between after whole : List X) (end end' i j : ℕ) → end ≤ length old → end' ≤ length old → first ≡ slice_range old i end → second ≡ slice_range old j end'
      → before ≡ old ++ found → (end ≤ length before → between ≡ before ++ slice_range before i end) → (end' ≤ length between → after ≡ between ++ slice_range between j end')
      → found ++ (first ++ second) ≡ whole → after ≡ old ++ whole
  both_appended old found first second before between after whole end end' i j within within' is is' start appended appended' join =
      let long : length before ≡ length old + length found = ap length start ∙ length-append old found in
      let one : before ++ slice_range before i end ≡ before ++ first = ap (λ zs. before ++ slice_range zs i end) start ∙ ap (λ zs. before ++ zs) (range_append old found i end within ∙ sym is) in
      let grown : between ≡ old ++ (found ++ first) = appended (omega arith) ∙ one ∙ ap (λ zs. zs ++ first) start ∙ append_assoc old found first in
      let long' : length between ≡ length old + length (found ++ first) = ap length grown ∙ length-append old (found ++ first) in
      let two : between ++ slice_range between j end' ≡ between ++ second = ap (λ zs. between ++ slice_range zs j end') grown ∙ ap (λ zs. between ++ zs) (range_append old (found ++ first) j end' within' ∙ sym is') in
      appended' (omega arith) ∙ two ∙ ap (λ zs. zs ++ second) grown ∙ append_assoc old (found ++ first) second ∙ ap (λ zs. old ++ zs) (append_assoc found first second ∙ join)
