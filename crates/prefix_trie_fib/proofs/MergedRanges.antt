-- One more range keeps a line merged, below the end of all addresses, and right for the numbers before the next one.
use Rattle.std.proofs.Common.{◌≡◌, ◌∙◌, ℕ, ◌-◌, ◌<◌, ◌≤◌, ◌⊎◌, Bool, true, false, List, [], ◌∷◌, ◌++◌, length, length-append, get_or, Option, None, Some, inl, inr, ap, ap₂, sym, subst, arith, refl}
use Rattle.std.proofs.Math.Seq.{get_or-append_seam}
use Rattle.std.proofs.lemmas.Bool.{cases_lt}
use Rattle.std.proofs.lemmas.List.{get_or_append_left}
use Rattle.prefix_trie_fib.specs.Line.{AreAlike, StartBelow, are_same}
use Rattle.prefix_trie_fib.specs.Sweep.{IsDoneTo}
use Rattle.prefix_trie_fib.proofs.RangeValues.{first_pushed, found_at, merged_pushed, pushed_above, pushed_last, rising_pushed}

-- values that `==` calls equal are the same, so two results that do not differ are the same
pub same_exact : {T : Type 0} (eq : T → T → Bool) → ((x y : T) → eq x y ≡ true → x ≡ y) → (a b : Option T) → are_same eq a b ≡ true → a ≡ b
same_exact eq exact None None h = refl
same_exact eq exact None (Some y) h = cc
same_exact eq exact (Some x) None h = cc
same_exact eq exact (Some x) (Some y) h = ap Some (exact x y h)

pub alike_exact : {T : Type 0} (eq : T → T → Bool) → ((x y : T) → eq x y ≡ true → x ≡ y) → (a b : Option T) → AreAlike eq a b → a ≡ b
alike_exact eq exact a b (inl is) = is
alike_exact eq exact a b (inr h) = same_exact eq exact a b h

pub alike_to : {T : Type 0} (eq : T → T → Bool) (a b b' : Option T) → b ≡ b' → AreAlike eq a b → AreAlike eq a b'
alike_to eq a b b' is h = subst (AreAlike eq a) is h

-- a range that starts below a number is appended
pub pushed_below : {V : Type 0} (top : ℕ) (rs : List (ℕ × V)) (r : ℕ × V) → StartBelow top rs → r.0 < top → StartBelow top (rs ++ r ∷ [])
pushed_below {V} top rs r below low k d in_it = elim (cases_lt k (length rs)) [
  | inl old ↦
      let at = ap {A = ℕ × V} (λ x. x.0) (get_or_append_left rs (r ∷ []) d k old) in
      let b = below k d old in
      omega (arith, at, b)
  | inr new ↦
      let is : k ≡ length rs = omega (arith, new, in_it, length-append rs (r ∷ [])) in
      let at : (get_or (rs ++ r ∷ []) k d).0 ≡ r.0 = ap (λ j. (get_or (rs ++ r ∷ []) j d).0) is ∙ ap {A = ℕ × V} (λ x. x.0) (get_or-append_seam rs r [] d) in
      omega (arith, at, low)
]

module _ {T : Type 0} (top : ℕ) (same : T → T → Bool) (of : ℕ → Option T) where
  -- at first there is no range
  pub done_none : (line : List (ℕ × Option T)) (at : ℕ) → line ≡ [] → at ≡ 0 → IsDoneTo top same of line at
  done_none [] at none zero = record {
    some = λ lt. absurd (omega (arith, lt, zero));
    first = λ d lt. absurd (omega (arith, lt));
    rising = λ j k d lt in_it. absurd (omega (arith, in_it));
    merged = λ k d in_it. absurd (omega (arith, in_it));
    below = λ k d lt. absurd (omega (arith, lt));
    right = λ n lt low. absurd (omega (arith, lt, zero));
  }
  done_none (x ∷ xs) at none zero = cc

  module _ (line : List (ℕ × Option T)) (at to : ℕ) (v : Option T) (done : IsDoneTo top same of line at) (later : at < to) (here : (n : ℕ) → at ≤ n → n < to → n < top → of n ≡ v) where
    started : (k : ℕ) (d : ℕ × Option T) → k < length line → (get_or line k d).0 < to
    started k d lt = let b = done.below k d lt in omega (arith, b, later)

    alone : length line ≡ 0 → at ≡ 0
    alone none = elim (cases_lt 0 at) [
      | inl some ↦ absurd (omega (arith, done.some some, none))
      | inr least ↦ omega (arith, least)
    ]

    done_pushed : ((d : ℕ × Option T) → 0 < length line → are_same same (get_or line (length line - 1) d).1 v ≡ false) → IsDoneTo top same of (line ++ (at, v) ∷ []) to
    done_pushed differs = record {
      some = λ _. omega (arith, length-append line ((at, v) ∷ []));
      first = λ d _. first_pushed line (at, v) done.first alone d;
      rising = rising_pushed line (at, v) done.rising done.below;
      merged = merged_pushed (are_same same) line (at, v) done.merged differs;
      below = pushed_below to line (at, v) started later;
      right = λ n lt low. elim (cases_lt n at) [
        | inl before ↦ subst (λ x. AreAlike same x (of n)) (sym (pushed_above None line (at, v) n before)) (done.right n before low)
        | inr le ↦ inl (pushed_last None line (at, v) n (λ k d in_it. let b = done.below k d in_it in omega (arith, b, le)) le ∙ sym (here n le lt low))
      ];
    }

    done_kept : 0 < length line → ((d : ℕ × Option T) → are_same same (get_or line (length line - 1) d).1 v ≡ true) → IsDoneTo top same of line to
    done_kept some kept = record {
      some = λ _. some;
      first = done.first;
      rising = done.rising;
      merged = done.merged;
      below = started;
      right = λ n lt low. elim (cases_lt n at) [
        | inl before ↦ done.right n before low
        | inr le ↦ inr (ap₂ (are_same same)
            (found_at None line (length line - 1) n (0, v) (omega (arith, some)) (λ k in_it. let b = done.below k (0, v) (omega (arith, in_it, some)) in omega (arith, b, le)) (λ more. absurd (omega (arith, more, some))))
            (here n le lt low) ∙ kept (0, v))
      ];
    }

    -- one range more, or a last range that goes on
    pub done_more : (line' : List (ℕ × Option T))
        → ((line' ≡ line ++ (at, v) ∷ []) × ((d : ℕ × Option T) → 0 < length line → are_same same (get_or line (length line - 1) d).1 v ≡ false))
        ⊎ ((line' ≡ line) × (0 < length line) × ((d : ℕ × Option T) → are_same same (get_or line (length line - 1) d).1 v ≡ true)) → IsDoneTo top same of line' to
    done_more line' (inl pushed) = subst (λ l. IsDoneTo top same of l to) (sym pushed.0) (done_pushed pushed.1)
    done_more line' (inr kept) = subst (λ l. IsDoneTo top same of l to) (sym kept.0) (done_kept kept.1 kept.2)
