-- What holds where the path of a network ends.
use Rattle.std.proofs.Common.{◌≡◌, ◌∙◌, ◌⊎◌, ℕ, ◌+◌, ◌-◌, ◌*◌, ◌%◌, ◌^◌, ◌<◌, ◌≤◌, sym, ap, subst, arith, inl, inr}
use Rattle.std.proofs.lemmas.Bool.{cases_Bool, cases_lt, cond-true, cond-false}
use Rattle.std.specs.Prelude.{nat_le}
use Rattle.prefix_trie_forwarding.specs.Paths.{IsEnd}
use Rattle.prefix_trie_forwarding.specs.Walks.{AreChanged, AreSlots, HasPath, HasValues, IsAddress, IsChanged, IsRun, changed}
use Rattle.prefix_trie_forwarding.specs.declared.slots.path.End.{End}
use Rattle.prefix_trie_forwarding.proofs.Filling.{IsOnce}
use Rattle.prefix_trie_forwarding.proofs.FilledRuns.{run_changed}
use Rattle.prefix_trie_forwarding.proofs.Prefixes.{run_fits, run_of}

-- a change of answers changes none twice
to_stays : (least most to : ℕ) → changed least most to to ≡ to
to_stays least most to = elim (cases_Bool (nat_le least to)) [
  | inl l ↦ cond-true _ _ _ l ∙ elim (cases_Bool (nat_le to most)) [ inl h ↦ cond-true _ _ _ h | inr h ↦ cond-false _ _ _ h ]
  | inr l ↦ cond-false _ _ _ l
]

changed_cases : (least most to e : ℕ) → (changed least most to e ≡ to) ⊎ (changed least most to e ≡ e)
changed_cases least most to e = elim (cases_Bool (nat_le least e)) [
  | inl l ↦ elim (cases_Bool (nat_le e most)) [ inl h ↦ inl (cond-true _ _ _ l ∙ cond-true _ _ _ h) | inr h ↦ inr (cond-true _ _ _ l ∙ cond-false _ _ _ h) ]
  | inr l ↦ inr (cond-false _ _ _ l)
]

pub changed_once : (least most to : ℕ) → to < 2147483648 → IsOnce (changed least most to)
changed_once least most to small = record {
  once = λ e. elim (changed_cases least most to e) [ inl f ↦ ap (changed least most to) f ∙ to_stays least most to ∙ sym f | inr f ↦ ap (changed least most to) f ];
  small = λ e l. elim (changed_cases least most to e) [ inl f ↦ subst (λ n. n < 2147483648) (sym f) small | inr f ↦ subst (λ n. n < 2147483648) (sym f) l ];
}

module _ (r levels : ℕ) (s : ℕ → ℕ) (a len : ℕ) (end : End) (is : IsEnd r levels s a len end) where
  -- a path that is there is walked to its end
  pub end_reached : HasPath (2 ^ r) levels s a (r + 8 * levels - len) → len ≤ r + 8 * levels → len ≤ end.depth
  end_reached path fits = elim (cases_lt end.depth len) [
    | inl l ↦
        let group = path is.steps is.left end.at is.reached (omega (arith, is.depth, l, fits)) in
        let answer = is.stops l in
        absurd (omega (arith, group, answer))
    | inr g ↦ g
  ]

  module _ (reached : len ≤ end.depth) (aligned : a % 2 ^ (r + 8 * levels - len) ≡ 0) (ia : IsAddress (2 ^ r) levels a) where
    pub end_run : IsRun (2 ^ r) levels a is.steps is.left (end.depth - len) end.at s
    end_run =
        run_of r levels a is.steps is.left (end.depth - len) end.at (r + 8 * levels - len) s (omega (arith, is.depth, reached))
        (λ l. (let h = is.last (omega (arith, is.depth, l)) in omega (arith, h)))
        (λ top. omega (arith, is.depth, top))
        aligned ia is.reached

    pub end_small : r ≤ 24 → end.depth - len ≤ 24
    end_small few = elim (cases_lt r end.depth) [ inl l ↦ (let h = is.last l in omega (arith, h)) | inr g ↦ omega (arith, few, g) ]

    pub end_fits : (groups count size : ℕ) → AreSlots groups s → count ≡ 2 ^ (end.depth - len) → size ≡ 2 ^ r + 256 * groups → end.at + count ≤ size
    end_fits groups count size are is_count is_size =
        let h = run_fits (2 ^ r) levels groups a is.steps is.left (end.depth - len) end.at s are end_run in
        omega (arith, h, is_count, is_size)

    -- changing its slots changes the answers to the addresses of the network
    pub end_changed : (groups root left count : ℕ) (f t : ℕ → ℕ) → AreSlots groups s → HasValues (2 ^ r) levels s → root ≡ 2 ^ r → left ≡ is.left → count ≡ 2 ^ (end.depth - len) → len ≤ r + 8 * levels
        → AreChanged root f left end.at count s t (end.at + count) → IsChanged (2 ^ r) levels a (r + 8 * levels - len) f s t
    end_changed groups root left count f t are values is_root is_left is_count fits change =
        let d = end.depth - len in
        let at_root = subst (λ n. AreChanged n f left end.at count s t (end.at + count)) is_root change in
        let at_left = subst (λ n. AreChanged (2 ^ r) f n end.at count s t (end.at + count)) is_left at_root in
        let at_count = subst (λ n. AreChanged (2 ^ r) f is.left end.at n s t (end.at + n)) is_count at_left in
        let size : 8 * is.left + (end.depth - len) ≡ r + 8 * levels - len = omega (arith, is.depth, reached, fits) in
        subst (λ n. IsChanged (2 ^ r) levels a n f s t) size (run_changed (2 ^ r) levels groups a is.steps is.left (end.depth - len) end.at f s t are values ia end_run at_count)
