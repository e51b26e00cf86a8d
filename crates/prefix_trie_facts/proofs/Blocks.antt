-- Proves the worked facts on blocks, growth and space.
use Rattle.prefix_trie_facts.proofs.Prelude.{◌≡◌, ◌⊎◌, ℕ, zero, suc, ◌+◌, ◌<◌, ◌≤◌, ◌==◌, true, false, List, [], ◌∷◌, ◌++◌, length, Option, Some, None, is_some, refl, sym, ap, ◌∙◌, subst, inl, inr, true≢false, eq-eqb, arith, lit<, lit≤, slice_index_or, Contains, sum_by, list_any, sum_by-cons, sum_by-IsPermutation, Block, value_block_sizes, child_block_sizes, free_of, HasBlock, StepsBetween, LongerByOne, Tiles, AreBlocksOf, MayPassLimit, none_free, six_free, space_of, at_slot, BlocksHold}
use Rattle.prefix_trie_bits.proofs.Model.Members.{or-left, or-right}
pub use Rattle.std.proofs.lemmas.Option.{same_Some as some_is}

pub not_some : (a : ℕ) → None ≡ Some a → ⊥
not_some a e = true≢false (ap is_some (sym e))

size_in : (sizes : List ℕ) (size k : ℕ) → k < length sizes → slice_index_or sizes k size ≡ size → list_any (λ s. s == size) sizes ≡ true
size_in [] size k l e = absurd (omega arith)
size_in (s ∷ sizes) size zero l e = or-left (s == size) _ (eq-eqb s size e)
size_in (s ∷ sizes) size (suc k) l e = or-right (s == size) _ (size_in sizes size k (omega arith) e)

not_size : (sizes : List ℕ) (size : ℕ) → list_any (λ s. s == size) sizes ≡ false → Contains sizes size → ⊥
not_size sizes size answers (k, l, e) = true≢false (sym (size_in sizes size k l e) ∙ answers)

-- a block that is too small, or has none of the sizes, is no block of the list
pub not_in : (sizes : List ℕ) (n m : ℕ) → m < suc n → HasBlock sizes (suc n) (Some m) → ⊥
not_in sizes n m l (size, e, c, fits) = let is = some_is m size e in absurd (omega arith)

no_size : (sizes : List ℕ) (n m : ℕ) → list_any (λ s. s == m) sizes ≡ false → HasBlock sizes (suc n) (Some m) → ⊥
no_size sizes n m answers (size, e, c, fits) = not_size sizes m answers (subst (Contains sizes) (sym (some_is m size e)) c)

no_block : (sizes : List ℕ) (n : ℕ) → HasBlock sizes (suc n) None → ⊥
no_block sizes n (size, e, c, fits) = not_some size e

-- a number that differs from two others equals neither
neither : (a b c : ℕ) → (a == b) ≡ false → (a == c) ≡ false → (Some a ≡ Some b) ⊎ (Some a ≡ Some c) → ⊥
neither a b c p q (inl e) = true≢false (sym (eq-eqb a b (some_is a b e)) ∙ p)
neither a b c p q (inr e) = true≢false (sym (eq-eqb a c (some_is a c e)) ∙ q)

pub unlike : (a b : ℕ) → (a == b) ≡ false → Some a ≡ Some b → ⊥
unlike a b p e = true≢false (sym (eq-eqb a b (some_is a b e)) ∙ p)

pub differ : {A : Type 0} (a b : ℕ) → (a == b) ≡ false → a ≡ b → A
differ a b p e = absurd (true≢false (sym (eq-eqb a b e) ∙ p))

-- any size from 16 to 31 is allowed for nine items left of 31
may_be : (n : ℕ) → 16 ≤ n → n ≤ 31 → Contains value_block_sizes n → StepsBetween value_block_sizes 31 9 (Some 31) (Some n)
may_be n low high among = record {
  fewer = lit≤ tt;
  same = differ 9 31 refl;
  none = differ 9 0 refl;
  between = λ _ _. (n, 31, refl, refl, high, λ size e. (let is = some_is 16 size e in omega arith), among);
}

abbrev Longer : List ℕ → Option ℕ → Option ℕ → ℕ → Type 0
Longer free old new after = LongerByOne value_block_sizes free old new 86 after

beside_free : Longer six_free (Some 31) (Some 24) 110 → ⊥
beside_free (inl e) = differ 110 86 refl e
beside_free (inr (size, n, o, f, e)) = differ 1 0 refl (subst (λ x. free_of value_block_sizes six_free x ≡ 0) (sym (some_is 24 size n)) f)

unmoved : Longer none_free (Some 24) (Some 24) 110 → ⊥
unmoved (inl e) = differ 110 86 refl e
unmoved (inr (size, n, o, f, e)) = o n

without_block : Longer none_free (Some 24) None 110 → ⊥
without_block (inl e) = differ 110 86 refl e
without_block (inr (size, n, o, f, e)) = not_some size n

by_another : (after : ℕ) → (after == 86) ≡ false → (after == 110) ≡ false → Longer none_free (Some 31) (Some 24) after → ⊥
by_another after p q (inl e) = differ after 86 p e
by_another after p q (inr (size, n, o, f, e)) = differ after 110 q (let is = some_is 24 size n in omega arith)

within_both : MayPassLimit (space_of 100 44 69) → ⊥
within_both (inl l) = let less : 100 < 100 = l in absurd (omega arith)
within_both (inr l) = let less : 100 < 100 = l in absurd (omega arith)

abbrev size_of : Block → ℕ
size_of b = b.size

-- blocks that tile an array have all its slots
all_slots : (sizes : List ℕ) (first end : ℕ) (bs : List Block) → Tiles sizes first bs end → end ≡ first + sum_by size_of bs
all_slots sizes first end [] e = e ∙ omega arith
all_slots sizes first end (b ∷ bs) (c, s, t) = let rest = all_slots sizes (first + b.size) end bs t in let more = sum_by-cons size_of b bs in omega arith

owned : (sizes : List ℕ) (first end : ℕ) (live free : List Block) → AreBlocksOf sizes first live free end → end ≡ first + sum_by size_of (live ++ free)
owned sizes first end live free h = all_slots sizes first end h.blocks h.tiles ∙ ap (λ n. first + n) (sum_by-IsPermutation size_of (live ++ free) h.blocks h.rearranged)

pub blocks_hold : BlocksHold
blocks_hold = record {
  has = record {
    three_in_four = (4, refl, (2, lit< tt, refl), lit≤ tt);
    three_in_larger = (24, refl, (5, lit< tt, refl), lit≤ tt);
    none_in_none = refl;
    not_in_two = not_in value_block_sizes 2 2 (lit< tt);
    not_in_three = no_size value_block_sizes 2 3 refl;
    not_in_none = no_block value_block_sizes 2;
    not_none_in_one = λ e. not_some 1 (sym e);
  };
  needed = record { in_turn = refl; with_space = refl; children = refl; lacking = refl; free = refl };
  down = record {
    onto_free = record { fewer = lit≤ tt; same = differ 24 25 refl; none = differ 24 0 refl; one_of = λ _ _. inr refl; smallest = λ size _ _ e f. e };
    onto_new = record { fewer = lit≤ tt; same = differ 24 25 refl; none = differ 24 0 refl; one_of = λ _ _. inr refl; smallest = λ size _ _ e f. e };
    may_stay = record {
      fewer = lit≤ tt;
      same = differ 24 25 refl;
      none = differ 24 0 refl;
      one_of = λ _ _. inl refl;
      smallest = λ size _ _ e f. let l : 0 < 0 = subst (λ x. 0 < free_of value_block_sizes none_free x) (sym (some_is 24 size e)) f in absurd (omega arith);
    };
    gone = record { fewer = lit≤ tt; same = differ 0 1 refl; none = λ _. refl; one_of = λ _ l. absurd (omega arith); smallest = λ size _ l e f. absurd (omega arith) };
    not_stays = λ h. unlike 31 24 refl (h.smallest 24 (lit< tt) (lit< tt) refl (lit< tt));
    not_other_size = λ h. neither 24 31 16 refl refl (h.one_of (lit< tt) (lit< tt));
    not_unasked = λ h. unlike 24 31 refl (h.same refl);
    not_left_over = λ h. not_some 1 (sym (h.none refl));
    not_more = λ h. let l : 2 ≤ 1 = h.fewer in absurd (omega arith);
  };
  between = record {
    stays = may_be 31 (lit≤ tt) (lit≤ tt) (6, lit< tt, refl);
    half_way = may_be 24 (lit≤ tt) (lit≤ tt) (5, lit< tt, refl);
    smallest = may_be 16 (lit≤ tt) (lit≤ tt) (4, lit< tt, refl);
    not_of_20 = λ h. (let b = h.between (lit< tt) (lit< tt) in not_size value_block_sizes 20 refl (subst (Contains value_block_sizes) (sym (some_is 20 b.0 b.2)) b.6));
    not_too_small = λ h. (let b = h.between (lit< tt) (lit< tt) in let small = some_is 8 b.0 b.2 in let least = b.5 16 refl in absurd (omega (arith, small, least)));
    not_larger = λ h. (let b = h.between (lit< tt) (lit< tt) in let new = some_is 24 b.0 b.2 in let old = some_is 16 b.1 b.3 in let l = b.4 in absurd (omega (arith, new, old, l)));
    not_without = λ h. (let b = h.between (lit< tt) (lit< tt) in not_some b.0 b.2);
    not_left_over = λ h. not_some 1 (sym (h.none refl));
    not_unasked = λ h. unlike 16 31 refl (h.same refl);
    not_more_items = λ h. let l : 10 ≤ 9 = h.fewer in absurd (omega arith);
  };
  longer = record {
    as_long = inl refl;
    longer = inr (24, refl, unlike 31 24 refl, refl, refl);
    not_beside_free = beside_free;
    not_unmoved = unmoved;
    not_without_block = without_block;
    not_by_two = by_another 134 refl refl;
    not_shorter = by_another 55 refl refl;
  };
  space = record {
    longest = record { same_limit = refl; nodes_within = lit≤ tt; cells_within = lit≤ tt; nodes_grow = lit≤ tt; cells_grow = lit≤ tt };
    up_to_limit = record { same_limit = refl; nodes_within = lit≤ tt; cells_within = lit≤ tt; nodes_grow = lit≤ tt; cells_grow = lit≤ tt };
    not_another_limit = λ h. differ 101 100 refl h.same_limit;
    not_nodes_past_limit = λ h. let l : 101 ≤ 100 = h.nodes_within in absurd (omega arith);
    not_cells_past_limit = λ h. let l : 101 ≤ 100 = h.cells_within in absurd (omega arith);
    not_57_for_nodes = λ h. let l : 58 ≤ 57 = h.nodes_grow in absurd (omega arith);
    not_57_for_cells = λ h. let l : 57 ≤ 56 = h.cells_grow in absurd (omega arith);
    by_nodes = inl (lit< tt);
    by_cells = inr (lit< tt);
    by_neither = within_both;
  };
  tiles = record {
    tiled = ((1, lit< tt, refl), refl, ((0, lit< tt, refl), refl, refl));
    not_with_gap = λ h. differ 4 3 refl h.2.1;
    not_overlapping = λ h. differ 2 3 refl h.2.1;
    not_of_31 = λ h. not_size child_block_sizes 31 refl h.0;
    not_short_of_end = λ h. differ 4 3 refl h.2;
    not_without_owner = λ h. differ 4 3 refl (owned child_block_sizes 1 4 (at_slot 1 2 ∷ []) [] h);
    not_with_two = λ h. differ 3 5 refl (owned child_block_sizes 1 3 (at_slot 1 2 ∷ []) (at_slot 1 2 ∷ []) h);
  };
}
