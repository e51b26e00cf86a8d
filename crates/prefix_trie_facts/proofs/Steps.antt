-- Proves the worked facts on storages to which no step leads.
use Rattle.prefix_trie_facts.proofs.Prelude.{◌≡◌, ℕ, zero, suc, ◌+◌, ◌-◌, ◌<◌, ◌≤◌, ◌==◌, Bool, false, List, [], ◌∷◌, map, length, get_or, is_some, Option, Some, None, refl, sym, ap, ap₂, ◌∙◌, subst, inl, inr, arith, le_of_eq, lit<, lit≤, slice_index_or, Contains, count_by, option_or, entries, get, contains_key, values, entries-from_sorted, get-from_sorted, find, digits, number, begins, listing_cmp, has_node, value_block_sizes, child_block_sizes, free_of, own_entries, used_of, HasBlock, LongerByOne, LosesNoBlock, value_block_needed, value_blocks_needed, missing_child_blocks, missing_of, missing_value_blocks, made_of, one_of, home, State, Call, Remove, RemoveKeepTree, RetainAtLeast, Reply, Memory, IndexRange, Step, is_refusal, path_at, back_at, sets, none_free, both_free, Blocks, layout_at, ones_free, sizes_at, three_slots, two_free, four_free, root_child, root_value, child_value, Takes, KeepsFacts, FilledFacts, StepsHold}
use Rattle.prefix_trie_facts.proofs.Plain.{Shows, Marks, play, step_at, has-is}
use Rattle.prefix_trie_facts.proofs.Replies.{last_entries, last_marks, leads}
use Rattle.prefix_trie_facts.proofs.Examples.{said, own_in, children_in}
use Rattle.prefix_trie_bits.proofs.Model.Determined.{same}
use Rattle.prefix_trie_facts.proofs.Blocks.{some_is, not_some, unlike, differ, not_in}
use Rattle.prefix_trie_facts.proofs.Insertions.{children_needed, lacks_one, lacks_none, value_needed_in, value-is, values_needed, sizes-is, Sized, listed, InOrder, some_missing, neither_more}

-- the entries and the nodes of the worked map, as lists
abbrev es8 : Sized
es8 = last_entries 8 (sets (((0, 1), 1) ∷ ((128, 1), 2) ∷ ((0, 5), 3) ∷ []))

abbrev ns8 : Marks
ns8 = last_marks 8 (sets (((0, 1), 1) ∷ ((128, 1), 2) ∷ ((0, 5), 3) ∷ []))

abbrev Called : Type 0
Called = Call (ℕ × ℕ) ℕ

abbrev Replied : Type 0
Replied = Reply (ℕ × ℕ) ℕ

abbrev left_entries : Called → Sized
left_entries call = (play (path_at 8) (back_at 8) 8 es8 ns8 None call).entries

abbrev left_nodes : Called → Marks
left_nodes call = (play (path_at 8) (back_at 8) 8 es8 ns8 None call).nodes

-- the lists that a step that is not refused leaves
after : (t u : State ℕ) (call : Called) (reply : Replied) → Shows t es8 ns8 → is_refusal reply ≡ false
    → is_refusal (play (path_at 8) (back_at 8) 8 (entries t.entries) (entries t.nodes) None call).reply ≡ false
    → Step (path_at 8) (back_at 8) 8 t call reply u → Shows u (left_entries call) (left_nodes call)
after t u call reply s answers too step =
    let one = step_at (path_at 8) (back_at 8) 8 t None call in
    let is : u ≡ one.next = (same (path_at 8) (back_at 8) 8 t call reply _ u one.next answers too step one.step).1 in
    record {
      of_entries = ap (λ x. entries x.entries) is ∙ one.shows.of_entries ∙ ap₂ (λ es ns. (play (path_at 8) (back_at 8) 8 es ns None call).entries) s.of_entries s.of_nodes;
      of_nodes = ap (λ x. entries x.nodes) is ∙ one.shows.of_nodes ∙ ap₂ (λ es ns. (play (path_at 8) (back_at 8) 8 es ns None call).nodes) s.of_entries s.of_nodes;
    }

has : (t : State ℕ) (p : List Bool) → Shows t es8 ns8 → has_node t.nodes p ≡ is_some (find listing_cmp p ns8)
has t p s = has-is t.nodes p ∙ ap (λ ns. is_some (find listing_cmp p ns)) s.of_nodes

stored_key : (t : State ℕ) (p : List Bool) → Shows t es8 ns8 → contains_key t.entries p ≡ is_some (find listing_cmp p es8)
stored_key t p s = has-is t.entries p ∙ ap (λ es. is_some (find listing_cmp p es)) s.of_entries

-- the size of the block of a string, and the number of blocks of each size
block_at : (blocks : Blocks) (p : List Bool) → InOrder 8 blocks → get (sizes_at 8 blocks) p ≡ find listing_cmp p (listed 8 blocks)
block_at blocks p h = get-from_sorted listing_cmp (listed 8 blocks) p h

abbrev sizes_of : Blocks → List ℕ
sizes_of blocks = map (λ e. e.1) (listed 8 blocks)

all_sizes : (blocks : Blocks) → InOrder 8 blocks → values (sizes_at 8 blocks) ≡ sizes_of blocks
all_sizes blocks h = ap (map (λ e. e.1)) (entries-from_sorted listing_cmp (listed 8 blocks) h)

never : (a b : ℕ) → a < b → b ≤ a → ⊥
never a b l m = absurd (omega arith)

abbrev number_of : List ℕ → List ℕ → List ℕ → ℕ → ℕ
number_of sizes used free size = count_by (λ n. n == size) used + free_of sizes free size

-- a step in which blocks of some size disappear is impossible
lost : (sizes : List ℕ) (old new : Blocks) (f g : List ℕ) (size : ℕ) → InOrder 8 old → InOrder 8 new
    → Contains sizes size → number_of sizes (sizes_of new) g size < number_of sizes (sizes_of old) f size
    → LosesNoBlock sizes (sizes_at 8 old) f (sizes_at 8 new) g → ⊥
lost sizes old new f g size h k c fewer keeps =
    let l : number_of sizes (sizes_of old) f size ≤ number_of sizes (sizes_of new) g size =
    subst (λ x. number_of sizes x f size ≤ number_of sizes (sizes_of new) g size) (all_sizes old h)
    (subst (λ y. number_of sizes (values (sizes_at 8 old)) f size ≤ number_of sizes y g size) (all_sizes new k) (keeps size c)) in
    never _ _ fewer l

-- a step in which blocks of a size are made although none of it is missing is impossible
made : (sizes : List ℕ) (old new : Blocks) (f g : List ℕ) (size lack : ℕ) → InOrder 8 old → InOrder 8 new → lack ≡ 0 → number_of sizes (sizes_of old) f size < number_of sizes (sizes_of new) g size
    → used_of (sizes_at 8 new) size + free_of sizes g size ≤ used_of (sizes_at 8 old) size + free_of sizes f size + lack → ⊥
made sizes old new f g size lack h k none more most =
    let l : number_of sizes (sizes_of new) g size ≤ number_of sizes (sizes_of old) f size + lack =
    subst (λ x. number_of sizes (sizes_of new) g size ≤ number_of sizes x f size + lack) (all_sizes old h)
    (subst (λ y. number_of sizes y g size ≤ number_of sizes (values (sizes_at 8 old)) f size + lack) (all_sizes new k) most) in
    above _ _ lack none more l
  where
    above : (a b n : ℕ) → n ≡ 0 → a < b → b ≤ a + n → ⊥
    above a b n e l m = absurd (omega arith)

-- an array that grows by another number of slots than its new block has, or that grows without a changed block, is
-- impossible
by_wrong : (sizes free : List ℕ) (old new : Option ℕ) (before now size : ℕ) → new ≡ Some size → (now == before) ≡ false → (now == before + size) ≡ false → LongerByOne sizes free old new before now → ⊥
by_wrong sizes free old new before now size is p q (inl e) = differ now before p e
by_wrong sizes free old new before now size is p q (inr (n, e, o, f, g)) = differ now (before + size) q (g ∙ ap (λ x. before + x) (some_is n size (sym e ∙ is)))

by_none : (sizes free : List ℕ) (block : Option ℕ) (before now : ℕ) → (now == before) ≡ false → LongerByOne sizes free block block before now → ⊥
by_none sizes free block before now p (inl e) = differ now before p e
by_none sizes free block before now p (inr (n, e, o, f, g)) = o e

-- a block that exists is not missing, and has one size
there : (o : Option ℕ) (size : ℕ) → o ≡ Some size → o ≡ None → ⊥
there o size e f = not_some size (sym f ∙ e)

other : (o p : Option ℕ) (a b : ℕ) → o ≡ Some a → p ≡ Some b → (a == b) ≡ false → o ≡ p → ⊥
other o p a b e f answers is = unlike a b answers (sym e ∙ is ∙ f)

-- the blocks afterwards are at least those before
no_fewer : (before after made : ℕ) → after ≡ before + made → before ≤ after
no_fewer before after made e = omega arith

-- an array with more slots than it had and needed is impossible
too_many : (now before lack n : ℕ) → lack ≡ n → before + n < now → now ≤ before + lack → ⊥
too_many now before lack n e l m = absurd (omega arith)

none_lack : (a b : ℕ) → a ≡ 0 → b ≡ 0 → 0 < a + b → ⊥
none_lack a b e f l = absurd (omega arith)

lost_value : LosesNoBlock value_block_sizes (sizes_at 8 (root_value 2)) none_free (sizes_at 8 (root_value 4)) none_free → ⊥
unfolding digits number begins
lost_value = lost value_block_sizes (root_value 2) (root_value 4) none_free none_free 2 tt tt (1, lit< tt, refl) (lit< tt)

-- a list that keeps its block makes none
none_made : (block : Option ℕ) (sizes free : List ℕ) (size : ℕ) → made_of sizes free block block size ≡ 0
none_made block sizes free size = gone (one_of block size) (free_of sizes free size)
  where
    gone : (a f : ℕ) → a - (a + f) ≡ 0
    gone a f = omega arith

-- the block that the root needs for its third entry has four slots
needs : (t : State ℕ) → Shows t es8 ns8 → value_block_needed t.entries three_slots.value_blocks (path_at 8 (64, 2)) [] ≡ Some 4
unfolding digits number begins
needs t s =
    value-is t.entries three_slots.value_blocks (path_at 8 (64, 2)) []
    ∙ ap₂ (λ es bs. value_needed_in es bs (path_at 8 (64, 2)) []) s.of_entries (entries-from_sorted listing_cmp (listed 8 (root_value 2)) tt)

-- the root takes a block of four slots, and each other node keeps its block
taken : (t : State ℕ) → Shows t es8 ns8 → Takes t (root_value 4)
unfolding digits number begins
taken t s [] =
    block_at (root_value 4) [] tt
    ∙ sym (ap (λ o. option_or o (get three_slots.value_blocks [])) (needs t s))
taken t s (b ∷ p) = block_at (root_value 4) (b ∷ p) tt ∙ sym (block_at (root_value 2) (b ∷ p) tt)

-- what holds of each of some sizes
abbrev Each : (ℕ → Type 0) → List ℕ → Type 0
Each P [] = Unit {0}
Each P (n ∷ ns) = P n × Each P ns

of_each : (P : ℕ → Type 0) (sizes : List ℕ) (size k : ℕ) → Each P sizes → k < length sizes → slice_index_or sizes k size ≡ size → P size
of_each P [] size k each l e = absurd (omega arith)
of_each P (n ∷ ns) size zero (p, each) l e = subst P e p
of_each P (n ∷ ns) size (suc k) (p, each) l e = of_each P ns size k each (omega arith) e

none_lost : (sizes : List ℕ) (old new : Blocks) (f g : List ℕ) → InOrder 8 old → InOrder 8 new
    → Each (λ size. number_of sizes (sizes_of old) f size ≤ number_of sizes (sizes_of new) g size) sizes → LosesNoBlock sizes (sizes_at 8 old) f (sizes_at 8 new) g
none_lost sizes old new f g h k each size (i, l, is) =
    subst (λ x. number_of sizes x f size ≤ number_of sizes (values (sizes_at 8 new)) g size) (sym (all_sizes old h))
    (subst (λ y. number_of sizes (sizes_of old) f size ≤ number_of sizes y g size) (sym (all_sizes new k))
    (of_each (λ n. number_of sizes (sizes_of old) f n ≤ number_of sizes (sizes_of new) g n) sizes size i each l is))

keeps : KeepsFacts
unfolding digits number begins
keeps = record {
  grown = (
    none_lost child_block_sizes root_child root_child none_free none_free tt tt (lit≤ tt, (lit≤ tt, (lit≤ tt, (lit≤ tt, (lit≤ tt, (lit≤ tt, (lit≤ tt, tt))))))),
    none_lost value_block_sizes (root_value 2) (root_value 4) none_free two_free tt tt (lit≤ tt, (lit≤ tt, (lit≤ tt, (lit≤ tt, (lit≤ tt, (lit≤ tt, (lit≤ tt, tt))))))),
  );
  not_values_lost = λ h. lost_value h.1;
  not_children_lost = λ h. lost child_block_sizes root_child (((0, 0), 2) ∷ []) none_free none_free 1 tt tt (0, lit< tt, refl) (lit< tt) h.0;
  not_free_lost = λ h. lost value_block_sizes [] [] two_free none_free 2 tt tt (1, lit< tt, refl) (lit< tt) h.1;
}

filled_facts : (t : State ℕ) → Shows t es8 ns8 → FilledFacts t
unfolding digits number begins
filled_facts t s = record {
  remove = record {
    not_lost = λ reply u h. lost value_block_sizes (root_value 2) (root_value 1) none_free none_free 2 tt tt (1, lit< tt, refl) (lit< tt) (λ size c. no_fewer _ _ _ (h.storage.0.value_blocks_made size c));
    not_by_two = λ reply u h. by_wrong value_block_sizes none_free _ _ 3 5 1 (block_at (root_value 1) [] tt) refl refl h.storage.0.cells_longer;
    not_another = λ reply u h.
        let p = path_at 8 (0, 5) in
        let v = after t u (Remove (0, 1)) reply s (ap is_refusal h.step.0) refl h.step in
        other _ _ 2 1 (block_at (((0, 0), 2) ∷ ((0, 5), 2) ∷ []) p tt) (block_at (root_value 2) p tt) refl
        ((h.storage.0.value_blocks.at_nodes p (has t p s)).same (said (λ es ns. own_in p es) u v ∙ sym (said (λ es ns. own_in p es) t s)));
    not_elsewhere = λ reply u h.
        let p = path_at 8 (128, 5) in
        there _ 1 (block_at (((0, 0), 2) ∷ ((0, 5), 1) ∷ ((128, 5), 1) ∷ []) p tt) (h.storage.0.value_blocks.elsewhere p (has t p s));
    not_nodes_longer = λ reply u h. by_none child_block_sizes none_free _ 2 3 refl h.storage.1.nodes_longer.1;
    not_made = λ reply u h. made value_block_sizes (root_value 2) (root_value 2) none_free (ones_free 1) 1 _ tt tt
        (none_made (get (sizes_at 8 (root_value 2)) (home (path_at 8 (0, 1)))) value_block_sizes none_free 1) (lit< tt)
        (le_of_eq (h.storage.0.value_blocks_made 1 (0, lit< tt, refl)));
    not_child_made = λ reply u h. made child_block_sizes root_child root_child none_free (ones_free 1) 1 _ tt tt
        (none_made (get (sizes_at 8 root_child) h.storage.1.nodes_longer.0) child_block_sizes none_free 1) (lit< tt) (h.storage.1.nodes_longer.2 1 (0, lit< tt, refl)).1;
    not_children = λ reply u h.
        let v = after t u (Remove (0, 1)) reply s (ap is_refusal h.step.0) refl h.step in
        other _ _ 2 1 (block_at (((0, 0), 2) ∷ []) [] tt) (block_at root_child [] tt) refl
        ((h.storage.1.child_blocks.at_nodes [] (has t [] s)).same (said (λ es ns. children_in [] ns) u v ∙ sym (said (λ es ns. children_in [] ns) t s)));
    not_limit = λ reply u h. differ 11 10 refl h.space.same_limit;
  };
  prune = record {
    not_with_values = λ reply u h.
        let p = path_at 8 (0, 5) in
        let v = after t u (Remove (0, 5)) reply s (ap is_refusal h.step.0) refl h.step in
        there _ 1 (block_at (root_value 2) p tt) ((h.storage.0.value_blocks.at_nodes p (has t p s)).none (said (λ es ns. own_in p es) u v));
    not_with_children = λ reply u h.
        let v = after t u (Remove (0, 5)) reply s (ap is_refusal h.step.0) refl h.step in
        there _ 1 (block_at root_child [] tt) ((h.storage.1.child_blocks.at_nodes [] (has t [] s)).none (said (λ es ns. children_in [] ns) u v));
    not_lost = λ reply u h. lost child_block_sizes root_child [] none_free none_free 1 tt tt (0, lit< tt, refl) (lit< tt) (λ size c. (h.storage.1.nodes_longer.2 size c).0);
  };
  keep_tree = record {
    not_children = λ reply u h.
        let p = path_at 8 (0, 5) in
        there _ 1 (block_at (((0, 0), 1) ∷ ((0, 5), 1) ∷ []) p tt) (ap (λ b. get b p) h.storage.2 ∙ block_at root_child p tt);
    not_freed = λ reply u h. differ 1 0 refl (ap (λ free. get_or free 0 0) h.storage.3);
    not_nodes_longer = λ reply u h. differ 3 2 refl h.storage.1;
    not_with_values = λ reply u h.
        let p = path_at 8 (0, 5) in
        let v = after t u (RemoveKeepTree (0, 5)) reply s (ap is_refusal h.step.0) refl h.step in
        there _ 1 (block_at (root_value 2) p tt) ((h.storage.0.value_blocks.at_nodes p (has t p s)).none (said (λ es ns. own_in p es) u v));
    not_lost = λ reply u h. lost value_block_sizes (root_value 2) (((0, 0), 2) ∷ []) none_free none_free 1 tt tt (0, lit< tt, refl) (lit< tt) (λ size c. no_fewer _ _ _ (h.storage.0.value_blocks_made size c));
  };
  retain = record {
    not_with_values = λ reply u h.
        let v = after t u (RetainAtLeast 5) reply s (ap is_refusal h.step.0) refl h.step in
        there _ 2 (block_at (root_value 2) [] tt) ((h.storage.value_blocks.at_nodes [] (has t [] s)).none (said (λ es ns. own_in [] es) u v));
    not_lost = λ reply u h. lost value_block_sizes (root_value 2) child_value none_free none_free 2 tt tt (1, lit< tt, refl) (lit< tt) h.storage.keeps.1;
    not_children = λ reply u h.
        let v = after t u (RetainAtLeast 5) reply s (ap is_refusal h.step.0) refl h.step in
        let alike = (h.storage.child_blocks.at_nodes [] (has t [] s)).same (said (λ es ns. children_in [] ns) u v ∙ sym (said (λ es ns. children_in [] ns) t s)) in
        there _ 1 (block_at root_child [] tt) (sym alike ∙ block_at [] [] tt);
    not_elsewhere = λ reply u h.
        let p = path_at 8 (128, 5) in
        there _ 1 (block_at (((0, 5), 1) ∷ ((128, 5), 1) ∷ []) p tt) (h.storage.value_blocks.elsewhere p (has t p s));
    not_nodes_longer = λ reply u h. differ 3 2 refl (h.storage.nodes_still refl);
    not_cells_shorter = λ reply u h. let l : 3 ≤ 2 = h.storage.cell_slots in absurd (omega arith);
    not_nodes_shorter = λ reply u h. let l : 2 ≤ 1 = h.storage.node_slots in absurd (omega arith);
    not_cells_longer = λ reply u h. differ 4 3 refl (h.storage.cells_still refl);
  };
  drop_children = record {
    not_lost = λ reply u h. lost child_block_sizes root_child [] none_free none_free 1 tt tt (0, lit< tt, refl) (lit< tt) (h.storage.1 (lit< tt)).keeps.0;
    not_nodes_shorter = λ reply u h. let l : 2 ≤ 1 = (h.storage.1 (lit< tt)).node_slots in absurd (omega arith);
    not_cells_shorter = λ reply u h. let l : 3 ≤ 2 = (h.storage.1 (lit< tt)).cell_slots in absurd (omega arith);
    not_nodes_longer = λ reply u h. differ 3 2 refl ((h.storage.1 (lit< tt)).nodes_still refl);
    not_cells_longer = λ reply u h. differ 4 3 refl ((h.storage.1 (lit< tt)).cells_still refl);
  };
  insert =
      let q = path_at 8 (64, 2) in
      let lacking = some_missing 8 t root_child (root_value 2) none_free none_free (64, 2) s tt tt in
      let no_child : missing_child_blocks t.nodes three_slots q 1 ≡ 0 =
      ap (λ ns. missing_of child_block_sizes none_free ns 1) (children_needed t three_slots q s (sizes-is 8 root_child tt)) in
      let no_value : missing_value_blocks t.entries three_slots q 1 ≡ 0 =
      ap (λ ns. missing_of value_block_sizes none_free ns 1) (values_needed t three_slots q s (sizes-is 8 (root_value 2) tt)) in
      let moved : get (sizes_at 8 (root_value 4)) [] ≡ get (sizes_at 8 (root_value 2)) [] → ⊥ =
      other _ _ 4 2 (block_at (root_value 4) [] tt) (block_at (root_value 2) [] tt) refl in
      record {
        not_lost = λ reply u h. elim h.step [
          | inl done ↦ lost_value (λ size c. no_fewer _ _ _ ((h.storage.1 _ (stored_key t q s) done.0).value_blocks_made size c))
          | inr refused ↦ lost_value (λ size c. ((h.storage.2 refused.1 refused.2).value_blocks_made size c).0)
        ];
        not_made = λ reply u h. elim h.step [
          | inl done ↦ made value_block_sizes (root_value 2) (root_value 4) none_free both_free 1 _ tt tt no_value (lit< tt)
              (le_of_eq ((h.storage.1 _ (stored_key t q s) done.0).value_blocks_made 1 (0, lit< tt, refl)))
          | inr refused ↦ moved (ap (λ b. get b []) (h.storage.2 refused.1 refused.2).value_blocks)
        ];
        not_child_made = λ reply u h. elim h.step [
          | inl done ↦ made child_block_sizes root_child root_child none_free (ones_free 1) 1 _ tt tt no_child (lit< tt)
              (le_of_eq ((h.storage.1 _ (stored_key t q s) done.0).child_blocks_made 1 (0, lit< tt, refl)))
          | inr refused ↦ moved (ap (λ b. get b []) (h.storage.2 refused.1 refused.2).value_blocks)
        ];
        not_child_lost = λ reply u h. elim h.step [
          | inl done ↦ lost child_block_sizes root_child root_child (ones_free 1) none_free 1 tt tt (0, lit< tt, refl) (lit< tt)
              (λ size c. no_fewer _ _ _ ((h.storage.1 _ (stored_key t q s) done.0).child_blocks_made size c))
          | inr refused ↦ moved (ap (λ b. get b []) (h.storage.2 refused.1 refused.2).value_blocks)
        ];
        not_refused_for_slots = λ u h. neither_more 10 2 3 _ _ 0 4 (ap (λ x. x.0) lacking) (ap (λ x. x.1) lacking) (lit≤ tt) (lit≤ tt) ((h.storage.2 IndexRange refl).range refl);
        not_refused_cells_more = λ u h. too_many 6 3 _ 2 (ap (λ x. x.1) (some_missing 8 t root_child (root_value 2) none_free none_free (0, 6) s tt tt)) (lit< tt) (h.storage.2 Memory refl).cell_slots.1;
        not_refused_once_made = λ u h.
            let made = layout_at 8 root_child (root_value 2) none_free four_free in
            let v = values_needed t made q s (sizes-is 8 (root_value 2) tt) in
            elim ((h.storage.2 Memory refl).memory refl) [
              | inl (size, l, space) ↦ lacks_none child_block_sizes none_free _ size (children_needed t made q s (sizes-is 8 root_child tt)) l
              | inr (size, l, space) ↦
                  let none : missing_of value_block_sizes four_free (value_blocks_needed t.entries made q) size ≡ 0 =
                  ap₂ (λ ns n. missing_of value_block_sizes four_free ns n) v (lacks_one value_block_sizes four_free _ 4 size v l) in
                  absurd (omega (arith, none, l))
            ];
        not_refused_made = λ u h. made value_block_sizes (root_value 2) (root_value 2) none_free (ones_free 1) 1 _ tt tt no_value (lit< tt)
            ((h.storage.2 Memory refl).value_blocks_made 1 (0, lit< tt, refl)).1;
        not_refused_child_made = λ u h. made child_block_sizes root_child root_child none_free (ones_free 1) 1 _ tt tt no_child (lit< tt)
            ((h.storage.2 Memory refl).child_blocks_made 1 (0, lit< tt, refl)).1;
        not_refused_cells_fewer = λ u h. let l : 3 ≤ 2 = (h.storage.2 Memory refl).cell_slots.0 in absurd (omega arith);
        not_refused_nodes_more = λ u h. too_many 3 2 _ 0 (ap (λ x. x.0) lacking) (lit< tt) (h.storage.2 Memory refl).node_slots.1;
        not_refused_nodes_fewer = λ u h. let l : 2 ≤ 1 = (h.storage.2 Memory refl).node_slots.0 in absurd (omega arith);
        not_refused_lost = λ u h. lost value_block_sizes (root_value 2) (root_value 2) two_free none_free 2 tt tt (1, lit< tt, refl) (lit< tt) (λ size c. ((h.storage.2 Memory refl).value_blocks_made size c).0);
        not_refused_child_lost = λ u h. lost child_block_sizes root_child root_child (ones_free 1) none_free 1 tt tt (0, lit< tt, refl) (lit< tt) (λ size c. ((h.storage.2 Memory refl).child_blocks_made size c).0);
        not_refused_beside_free = λ u h.
            let free = some_missing 8 t root_child (root_value 2) none_free four_free (64, 2) s tt tt in
            none_lack _ _ (ap (λ x. x.0) free) (ap (λ x. x.1) free) (h.storage.2 Memory refl).some_missing;
      };
  takes = record {
    taken = taken t s;
    not_as_before = λ h. other _ _ 2 4 (block_at (root_value 2) [] tt) (ap (λ o. option_or o (get three_slots.value_blocks [])) (needs t s)) refl (h []);
    not_of_eight = λ h. other _ _ 8 4 (block_at (root_value 8) [] tt) (ap (λ o. option_or o (get three_slots.value_blocks [])) (needs t s)) refl (h []);
    not_another = λ h. other _ _ 2 1 (block_at (((0, 0), 4) ∷ ((0, 5), 2) ∷ []) (path_at 8 (0, 5)) tt) (block_at (root_value 2) (path_at 8 (0, 5)) tt) refl (h (path_at 8 (0, 5)));
  };
  not_too_small = λ h.
      not_in value_block_sizes 1 1 (lit< tt)
      (subst (λ n. HasBlock value_block_sizes n (Some 1)) (said (λ es ns. own_in [] es) t s)
      (subst (λ o. HasBlock value_block_sizes (own_entries t.entries []) o) (block_at (root_value 1) [] tt) (h.at_nodes [] (has t [] s))));
  not_elsewhere = λ h.
      let p = path_at 8 (128, 5) in
      there _ 1 (block_at (((0, 0), 2) ∷ ((0, 5), 1) ∷ ((128, 5), 1) ∷ []) p tt) (h.elsewhere p (has t p s));
}

pub steps_hold : StepsHold
unfolding digits number begins
steps_hold = record { all_gone = refl; keeps = keeps; filled_map = leads refl filled_facts }
