-- A list moves from its block to an empty one.
use Rattle.prefix_trie_table.proofs.Prelude.{◌≡◌, ℕ, ◌+◌, ◌-◌, ◌<◌, ◌≤◌, ◌⊎◌, inl, inr, cases_lt, get_or, List, [], ◌∷◌, ◌++◌, length, map, take, drop, replicate, Option, sym, ap, ◌∙◌, subst, arith, length-replicate, take-take, take_at, drop_at, take-replicate, drop-replicate, replicate-append-replicate, All-head, run, put_run, swap_runs, Store, UsedBlock, Sound, Turnover, none_of, extent, free_extents, filled}
use Rattle.prefix_trie_table.proofs.Blocks.Tilings.{Disjoint}
use Rattle.prefix_trie_table.proofs.Blocks.Soundness.{Sound-exchanged, Sound-written, block_inside, fits_block, block_slots, filled_none, others}
use Rattle.prefix_trie_table.proofs.Blocks.Turnovers.{Turnover-written}
use Rattle.prefix_trie_table.proofs.Blocks.RunLemmas.{Apart, length-put_run, get_or-put_run_out, put_run_part, swap_runs_is, exchanged, length-swap_runs, vacant_at}

-- a used block, and another one without items
module _ {S : Type 0} (vacant : S) (a b : UsedBlock S) (live : List (UsedBlock S)) (v : Store S) (none : b.items ≡ []) (s : Sound vacant (a ∷ b ∷ live) v) where
  slots_none : run v.slots b.start b.size ≡ replicate b.size vacant
  slots_none = block_slots vacant b (a ∷ live) v (Sound-exchanged vacant a b live v s) ∙ ap (λ xs. filled vacant b.size xs) none ∙ filled_none vacant b.size

  pub two_apart : Disjoint (extent a) (extent b)
  two_apart = All-head (Disjoint (extent a)) (extent b) (map extent live ++ free_extents v.tiers) (others vacant a (b ∷ live) v s)

  pub run_items : (c : ℕ) → length a.items ≡ c → run v.slots a.start c ≡ a.items
  run_items c is_count =
      sym (take-take c a.size (drop a.start v.slots) (let f = fits_block vacant a (b ∷ live) v s in omega arith)) ∙ ap (λ xs. take c xs) (block_slots vacant a (b ∷ live) v s) ∙ take_at a.items (replicate (a.size - length a.items) vacant) c is_count

  pub run_none : (c : ℕ) → c ≤ b.size → run v.slots b.start c ≡ replicate c vacant
  run_none c space = sym (take-take c b.size (drop b.start v.slots) space) ∙ ap (λ xs. take c xs) slots_none ∙ take-replicate c b.size vacant space

  -- the first block is emptied, and the second then holds these items
  pub Sound-put_over : (c : ℕ) (items zs : List S) → length a.items ≡ c → length items ≤ b.size → zs ≡ put_run (put_run v.slots a.start (replicate c vacant)) b.start items →
      Sound vacant (record a { items = [] } ∷ record b { items = items } ∷ live) (record v { slots = zs })
  Sound-put_over c items zs is_count space is =
      let wa = block_inside vacant a (b ∷ live) v s in
      let fits : c ≤ a.size = (let f = fits_block vacant a (b ∷ live) v s in omega arith) in
      let rc : length (replicate c vacant) ≡ c = length-replicate c vacant in
      let left : drop c (run v.slots a.start a.size) ≡ replicate (a.size - c) vacant = ap (λ xs. drop c xs) (block_slots vacant a (b ∷ live) v s) ∙ drop_at a.items (replicate (a.size - length a.items) vacant) c is_count ∙ ap (λ n. replicate (a.size - n) vacant) is_count in
      let emptied : replicate c vacant ++ drop (length (replicate c vacant)) (run v.slots a.start a.size) ≡ filled vacant a.size [] = ap (λ n. replicate c vacant ++ drop n (run v.slots a.start a.size)) rc ∙ ap (λ xs. replicate c vacant ++ xs) left ∙ replicate-append-replicate c (a.size - c) vacant ∙ ap (λ n. replicate n vacant) (let e : c + (a.size - c) ≡ a.size - 0 = omega arith in e) in
      let first : put_run v.slots a.start (replicate c vacant) ≡ put_run v.slots a.start (filled vacant a.size []) = put_run_part v.slots a.start a.size (replicate c vacant) wa.before (omega arith) ∙ ap (λ xs. put_run v.slots a.start xs) emptied in
      let ys : List S = put_run v.slots a.start (filled vacant a.size []) in
      let u : Store S = record v { slots = put_run v.slots a.start (filled vacant a.size []) } in
      let a' : UsedBlock S = record a { items = [] } in
      let su : Sound vacant (b ∷ a' ∷ live) u = Sound-exchanged vacant a' b live u (Sound-written vacant a (b ∷ live) v [] (omega arith) s) in
      let wu = block_inside vacant b (a' ∷ live) u su in
      let slots_u : run ys b.start b.size ≡ replicate b.size vacant = block_slots vacant b (a' ∷ live) u su ∙ ap (λ xs. filled vacant b.size xs) none ∙ filled_none vacant b.size in
      let rest : items ++ drop (length items) (run ys b.start b.size) ≡ filled vacant b.size items = ap (λ xs. items ++ drop (length items) xs) slots_u ∙ ap (λ xs. items ++ xs) (drop-replicate (length items) b.size vacant) in
      let second : put_run ys b.start items ≡ put_run ys b.start (filled vacant b.size items) = put_run_part ys b.start b.size items wu.before (omega arith) ∙ ap (λ xs. put_run ys b.start xs) rest in
      let b' : UsedBlock S = record b { items = items } in
      subst (λ xs. Sound vacant (a' ∷ b' ∷ live) (record v { slots = xs })) (sym (is ∙ ap (λ xs. put_run xs b.start items) first ∙ second)) (Sound-exchanged vacant b' a' live (record u { slots = put_run ys b.start (filled vacant b.size items) }) (Sound-written vacant b (a' ∷ live) u items (omega arith) su))

  -- the items of the first block move to the front of the second
  pub Sound-moved : (count : ℕ) → length a.items ≡ count → count ≤ b.size → Sound vacant (record a { items = [] } ∷ record b { items = a.items } ∷ live) (record v { slots = swap_runs v.slots a.start b.start count })
  Sound-moved c is_count space =
      let wa = block_inside vacant a (b ∷ live) v s in
      let wb = block_inside vacant b (a ∷ live) v (Sound-exchanged vacant a b live v s) in
      let fits : c ≤ a.size = (let f = fits_block vacant a (b ∷ live) v s in omega arith) in
      let narrow : Apart a.start c b.start c = λ h. (let q = two_apart (omega arith) in omega arith) in
      Sound-put_over c a.items (swap_runs v.slots a.start b.start c) is_count (omega arith)
      (swap_runs_is v.slots a.start b.start c vacant (omega (arith, wa.before)) (omega (arith, wb.before)) narrow ∙ ap (λ xs. put_run (put_run v.slots a.start xs) b.start (run v.slots a.start c)) (run_none c space) ∙ ap (λ xs. put_run (put_run v.slots a.start (replicate c vacant)) b.start xs) (run_items c is_count))

module _ {S : Type 0} (vacant : S) (a b : UsedBlock S) (live : List (UsedBlock S)) (v : Store S) (count : ℕ) (sound : Sound vacant (b ∷ a ∷ live) v)
    (is_count : length a.items ≡ count) (space : count ≤ b.size) where
  -- both runs of slots are within the array
  pub runs_within : (a.start + count ≤ length v.slots) × (b.start + count ≤ length v.slots)
  runs_within =
      let s = Sound-exchanged vacant b a live v sound in (
        omega (arith, is_count, (block_inside vacant a (b ∷ live) v s).before, fits_block vacant a (b ∷ live) v s),
        omega (arith, (block_inside vacant b (a ∷ live) v sound).before, space),
      )

  -- the two runs have no slot in common
  pub runs_apart : (a.start + count ≤ b.start) ⊎ (b.start + count ≤ a.start)
  runs_apart =
      let s = Sound-exchanged vacant b a live v sound in
      let apart = All-head (Disjoint (extent a)) (extent b) (map extent live ++ free_extents v.tiers) (others vacant a (b ∷ live) v s) in
      elim (cases_lt b.start (a.start + count)) [
        | inl h ↦ inr (let p = apart (omega (arith, h, fits_block vacant a (b ∷ live) v s, is_count)) in omega (arith, p, space))
        | inr h ↦ inl h
      ]

  -- the second run is vacant, if the second block has no items
  pub second_vacant : b.items ≡ [] → (k : ℕ) → k < count → get_or v.slots (b.start + k) vacant ≡ vacant
  second_vacant none = vacant_at v.slots b.start count vacant (run_none vacant a b live v none (Sound-exchanged vacant b a live v sound) count space)

  -- no block is taken or freed if items are written to the second block
  pub put_over_turned : (w : Store S) (items : List S) → length items ≤ b.size → w ≡ record v { slots = put_run (put_run v.slots a.start (replicate count vacant)) b.start items } → (o : Option ℕ) → Turnover v w none_of o o
  put_over_turned w items fits e =
      let nb : length (replicate count vacant) ≡ count = length-replicate count vacant in
      let wa = block_inside vacant a (b ∷ live) v (Sound-exchanged vacant b a live v sound) in
      let wb = block_inside vacant b (a ∷ live) v sound in
      let ni : length (put_run v.slots a.start (replicate count vacant)) ≡ length v.slots = length-put_run v.slots a.start (replicate count vacant) (omega (arith, runs_within.0)) in
      Turnover-written v w (put_run (put_run v.slots a.start (replicate count vacant)) b.start items) e
      (length-put_run (put_run v.slots a.start (replicate count vacant)) b.start items (omega (arith, wb.before)) ∙ ni)
      (λ i d h. get_or-put_run_out (put_run v.slots a.start (replicate count vacant)) b.start items i d (omega (arith, wb.before)) (λ _. omega (arith, wb.after))
      ∙ get_or-put_run_out v.slots a.start (replicate count vacant) i d (omega (arith, runs_within.0)) (λ _. omega (arith, wa.after)))

  -- no block is taken or freed if the two runs are exchanged
  pub moved_turned : (w : Store S) → w ≡ record v { slots = swap_runs v.slots a.start b.start count } → (o : Option ℕ) → Turnover v w none_of o o
  moved_turned w e =
      let s = Sound-exchanged vacant b a live v sound in
      let apart = All-head (Disjoint (extent a)) (extent b) (map extent live ++ free_extents v.tiers) (others vacant a (b ∷ live) v s) in
      Turnover-written v w (swap_runs v.slots a.start b.start count) e (length-swap_runs v.slots a.start b.start count)
      (λ i d h. (exchanged v.slots a.start b.start count d runs_within.0 runs_within.1
      (λ q. let p = apart (omega (arith, q, fits_block vacant a (b ∷ live) v s, is_count)) in omega (arith, p, space))).elsewhere i
      (λ _. omega (arith, h, (block_inside vacant a (b ∷ live) v s).after)) (λ _. omega (arith, h, (block_inside vacant b (a ∷ live) v sound).after)))
