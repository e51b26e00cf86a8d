-- Moving a list into another block, with a new item in its place, keeps the store sound.
use Rattle.prefix_trie_table.proofs.Prelude.{◌≡◌, ◌+◌, ◌∷◌, inl, inr, replicate, insert, sym, ap, ◌∙◌, arith, cases_lt, length-insert, run, put_run}
use Rattle.prefix_trie_table.proofs.Blocks.Capacity.{Sound-capacities}
use Rattle.prefix_trie_table.proofs.Blocks.Soundness.{Sound-exchanged, block_inside, fits_block}
use Rattle.prefix_trie_table.proofs.Blocks.ListMoves.{Sound-put_over, two_apart, run_items, run_none}
use Rattle.prefix_trie_table.proofs.allocator.blocks.Blocks.move_in.Goals as goal

pub move_in-requires : goal.move_in-requires
move_in-requires g c =
    let q = c.requires.blocks in
    let a = q.0 in
    let b = q.1 in
    let s = rw (← c.self.view_is) at q.3 in
    let v = c.self.inside in
    let wa = block_inside g.S.Slot.vacant a (b ∷ q.2) _ s in
    let wb = block_inside g.S.Slot.vacant b (a ∷ q.2) _ (Sound-exchanged g.S.Slot.vacant a b q.2 _ s) in
    let fits = fits_block g.S.Slot.vacant a (b ∷ q.2) _ s in
    record {
      from_within = omega (arith, wa.before, fits, q.4, q.6);
      to_within = omega (arith, wb.before, q.5, q.8);
      apart = elim (cases_lt c.args.to (c.args.from + c.args.count)) [
        | inl h ↦ inr (let apart = two_apart g.S.Slot.vacant a b q.2 _ q.7 s in omega (arith, apart, h, fits, q.4, q.5, q.6, q.8))
        | inr h ↦ inl h
      ];
      unused = ap (λ n. run (g.R.SlotArray.list v.slots) n (c.args.count + 1)) (sym q.5) ∙ (run_none g.S.Slot.vacant a b q.2 _ q.7 s (c.args.count + 1) (omega (arith, q.8)));
      offset = c.requires.offset;
      value = c.requires.value;
    }

pub returns-clause-sound : goal.returns-clause-sound
returns-clause-sound g c = λ a b live s0 from to count none space.
    let s = rw (← c.self.view_is) at s0 in
    let xs = (g.R.SlotArray.list c.self.inside.slots) in
    let n = c.args.count in
    let written : (g.R.SlotArray.list c.move_in.new.slots) ≡ put_run (put_run xs a.start (replicate n g.S.Slot.vacant)) b.start (insert a.items c.args.offset c.args.value) = c.move_in.ensures.items
    ∙ ap (λ i. put_run (put_run xs i (replicate n g.S.Slot.vacant)) c.args.to (insert (run xs i n) c.args.offset c.args.value)) (sym from)
    ∙ ap (λ i. put_run (put_run xs a.start (replicate n g.S.Slot.vacant)) i (insert (run xs a.start n) c.args.offset c.args.value)) (sym to)
    ∙ ap (λ ys. put_run (put_run xs a.start (replicate n g.S.Slot.vacant)) b.start (insert ys c.args.offset c.args.value)) (run_items g.S.Slot.vacant a b live _ none s n count) in
    let long = length-insert a.items c.args.offset c.args.value (omega (arith, count, c.requires.offset)) in
    Sound-capacities g.S.Slot.vacant _ _ (g.R.SlotArray.capacities c.move_in.new.slots)
    (Sound-put_over g.S.Slot.vacant a b live _ none s n (insert a.items c.args.offset c.args.value) (g.R.SlotArray.list c.move_in.new.slots) count (omega (arith, long, count, space)) written)
