-- A list in a full block moves to a larger one with the new item in its place, and its old block is freed.
use Rattle.prefix_trie_table.proofs.Prelude.{◌≡◌, ◌<◌, ◌∷◌, [], insert, None, Some, ap, ◌∙◌, subst, refl, arith, length-insert, run, Turnover, tier_at, tier_sizes, size_in, none_of, block}
use Rattle.prefix_trie_table.proofs.Blocks.BySize.{size_at}
use Rattle.prefix_trie_table.proofs.Blocks.Soundness.{Sound-exchanged, has_place}
use Rattle.prefix_trie_table.proofs.Blocks.RunLemmas.{length-run}
use Rattle.prefix_trie_table.proofs.Blocks.ListMoves.{runs_within, put_over_turned}
use Rattle.prefix_trie_table.proofs.Blocks.Turnovers.{Turnover-moved}
use Rattle.prefix_trie_table.proofs.allocator.blocks.Blocks.insert_moving.Goals as goal

pub move_in-requires-clause-blocks : goal.move_in-requires-clause-blocks
move_in-requires-clause-blocks g c =
    let u = c.requires.in_use in
    let a = block c.args.k c.args.outgrown u.size u.items in
    let b = block c.args.to c.take-new.result (tier_at c.args.self.now.tiers c.args.to).size [] in
    let s = Sound-exchanged g.S.Slot.vacant b a u.live _ (c.take-new.ensures.sound (a ∷ u.live) u.sound) in
    (a, b, u.live, s, refl, refl, u.is_count, refl, omega (arith, c.requires.holds, size_at c.args.self.now.tiers c.args.to))

pub give_back-requires : goal.give_back-requires
give_back-requires g c =
    let u = c.requires.in_use in
    let a = block c.args.k c.args.outgrown u.size u.items in
    let b = block c.args.to c.take-new.result (tier_at c.args.self.now.tiers c.args.to).size [] in
    let s = Sound-exchanged g.S.Slot.vacant b a u.live _ (c.take-new.ensures.sound (a ∷ u.live) u.sound) in
    let space : c.args.count < (tier_at c.args.self.now.tiers c.args.to).size = omega (arith, c.requires.holds, size_at c.args.self.now.tiers c.args.to) in
    let reserved = has_place g.S.Slot.vacant _ _ _ (c.move_in.ensures.sound a b u.live s refl refl u.is_count refl space) in
    record { within = reserved.0; reserved = reserved.1 }

pub returns-clause-sound : goal.returns-clause-sound
returns-clause-sound g c = λ n xs live sound count.
    let a = block c.args.k c.args.outgrown n xs in
    let b = block c.args.to c.take-new.result (tier_at c.args.self.now.tiers c.args.to).size [] in
    let space : c.args.count < (tier_at c.args.self.now.tiers c.args.to).size = omega (arith, c.requires.holds, size_at c.args.self.now.tiers c.args.to) in
    let s = Sound-exchanged g.S.Slot.vacant b a live _ (c.take-new.ensures.sound (a ∷ live) sound) in
    c.give_back.ensures.sound _ n (c.move_in.ensures.sound a b live s refl refl count refl space)

pub returns-clause-turnover : goal.returns-clause-turnover
returns-clause-turnover g c =
    let v = c.args.self.now in
    let t = c.take-new.new.self in
    let w = c.move_in.new.self in
    let u = c.requires.in_use in
    let a = block c.args.k c.args.outgrown u.size u.items in
    let b = block c.args.to c.take-new.result (tier_at c.args.self.now.tiers c.args.to).size [] in
    let space : c.args.count < (tier_at c.args.self.now.tiers c.args.to).size = omega (arith, c.requires.holds, size_at c.args.self.now.tiers c.args.to) in
    let s0 = c.take-new.ensures.sound (a ∷ u.live) u.sound in
    let xs = run c.take-new.new.self.slots c.args.outgrown c.args.count in
    let within = runs_within g.S.Slot.vacant a b u.live _ c.args.count s0 u.is_count (omega (arith, space)) in
    let short = length-run c.take-new.new.self.slots c.args.outgrown c.args.count within.0 in
    let long = length-insert (run c.take-new.new.self.slots c.args.outgrown c.args.count) c.args.offset c.args.value (omega (arith, short, c.requires.offset)) in
    let moved = put_over_turned g.S.Slot.vacant a b u.live _ c.args.count s0 u.is_count (omega (arith, space)) w (insert xs c.args.offset c.args.value) (omega (arith, short, long, space)) c.move_in.ensures.slots None in
    let size : size_in (tier_sizes w.tiers) c.args.k ≡ size_in (tier_sizes v.tiers) c.args.k = ap (λ ns. size_in ns c.args.k) (moved.keeps.sizes ∙ c.take-new.ensures.turnover.keeps.sizes) in
    Turnover-moved v t w c.give_back.new.self none_of (Some (size_in (tier_sizes v.tiers) c.args.k)) (Some (size_in (tier_sizes v.tiers) c.args.to)) c.take-new.ensures.turnover moved
    (subst (λ n. Turnover w c.give_back.new.self none_of (Some n) None) size c.give_back.ensures.turnover)
