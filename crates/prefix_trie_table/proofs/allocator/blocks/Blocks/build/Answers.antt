-- Building a list is writing its items into a new block of vacant slots, which has space for all of them.
use Rattle.prefix_trie_table.proofs.Prelude.{◌≤◌, ◌+◌, length, arith}
use Rattle.prefix_trie_table.proofs.Blocks.BuiltLists.{run_inside, items_built}
use Rattle.prefix_trie_table.proofs.allocator.blocks.Blocks.build.Goals as goal

pub write_run-requires : goal.write_run-requires
write_run-requires g c =
    let inside = run_inside g.S.Slot.vacant c.args.self.now c.build_vacant.new.self c.in_ok-at.at c.requires.sound.0 c.requires.sound.1 c.args.items.now c.in_ok-at.ensures.built in
    let seen : c.in_ok-at.at.start + length c.args.items.now ≤ length (g.R.SlotArray.list c.self.inside.slots) = rw (← c.self.view_is) at inside in
    record { within = omega (arith, seen); values = c.requires.values }

pub returns-clause-built : goal.returns-clause-built
returns-clause-built g c =
    let items = items_built g.S.Slot.vacant c.args.self.now c.build_vacant.new.self c.in_ok-at.at c.requires.sound.0 c.requires.sound.1 c.args.items.now c.in_ok-at.ensures.built in
    rw (c.write_run.ensures.written, c.write_run.ensures.capacities) (rw (← c.self.view_is) at items)
