-- Dropping empty nodes upward, until one has a value or a child or is the root, removes exactly the pruned ones.
use Rattle.prefix_trie_table.proofs.Prelude.{◌≡◌, ◌+◌, ◌-◌, ◌*◌, ◌≤◌, inl, inr, Bool, List, length, length-drop, take, true, sym, ap, refl, subst, arith, has_bit, node_at, chunks_of, IsBare, GivesBack, slot_in}
use Rattle.prefix_trie_table.proofs.Strings.Digits.{path-length}
use Rattle.prefix_trie_table.proofs.Lookup.SearchPaths.{rest_step}
use Rattle.prefix_trie_table.proofs.Removal.Pruning.{Pruning, pruning_first, pruning_more, parent_is, parent_slot, parent_bit}
use Rattle.prefix_trie_table.proofs.Removal.FreedBlocks.{gives_same, gives_then}
use Rattle.prefix_trie_table.proofs.Insertion.Spaces.{Grows-same, Grows-after}
use Rattle.prefix_trie_table.proofs.Blocks.Turnovers.{made_kept}
use Rattle.prefix_trie_table.proofs.table.removal.prune_up.Goals as goal

pub loop-level-init : goal.loop-level-init
loop-level-init g c = record {
  pruned = λ s. pruning_first (chunks_of c.args.path) c.args.ancestors.now _ c.args.node c.args.nodes.now s (omega (arith, path-length c.args.path, c.len-level.ensures.len));
  space = Grows-same _ _ 24 refl;
  last = λ _. gives_same _;
  within = omega (arith, c.len-level.ensures.len);
}

pub bounds-ancestors-level : goal.bounds-ancestors-level
bounds-ancestors-level g c = omega (arith, c.loop-level.invariant.within, c.loop-level-test.true, path-length c.args.path, c.requires.is_there.long)

pub child_bit-requires : goal.child_bit-requires
child_bit-requires g c =
    omega (arith, c.loop-level.invariant.within, c.loop-level-test.true, ap (λ (xs : List Bool). length xs) c.after.ensures, length-drop (5 * (c.loop-level.level - 1)) c.args.path)

pub drop_child-node-requires-clause-is_there : goal.drop_child-node-requires-clause-is_there
drop_child-node-requires-clause-is_there g c =
    let path = chunks_of c.args.path in
    let up : c.loop-level.level ≡ c.loop-level.level - 1 + 1 = omega (arith, c.loop-level-test.true) in
    let s = c.requires.is_there in
    let p = subst (λ n. Pruning s.reading s.paths (chunks_of c.args.path) c.args.ancestors.now n c.loop-level.node c.args.nodes.now c.loop-level.nodes) up (c.loop-level.invariant.pruned s) in (
      record { reading = p.to.later; paths = p.to.left; hold = p.to.hold },
      record {
        path = take (c.loop-level.level - 1) path;
        node = _;
        is_there = parent_slot s.reading s.paths path c.args.ancestors.now (c.loop-level.level - 1) c.loop-level.node c.args.nodes.now c.loop-level.nodes p;
        is = parent_is s.reading s.paths path c.args.ancestors.now (c.loop-level.level - 1) c.loop-level.node c.args.nodes.now c.loop-level.nodes p;
      },
    )

pub drop_child-node-requires-clause-there : goal.drop_child-node-requires-clause-there
drop_child-node-requires-clause-there g c =
    let up : c.loop-level.level ≡ c.loop-level.level - 1 + 1 = omega (arith, c.loop-level-test.true) in
    let more : 5 ≤ length c.after.result =
    omega (arith, c.loop-level.invariant.within, c.loop-level-test.true, ap (λ (xs : List Bool). length xs) c.after.ensures, length-drop (5 * (c.loop-level.level - 1)) c.args.path) in
    let digit = rest_step c.args.path c.after.result (c.loop-level.level - 1) c.after.ensures more c.child_bit.result c.child_bit.ensures.value in
    let s = c.requires.is_there in
    subst (λ d. has_bit (node_at c.loop-level.nodes.slots (slot_in c.args.ancestors.now (c.loop-level.level - 1))).child_bitmap d ≡ true) digit
    (parent_bit s.reading s.paths (chunks_of c.args.path) c.args.ancestors.now (c.loop-level.level - 1) c.loop-level.node c.args.nodes.now c.loop-level.nodes
    (subst (λ n. Pruning s.reading s.paths (chunks_of c.args.path) c.args.ancestors.now n c.loop-level.node c.args.nodes.now c.loop-level.nodes) up (c.loop-level.invariant.pruned s)))

pub loop-level-preserved : goal.loop-level-preserved
loop-level-preserved g c =
    let up : c.loop-level.level ≡ c.loop-level.level - 1 + 1 = omega (arith, c.loop-level-test.true) in
    let more : 5 ≤ length c.after.result =
    omega (arith, c.loop-level.invariant.within, c.loop-level-test.true, ap (λ (xs : List Bool). length xs) c.after.ensures, length-drop (5 * (c.loop-level.level - 1)) c.args.path) in
    let digit = rest_step c.args.path c.after.result (c.loop-level.level - 1) c.after.ensures more c.child_bit.result c.child_bit.ensures.value in
    let bare : IsBare c.loop-level.node = c.if-is_bare.ensures.bare refl in
    let back : GivesBack c.args.nodes.now c.loop-level.nodes = c.loop-level.invariant.last bare.no_children in
    record {
      pruned = λ s.
          pruning_more s.reading s.paths (chunks_of c.args.path) c.args.ancestors.now (c.loop-level.level - 1) c.loop-level.node c.args.nodes.now c.loop-level.nodes
          (subst (λ n. Pruning s.reading s.paths (chunks_of c.args.path) c.args.ancestors.now n c.loop-level.node c.args.nodes.now c.loop-level.nodes) up (c.loop-level.invariant.pruned s))
          c.child_bit.result c.drop_child-node.result c.drop_child-node.new.nodes (sym digit) bare back c.drop_child-node.ensures.dropped;
      space = Grows-after _ _ _ 24 back.none.space (made_kept c.args.nodes.now c.loop-level.nodes back.none.made) c.drop_child-node.ensures.space;
      last = λ none. gives_then _ _ _ back (c.drop_child-node.ensures.last none);
      within = omega (arith, c.loop-level.invariant.within);
    }

pub returns-else-is_bare-clause-space : goal.returns-else-is_bare-clause-space
returns-else-is_bare-clause-space g c = c.loop-level.invariant.space

pub returns-else-is_bare-clause-bounds_growth : goal.returns-else-is_bare-clause-bounds_growth
returns-else-is_bare-clause-bounds_growth g c = (c.loop-level.invariant.pruned c.requires.is_there).to.bounds_growth

pub returns-else-is_bare-clause-pruned : goal.returns-else-is_bare-clause-pruned
returns-else-is_bare-clause-pruned g c = λ s.
    record { level = c.loop-level.level; node = c.loop-level.node; to = (c.loop-level.invariant.pruned s).to; stops = inr (c.if-is_bare.ensures.stocked refl) }

pub returns-after-loop-level-clause-space : goal.returns-after-loop-level-clause-space
returns-after-loop-level-clause-space g c = c.loop-level.invariant.space

pub returns-after-loop-level-clause-bounds_growth : goal.returns-after-loop-level-clause-bounds_growth
returns-after-loop-level-clause-bounds_growth g c = (c.loop-level.invariant.pruned c.requires.is_there).to.bounds_growth

pub returns-after-loop-level-clause-pruned : goal.returns-after-loop-level-clause-pruned
returns-after-loop-level-clause-pruned g c = λ s.
    record { level = c.loop-level.level; node = c.loop-level.node; to = (c.loop-level.invariant.pruned s).to; stops = inl (omega (arith, c.loop-level-test.false)) }
