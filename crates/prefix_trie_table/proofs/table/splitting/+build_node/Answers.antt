-- The recursion that builds a subtree: a node's values first, then its children, and no node if both are left out.
use Rattle.prefix_trie_table.specs.Blocks.NodeArrays.{FitsByte}
use Rattle.prefix_trie_table.proofs.Prelude.{ℕ, All, All-nil, All-push, IfSome, None, replicate, sym, ap, subst, ◌∙◌, arith, ◌≡◌, ◌+◌, ◌-◌, List, [], length, bit_and, err_from_is_err_and, Memory, node_at, blank_node, node_sizes, cell_sizes, Node, child_slots, value_slots, sum_to, slots_at_child, slots_below, IsSubtree, IsBuilt, NothingBuilt, BuildsNode, BuildsList, Builds, tier_sizes}
use Rattle.prefix_trie_table.proofs.Splitting.BuiltSubtrees.{first, subtree_start, subtree_few, subtree_clear, subtree_passed, subtree_attached, subtree_closed, subtree_bare}
use Rattle.prefix_trie_table.proofs.Splitting.FreshArrays.{Builds-none, can_build_then}
use Rattle.prefix_trie_table.proofs.Splitting.Parts.{kept, own_values, left_out, below_it}
use Rattle.prefix_trie_table.proofs.Splitting.Sources.{child_inside, some_level, source_below, own_within}
use Rattle.prefix_trie_table.proofs.Splitting.Space.{values_few, built_tier, for_memory, values_packed, children_packed, slots_split, child_amount, child_space}
use Rattle.prefix_trie_table.proofs.Insertion.InsertionEffects.{node_fits, cell_fits}
use Rattle.prefix_trie_table.proofs.Strings.BareBitmaps.{was_set, others_stay}
use Rattle.prefix_trie_table.proofs.Strings.Bits.{has_bit-is}
use Rattle.prefix_trie_table.proofs.Strings.BitLists.{rank-le, rank-missing}
use Rattle.prefix_trie_table.proofs.table.splitting.+build_node.Goals as goal

-- the values that are built, and their block
pub build_vacant-requires-clause-sound : goal.build_vacant-requires-clause-sound
build_vacant-requires-clause-sound g t c = (c.requires.cells.live, c.requires.cells.sound)

pub build_vacant-requires-clause-fits : goal.build_vacant-requires-clause-fits
build_vacant-requires-clause-fits g t c =
    let values : ℕ = bit_and c.args.node.value_bitmap c.masks-values.result.0 in
    let few = values_few values (λ b set. own_within c.args.from.now c.args.node c.args.levels c.requires.source b (kept c.args.node.value_bitmap c.masks-values.result.0 b set)) in
    let counted = c.count.ensures in
    cell_fits c.args.cells.now.tiers c.count.result c.requires.cells.sizes_are (omega (arith, few, counted))

pub overflow_cast-built : goal.overflow_cast-built
overflow_cast-built g t c = omega (arith, built_tier None c.args.cells.now c.build_vacant.new.self _ c.in_ok-own.own cell_sizes c.requires.cells.sizes_are (omega arith) c.in_ok-own.ensures.built)

pub returns-in_err-own : goal.returns-in_err-own
returns-in_err-own g t c =
    let values : ℕ = bit_and c.args.node.value_bitmap c.masks-values.result.0 in
    let packed = values_packed c.args.node (tier_sizes c.args.cells.now.tiers) values c.count.result c.requires.cells.sizes_are
    c.count.ensures (kept c.args.node.value_bitmap c.masks-values.result.0)
    (own_within c.args.from.now c.args.node c.args.levels c.requires.source) in
    let split = slots_split value_slots c.args.from.now.slots c.args.levels c.args.node in
    let memory : c.in_err-own.field-0.0 ≡ Memory = for_memory c.in_err-own.field-0.0 (λ is. let past = c.in_err-own.ensures.range is in absurd (omega (arith, past, packed, split, c.requires.cells.space))) in
    let p = err_from_is_err_and c.from_residual.result c.from_residual.ensures.1 in rw (p.1, p.2) (record { built = tt; fits = tt; memory = memory })

pub loop-child-init : goal.loop-child-init
loop-child-init g t c =
    let values : ℕ = bit_and c.args.node.value_bitmap c.masks-values.result.0 in
    let counted = c.count.ensures in
    let packed = values_packed c.args.node (tier_sizes c.args.cells.now.tiers) values c.count.result c.requires.cells.sizes_are counted
    (kept c.args.node.value_bitmap c.masks-values.result.0) (own_within c.args.from.now c.args.node c.args.levels c.requires.source) in
    record {
      subtree = subst (λ xs. IsSubtree c.args.from.now.slots c.args.levels c.args.node c.args.rest.now c.args.nodes.now c.args.cells.now 0 (first values c.in_ok-own.own) xs c.args.nodes.now c.build_vacant.new.self)
          (sym c.new-below.ensures)
          (subtree_start values c.in_ok-own.own c.build_vacant.new.self
          (own_values c.args.node c.args.rest.now c.masks-values.result.0 c.masks-values.ensures.values)
          (λ b set. own_within c.args.from.now c.args.node c.args.levels c.requires.source b (kept c.args.node.value_bitmap c.masks-values.result.0 b set))
          c.requires.cells.sizes_are
          (subst (λ n. BuildsList None c.args.cells.now c.build_vacant.new.self (replicate n None) c.in_ok-own.own) counted c.in_ok-own.ensures.built)
          (omega (arith, c.in_ok-own.ensures.longer, packed)));
      fit = subst (λ xs. All FitsByte xs) (sym c.new-below.ensures) (All-nil FitsByte);
      tier = omega (arith, built_tier None c.args.cells.now c.build_vacant.new.self _ c.in_ok-own.own cell_sizes c.requires.cells.sizes_are (omega arith) c.in_ok-own.ensures.built);
    }

-- a child that is left out
pub loop-child-preserved-then-not-has_bit : goal.loop-child-preserved-then-not-has_bit
loop-child-preserved-then-not-has_bit g t c =
    let clear = has_bit-is (bit_and c.args.node.child_bitmap c.masks-values.result.1) c.loop-child.child c.loop-child-test.true ∙ sym c.has_bit.ensures ∙ c.if-not-has_bit.true in
    record {
      subtree = subtree_passed c.loop-child.invariant.subtree c.loop-child.nodes c.loop-child.cells
          (λ u s long is. left_out c.args.from.now.slots c.args.node _ c.masks-values.result.1 c.masks-values.ensures.children c.loop-child.child u s long is clear)
          (Builds-none blank_node c.loop-child.nodes _) (Builds-none None c.loop-child.cells _);
      fit = c.loop-child.invariant.fit;
      tier = c.loop-child.invariant.tier;
    }

-- one that is built
pub visit-lower-requires : goal.visit-lower-requires
visit-lower-requires g t c =
    let set = has_bit-is (bit_and c.args.node.child_bitmap c.masks-values.result.1) c.loop-child.child c.loop-child-test.true ∙ sym c.has_bit.ensures ∙ c.if-not-has_bit.false in
    let inside = child_inside c.args.from.now c.args.node c.args.levels c.requires.source c.loop-child.child (kept c.args.node.child_bitmap c.masks-values.result.1 c.loop-child.child set) in
    let slot = c.child_slot.ensures in omega (arith, inside, slot)

pub overflow_sub-fewer : goal.overflow_sub-fewer
overflow_sub-fewer g t c =
    let set = has_bit-is (bit_and c.args.node.child_bitmap c.masks-values.result.1) c.loop-child.child c.loop-child-test.true ∙ sym c.has_bit.ensures ∙ c.if-not-has_bit.false in
    let some = some_level c.args.from.now c.args.node c.args.levels c.requires.source c.loop-child.child (kept c.args.node.child_bitmap c.masks-values.result.1 c.loop-child.child set) in
    omega (arith, some)

pub build_node-requires : goal.build_node-requires
build_node-requires g t c κs within =
    let child : ℕ = c.loop-child.child in
    let set = has_bit-is (bit_and c.args.node.child_bitmap c.masks-values.result.1) child c.loop-child-test.true ∙ sym c.has_bit.ensures ∙ c.if-not-has_bit.false in
    let there = kept c.args.node.child_bitmap c.masks-values.result.1 child set in
    let is = c.visit-lower.ensures.node ∙ ap (node_at c.args.from.now.slots) c.child_slot.ensures in
    let some = some_level c.args.from.now c.args.node c.args.levels c.requires.source child there in
    let below = source_below c.args.from.now c.args.node c.args.levels c.requires.source child there c.visit-lower.result (c.args.levels - 1) is (omega (arith, some)) in
    let amount = λ (own : Node → ℕ). child_amount own c.args.from.now.slots c.args.levels c.args.node c.visit-lower.result child some there is in
    let space = λ (own : Node → ℕ). child_space own c.args.from.now.slots c.args.levels c.args.node c.visit-lower.result child c.loop-child-test.true (amount own) in
    let inv = c.loop-child.invariant.subtree in
    let nodes = can_build_then blank_node c.args.nodes.now c.loop-child.nodes node_sizes _ _ (slots_below child_slots c.args.from.now.slots (c.args.levels - 1) c.visit-lower.result) _
    c.requires.nodes inv.nodes (let r = space child_slots in omega (arith, r)) in
    let cells = can_build_then None c.args.cells.now c.loop-child.cells cell_sizes _ _ (slots_below value_slots c.args.from.now.slots (c.args.levels - 1) c.visit-lower.result) _
    c.requires.cells inv.cells (let r = space value_slots in omega (arith, r)) in
    (omega (arith, some), (within.0, (within.1.0, (within.1.1.0, (within.1.1.1, (below, (nodes, cells)))))))

pub returns-in_err-branch : goal.returns-in_err-branch
returns-in_err-branch g t c = let p = err_from_is_err_and c.from_residual-in_err-branch.result c.from_residual-in_err-branch.ensures.1 in rw (p.1, p.2) (record { built = tt; fits = tt; memory = c.in_err-branch.ensures.memory })

pub loop-child-preserved-in_default : goal.loop-child-preserved-in_default
loop-child-preserved-in_default g t c =
    let child : ℕ = c.loop-child.child in
    let set = has_bit-is (bit_and c.args.node.child_bitmap c.masks-values.result.1) child c.loop-child-test.true ∙ sym c.has_bit.ensures ∙ c.if-not-has_bit.false in
    let there = kept c.args.node.child_bitmap c.masks-values.result.1 child set in
    let is = c.visit-lower.ensures.node ∙ ap (node_at c.args.from.now.slots) c.child_slot.ensures in
    let some = some_level c.args.from.now c.args.node c.args.levels c.requires.source child there in
    let amount = λ (own : Node → ℕ). child_amount own c.args.from.now.slots c.args.levels c.args.node c.visit-lower.result child some there is in
    let nothing = subst (λ x. NothingBuilt c.args.from.now.slots (c.args.levels - 1) c.visit-lower.result x c.loop-child.nodes c.build_node.new.nodes c.loop-child.cells c.build_node.new.cells)
    c.masks-values.ensures.below
    (subst (BuildsNode c.args.from.now.slots (c.args.levels - 1) c.visit-lower.result c.masks-values.result.2 c.loop-child.nodes
    c.build_node.new.nodes c.loop-child.cells c.build_node.new.cells) c.in_default.is c.in_ok-branch.ensures.built) in
    record {
      subtree = subtree_passed c.loop-child.invariant.subtree c.build_node.new.nodes c.build_node.new.cells
          (λ u s long e. below_it c.args.from.now.slots c.args.node _ c.masks-values.result.1 c.masks-values.ensures.children child u s long e set c.visit-lower.result is ∙ nothing.none s)
          (subst (λ k. Builds blank_node [] k c.loop-child.nodes c.build_node.new.nodes) (sym (amount child_slots)) nothing.nodes)
          (subst (λ k. Builds None [] k c.loop-child.cells c.build_node.new.cells) (sym (amount value_slots)) nothing.cells);
      fit = c.loop-child.invariant.fit;
      tier = c.loop-child.invariant.tier;
    }

pub push-requires : goal.push-requires
push-requires g t c =
    let clear = subtree_clear c.loop-child.invariant.subtree c.loop-child.child (omega arith) in
    (omega arith, omega (arith, subtree_few c.loop-child.invariant.subtree, rank-missing c.loop-child.built.child_bitmap 32 c.loop-child.child c.loop-child-test.true clear))

pub with_bit-requires-clause-bit : goal.with_bit-requires-clause-bit
with_bit-requires-clause-bit g t c = c.loop-child-test.true

pub with_bit-requires-clause-clear : goal.with_bit-requires-clause-clear
with_bit-requires-clause-clear g t c =
    sym (has_bit-is c.loop-child.built.child_bitmap c.loop-child.child c.loop-child-test.true)
    ∙ subtree_clear c.loop-child.invariant.subtree c.loop-child.child (omega arith)

pub loop-child-preserved : goal.loop-child-preserved
loop-child-preserved g t c =
    let child : ℕ = c.loop-child.child in
    let set = has_bit-is (bit_and c.args.node.child_bitmap c.masks-values.result.1) child c.loop-child-test.true ∙ sym c.has_bit.ensures ∙ c.if-not-has_bit.false in
    let there = kept c.args.node.child_bitmap c.masks-values.result.1 child set in
    let is = c.visit-lower.ensures.node ∙ ap (node_at c.args.from.now.slots) c.child_slot.ensures in
    let some = some_level c.args.from.now c.args.node c.args.levels c.requires.source child there in
    let branch = subst (λ x. IsBuilt c.args.from.now.slots (c.args.levels - 1) c.visit-lower.result x c.loop-child.nodes c.build_node.new.nodes c.loop-child.cells c.build_node.new.cells
    c.in-Some.branch) c.masks-values.ensures.below
    (subst (BuildsNode c.args.from.now.slots (c.args.levels - 1) c.visit-lower.result c.masks-values.result.2 c.loop-child.nodes
    c.build_node.new.nodes c.loop-child.cells c.build_node.new.cells) c.in-Some.is c.in_ok-branch.ensures.built) in
    let sets = c.with_bit.ensures.sets in
    record {
      subtree = subst (λ xs. IsSubtree c.args.from.now.slots c.args.levels c.args.node c.args.rest.now c.args.nodes.now c.args.cells.now (child + 1) (record c.loop-child.built { child_bitmap = c.with_bit.result }) xs
          c.build_node.new.nodes c.build_node.new.cells) (sym c.push.ensures.items)
          (subtree_attached c.loop-child.invariant.subtree c.in-Some.branch c.with_bit.result (c.args.levels - 1) c.visit-lower.result c.build_node.new.nodes c.build_node.new.cells branch
          c.loop-child-test.true there
          (λ u s long e. below_it c.args.from.now.slots c.args.node c.args.rest.now c.masks-values.result.1 c.masks-values.ensures.children child u s long e set c.visit-lower.result is)
          (λ own. child_amount own c.args.from.now.slots c.args.levels c.args.node c.visit-lower.result child some there is)
          (was_set c.loop-child.built.child_bitmap c.with_bit.result child sets c.loop-child-test.true)
          (λ i ne. sym (others_stay c.loop-child.built.child_bitmap c.with_bit.result child sets c.loop-child-test.true i ne)));
      fit = (let one = subst (λ o. IfSome o FitsByte) c.in-Some.is c.in_ok-branch.ensures.fits in subst (λ xs. All FitsByte xs) (sym c.push.ensures.items) (All-push FitsByte c.loop-child.below.items c.in-Some.branch c.loop-child.invariant.fit one));
      tier = c.loop-child.invariant.tier;
    }

-- the node whose children are built
pub returns-then-is_bare-clause-built : goal.returns-then-is_bare-clause-built
returns-then-is_bare-clause-built g t c =
    let all : c.loop-child.child ≡ 32 = (let h = c.loop-child-test.false in let e = c.loop-child.auto.child-end in omega (arith, h, e)) in
    subtree_bare c.loop-child.invariant.subtree all (c.is_bare.ensures.bare c.if-is_bare.true)

pub build-requires-clause-tiers : goal.build-requires-clause-tiers
build-requires-clause-tiers g t c = subst (λ xs. All FitsByte xs) (sym c.deref.ensures.0) c.loop-child.invariant.fit

pub build-requires-clause-sound : goal.build-requires-clause-sound
build-requires-clause-sound g t c = (_, c.loop-child.invariant.subtree.nodes.sound c.requires.nodes.live c.requires.nodes.sound)

pub build-requires-clause-fits : goal.build-requires-clause-fits
build-requires-clause-fits g t c =
    let few = subtree_few c.loop-child.invariant.subtree in
    let same = ap (λ (xs : List Node). length xs) c.deref.ensures.0 in
    let most = rank-le c.loop-child.built.child_bitmap 32 in
    node_fits c.loop-child.nodes.tiers (length c.deref.result.now) (c.loop-child.invariant.subtree.nodes.keeps.sizes ∙ c.requires.nodes.sizes_are) (omega (arith, few, same, most))

pub build-requires-clause-few : goal.build-requires-clause-few
build-requires-clause-few g t c = omega (arith, subtree_few c.loop-child.invariant.subtree, ap (λ (xs : List Node). length xs) c.deref.ensures.0, rank-le c.loop-child.built.child_bitmap 32)

pub returns-in_err-list : goal.returns-in_err-list
returns-in_err-list g t c =
    let all : c.loop-child.child ≡ 32 = (let h = c.loop-child-test.false in let e = c.loop-child.auto.child-end in omega (arith, h, e)) in
    let same = ap (λ (xs : List Node). length xs) c.deref.ensures.0 in
    let packed = children_packed c.args.node (tier_sizes c.loop-child.nodes.tiers) c.loop-child.built.child_bitmap (length c.deref.result.now)
    (c.loop-child.invariant.subtree.nodes.keeps.sizes ∙ c.requires.nodes.sizes_are) (omega (arith, same, subtree_few c.loop-child.invariant.subtree)) c.loop-child.invariant.subtree.kept in
    let sums = ap (sum_to (slots_at_child child_slots c.args.from.now.slots c.args.levels c.args.node)) all in
    let left = can_build_then blank_node c.args.nodes.now c.loop-child.nodes node_sizes _ _ (child_slots c.args.node) _ c.requires.nodes c.loop-child.invariant.subtree.nodes
    (omega (arith, slots_split child_slots c.args.from.now.slots c.args.levels c.args.node, sums)) in
    let memory : c.in_err-list.field-0.0 ≡ Memory = for_memory c.in_err-list.field-0.0 (λ is. let past = c.in_err-list.ensures.range is in absurd (omega (arith, past, packed, left.space))) in
    let p = err_from_is_err_and c.from_residual-in_err-list.result c.from_residual-in_err-list.ensures.1 in rw (p.1, p.2) (record { built = tt; fits = tt; memory = memory })

pub overflow_cast-built-2 : goal.overflow_cast-built-2
overflow_cast-built-2 g t c =
    let small = built_tier blank_node c.loop-child.nodes c.build.new.self c.deref.result.now c.in_ok-list.list node_sizes
    (c.loop-child.invariant.subtree.nodes.keeps.sizes ∙ c.requires.nodes.sizes_are) (omega arith) c.in_ok-list.ensures.built in
    omega (arith, small)

pub returns-clause-built : goal.returns-clause-built
returns-clause-built g t c =
    let all : c.loop-child.child ≡ 32 = (let h = c.loop-child-test.false in let e = c.loop-child.auto.child-end in omega (arith, h, e)) in
    let are = c.loop-child.invariant.subtree.nodes.keeps.sizes ∙ c.requires.nodes.sizes_are in
    let packed = children_packed c.args.node (tier_sizes c.loop-child.nodes.tiers) c.loop-child.built.child_bitmap (length c.deref.result.now) are
    (omega (arith, ap (λ (xs : List Node). length xs) c.deref.ensures.0, subtree_few c.loop-child.invariant.subtree)) c.loop-child.invariant.subtree.kept in
    let long = c.in_ok-list.ensures.longer in
    subtree_closed c.loop-child.invariant.subtree all c.build.new.self c.in_ok-list.list are
    (subst (λ xs. BuildsList blank_node c.loop-child.nodes c.build.new.self xs c.in_ok-list.list) c.deref.ensures.0 c.in_ok-list.ensures.built) (omega (arith, long, packed))
    (c.is_bare.ensures.stocked c.if-is_bare.false)

pub returns-clause-fits : goal.returns-clause-fits
returns-clause-fits g t c =
    let small = built_tier blank_node c.loop-child.nodes c.build.new.self c.deref.result.now c.in_ok-list.list node_sizes
    (c.loop-child.invariant.subtree.nodes.keeps.sizes ∙ c.requires.nodes.sizes_are) (omega arith) c.in_ok-list.ensures.built in
    record { value_tier = c.loop-child.invariant.tier; child_tier = omega (arith, small) }
