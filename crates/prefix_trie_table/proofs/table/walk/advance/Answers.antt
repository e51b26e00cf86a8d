-- Each step is at the last spot. It gives the first pair to come, adds the spot of a child, or ends the spot, whose pairs have then all been given.
use Rattle.prefix_trie_table.proofs.Prelude.{◌≡◌, ◌<◌, ◌∙◌, [], ◌∷◌, length, sum_by, take, sym, ap, subst, arith, length-append, Spot, ArePassed, IsStack, pending, weight}
use Rattle.prefix_trie_table.proofs.Walk.Stacks.{passed-below, passed-above, passed-popped, passed-child, cursor-at, stack-popped, stack-put, stack-child_search_path, pending-entry, pending-child_search_path, pending-done}
use Rattle.prefix_trie_table.proofs.Walk.Levels.{left_is, pushed, weight-deeper, weight-popped}
use Rattle.prefix_trie_table.proofs.table.walk.advance.Goals as goal

-- at the same depth
same_depth : (p q : Spot) → q ≡ record p { places = q.places } → q.depth ≡ p.depth
same_depth p q moved = ap (λ (s : Spot). s.depth) moved

pub returns-in-Entry-clause-stack : goal.returns-in-Entry-clause-stack
returns-in-Entry-clause-stack g c =
    let last = c.in-Entry.ensures.last in
    let h = last.6 c.requires.tree.0 c.requires.tree.1 in
    subst (IsStack g.K.Key.bit_width c.args.nodes.now.slots (g.K.Key.bits c.loop-stack.key)) (sym last.4)
    (stack-put _ _ _ last.3 g.K.Key.bit_width c.args.nodes.now.slots (g.K.Key.bits c.loop-stack.key) c.loop-stack.invariant.stack last.2 (same_depth last.1 last.2 h.3) h.2)

pub returns-in-Entry-clause-entry : goal.returns-in-Entry-clause-entry
returns-in-Entry-clause-entry g c =
    λ t tree.
    let last = c.in-Entry.ensures.last in
    let h = (last.6 t tree).0 in
    record {
      value = h.value;
      is_there = h.is_there;
      reads = h.reads;
      gives = record {
        is_key = h.gives.is_key;
        short = h.gives.short;
        first =
            subst (λ ps. pending t.shape.entries (g.K.Key.bits c.args.key.now) c.args.stack.now.items ≡ (take c.in-Entry.len (g.K.Key.bits c.in-Entry.found), h.value) ∷ pending t.shape.entries (g.K.Key.bits c.loop-stack.key) ps)
            (sym last.4)
            (sym (c.loop-stack.invariant.same t tree) ∙ pending-entry _ _ _ last.3 t.shape.entries (g.K.Key.bits c.loop-stack.key) last.2 _ h.gives.first);
        filled = h.gives.filled;
      };
    }

pub returns-in-Entry-clause-passed : goal.returns-in-Entry-clause-passed
returns-in-Entry-clause-passed g c = λ h.
    let last = c.in-Entry.ensures.last in
    passed-above (g.K.Key.bits c.loop-stack.key) _ _ _ last.4 (passed-below (g.K.Key.bits c.loop-stack.key) _ _ _ last.3 (c.loop-stack.invariant.passed h))

pub returns-in-Entry-clause-last : goal.returns-in-Entry-clause-last
returns-in-Entry-clause-last g c =
    let last = c.in-Entry.ensures.last in
    let h = last.6 c.requires.tree.0 c.requires.tree.1 in
    let ends = last.5 in
    let depth = same_depth last.1 last.2 h.3 in
    record {
      below = last.0;
      spot = last.2;
      is = last.4;
      ends = record {
        whole = (let w = ends.whole in omega (arith, w, depth));
        last = (let l = ends.last in omega (arith, l, depth));
        same_above = subst (λ d. take d (take c.in-Entry.len (g.K.Key.bits c.in-Entry.found)) ≡ take d (g.K.Key.bits c.loop-stack.key)) (sym depth) ends.same_above;
      };
    }

pub push-requires : goal.push-requires
push-requires g c =
    let last = c.in-Child.ensures.last in
    let h = last.6 c.requires.tree.0 c.requires.tree.1 in
    let at = (cursor-at _ _ _ last.3 g.K.Key.bit_width c.args.nodes.now.slots (g.K.Key.bits c.loop-stack.key) c.loop-stack.invariant.stack).1 in
    (omega arith, let inside = h.4.within in omega (arith, at, inside, h.5, g.met.K.Key.key_laws.at_most_128, ap length last.4, length-append last.0 (last.2 ∷ [])))

pub loop-stack-smaller-in-Child : goal.loop-stack-smaller-in-Child
loop-stack-smaller-in-Child g c =
    let last = c.in-Child.ensures.last in
    let h = last.6 c.requires.tree.0 c.requires.tree.1 in
    subst (λ ps. sum_by weight ps < sum_by weight c.loop-stack.stack.items) (sym (pushed _ _ _ _ _ last.4 c.push.ensures.items))
    (weight-deeper weight _ _ _ last.3 last.2 c.in-Child.child h.1)

pub loop-stack-preserved-in-Child : goal.loop-stack-preserved-in-Child
loop-stack-preserved-in-Child g c =
    let last = c.in-Child.ensures.last in
    let h = last.6 c.requires.tree.0 c.requires.tree.1 in
    let depth = same_depth last.1 last.2 h.3 in
    let all = pushed _ _ _ _ _ last.4 c.push.ensures.items in
    record {
      stack = subst (IsStack g.K.Key.bit_width c.args.nodes.now.slots (g.K.Key.bits c.in-Child.below)) (sym all)
          (stack-child_search_path g.K.Key.bit_width c.args.nodes.now.slots (g.K.Key.bits c.loop-stack.key) (g.K.Key.bits c.in-Child.below) c.loop-stack.stack.items last.0 last.1 last.2 c.in-Child.child last.3 c.loop-stack.invariant.stack depth h.2 h.5 h.4 h.6);
      same = λ t tree.
          ap (pending t.shape.entries (g.K.Key.bits c.in-Child.below)) all
          ∙ pending-child_search_path g.K.Key.bit_width c.args.nodes.now.slots (g.K.Key.bits c.loop-stack.key) (g.K.Key.bits c.in-Child.below) c.loop-stack.stack.items last.0 last.1 last.2 c.in-Child.child last.3 c.loop-stack.invariant.stack depth h.2 h.5 h.4 h.6 t.shape.entries (last.6 t tree).0
          ∙ c.loop-stack.invariant.same t tree;
      passed = λ o.
          subst (ArePassed (g.K.Key.bits c.in-Child.below)) (sym all)
          (passed-child g.K.Key.bit_width c.args.nodes.now.slots (g.K.Key.bits c.loop-stack.key) (g.K.Key.bits c.in-Child.below) c.loop-stack.stack.items last.0 last.1 last.2 c.in-Child.child
          last.3 c.loop-stack.invariant.stack h.6 last.5 (c.loop-stack.invariant.passed o));
    }

pub loop-stack-smaller : goal.loop-stack-smaller
loop-stack-smaller g c =
    let last = c.in-Done.ensures.last in
    let h = (last.6 c.requires.tree.0 c.requires.tree.1).1 in
    subst (λ ps. sum_by weight ps < sum_by weight c.loop-stack.stack.items) (sym (left_is _ _ _ _ _ _ last.3 last.4 c.pop.ensures.rest)) (omega (arith, h, weight-popped weight _ _ _ last.3))

pub loop-stack-preserved : goal.loop-stack-preserved
loop-stack-preserved g c =
    let last = c.in-Done.ensures.last in
    let left = left_is _ _ _ _ _ _ last.3 last.4 c.pop.ensures.rest in
    record {
      stack =
          subst (IsStack g.K.Key.bit_width c.args.nodes.now.slots (g.K.Key.bits c.loop-stack.key)) (sym left)
          (stack-popped _ _ _ last.3 g.K.Key.bit_width c.args.nodes.now.slots (g.K.Key.bits c.loop-stack.key) c.loop-stack.invariant.stack);
      same = λ t tree.
          ap (pending t.shape.entries (g.K.Key.bits c.loop-stack.key)) left
          ∙ pending-done _ _ _ last.3 t.shape.entries (g.K.Key.bits c.loop-stack.key) (last.6 t tree).0
          ∙ c.loop-stack.invariant.same t tree;
      passed = λ o. subst (ArePassed (g.K.Key.bits c.loop-stack.key)) (sym left) (passed-popped (g.K.Key.bits c.loop-stack.key) _ _ _ last.3 (c.loop-stack.invariant.passed o));
    }
