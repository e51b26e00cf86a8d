-- The stack has what is selected, in two cases: the search path ends at a missing child, or at the string's own node.
use Rattle.prefix_trie_table.proofs.Prelude.{◌≤◌, ◌∙◌, sym, ap, subst, refl, number, length, take, drop, length-drop, arith, chunks_of, HoldsPlaces, kept}
use Rattle.std.proofs.lemmas.List.{drop-drop}
use Rattle.prefix_trie_table.proofs.Tree.Subtrees.{root_inside, few_at}
use Rattle.prefix_trie_table.proofs.Walk.StartStacks.{all_left, key_reach, built_root, stack_pushed, passed_pushed, rest_missing, next_inside, built_next, rest_ended}
use Rattle.prefix_trie_table.proofs.table.walk_start.start_at.Goals as goal

pub visit-node-requires : goal.visit-node-requires
visit-node-requires g c = root_inside g.K.Key.bit_width c.args.nodes.now c.requires.tree.0 c.requires.tree.1

pub loop-depth-init : goal.loop-depth-init
loop-depth-init g c = record {
  built = built_root g.K.Key.bit_width c.args.nodes.now (g.K.Key.bits c.args.key) c.args.path c.args.from c.visit-node.result c.new-stack.result.items c.visit-node.ensures.node c.new-stack.ensures;
  rest_is = refl;
  left = omega (arith, c.len-len.ensures.len);
}

pub spot_in-requires : goal.spot_in-requires
spot_in-requires g c = record {
  few = few_at g.K.Key.bit_width c.args.nodes.now c.requires.tree.0 c.requires.tree.1 (chunks_of (take c.loop-depth.depth c.args.path)) c.loop-depth.node c.loop-depth.invariant.built.is_there;
}

pub returns-then-not-has_bit : goal.returns-then-not-has_bit
returns-then-not-has_bit g c =
    let within = subst (λ n. n ≤ g.K.Key.bit_width) c.len-len.ensures.len c.len-len.ensures.within in
    let at = c.loop-depth.invariant in
    let s = c.spot_in.ensures in
    let all = c.push.ensures.items in
    record {
      stack = stack_pushed _ _ _ _ _ c.requires.begun within (key_reach _ _ _ (g.met.K.Key.key_laws.bits_length _ c.is_key.ensures.key) within) _ _ _ at.built c.spot_in.result s.node s.depth s.each _ all;
      passed = passed_pushed _ _ _ _ _ c.requires.begun within (key_reach _ _ _ (g.met.K.Key.key_laws.bits_length _ c.is_key.ensures.key) within) _ _ _ at.built c.spot_in.result s.node s.depth s.each _ all;
      rest = rest_missing _ _ _ _ _ c.requires.begun within (key_reach _ _ _ (g.met.K.Key.key_laws.bits_length _ c.is_key.ensures.key) within) _ _ _ at.built c.spot_in.result s.node s.depth s.each _ all (omega (arith, c.loop-depth-test.true, c.len-len.ensures.len)) c.places_after.result.0 c.places_after.result.1 s.places
          c.child_bit-child.result (c.child_bit-child.ensures.value ∙ ap (λ r. number (take 5 r)) at.rest_is) c.places_after.ensures (sym c.has_bit.ensures ∙ c.if-not-has_bit.true);
    }

pub visit-node-requires-in-loop-depth : goal.visit-node-requires-in-loop-depth
visit-node-requires-in-loop-depth g c =
    let within = subst (λ n. n ≤ g.K.Key.bit_width) c.len-len.ensures.len c.len-len.ensures.within in
    let at = c.loop-depth.invariant in
    next_inside _ _ _ _ _ c.requires.begun within (key_reach _ _ _ (g.met.K.Key.key_laws.bits_length _ c.is_key.ensures.key) within) _ _ _ at.built
    (omega (arith, c.loop-depth-test.true, c.len-len.ensures.len)) c.requires.tree.0 c.requires.tree.1 c.child_bit-child.result (c.child_bit-child.ensures.value ∙ ap (λ r. number (take 5 r)) at.rest_is) (sym c.has_bit.ensures ∙ c.if-not-has_bit.false) _ c.child_slot.ensures

pub loop-depth-preserved : goal.loop-depth-preserved
loop-depth-preserved g c =
    let within = subst (λ n. n ≤ g.K.Key.bit_width) c.len-len.ensures.len c.len-len.ensures.within in
    let at = c.loop-depth.invariant in
    let left = at.left in
    record {
      built = built_next _ _ _ _ _ c.requires.begun within (key_reach _ _ _ (g.met.K.Key.key_laws.bits_length _ c.is_key.ensures.key) within) _ _ _ at.built c.spot_in.result c.spot_in.ensures.node c.spot_in.ensures.depth c.spot_in.ensures.each c.push.new.self.items c.push.ensures.items
          (omega (arith, c.loop-depth-test.true, c.len-len.ensures.len)) c.places_after.result.0 c.places_after.result.1 c.spot_in.ensures.places c.child_bit-child.result (c.child_bit-child.ensures.value ∙ ap (λ r. number (take 5 r)) at.rest_is) c.places_after.ensures c.requires.tree.0 c.requires.tree.1 (sym c.has_bit.ensures ∙ c.if-not-has_bit.false) _ c.child_slot.ensures
          c.visit-node-in-loop-depth.result c.visit-node-in-loop-depth.ensures.node;
      rest_is = c.after_five-rest.ensures ∙ ap (drop 5) at.rest_is ∙ drop-drop 5 c.loop-depth.depth c.args.path;
      left = omega (arith, ap length c.after_five-rest.ensures, length-drop 5 c.loop-depth.rest, left, c.loop-depth-test.true);
    }

pub places_kept-requires : goal.places_kept-requires
places_kept-requires g c = let left = c.loop-depth.invariant.left in omega (arith, ap length (all_left c.loop-depth.rest c.first-rest.result c.loop-depth.depth c.len-len.result left c.first-rest.ensures), left, c.loop-depth-test.false)

pub spot_in-requires-2 : goal.spot_in-requires-2
spot_in-requires-2 g c = record {
  few = few_at g.K.Key.bit_width c.args.nodes.now c.requires.tree.0 c.requires.tree.1 (chunks_of (take c.loop-depth.depth c.args.path)) c.loop-depth.node c.loop-depth.invariant.built.is_there;
}

pub returns : goal.returns
returns g c =
    let within = subst (λ n. n ≤ g.K.Key.bit_width) c.len-len.ensures.len c.len-len.ensures.within in
    let at = c.loop-depth.invariant in
    let s = c.spot_in-2.ensures in
    let all = c.push-2.ensures.items in
    record {
      stack = stack_pushed _ _ _ _ _ c.requires.begun within (key_reach _ _ _ (g.met.K.Key.key_laws.bits_length _ c.is_key.ensures.key) within) _ _ _ at.built c.spot_in-2.result s.node s.depth s.each _ all;
      passed = passed_pushed _ _ _ _ _ c.requires.begun within (key_reach _ _ _ (g.met.K.Key.key_laws.bits_length _ c.is_key.ensures.key) within) _ _ _ at.built c.spot_in-2.result s.node s.depth s.each _ all;
      rest = rest_ended _ _ _ _ _ c.requires.begun within (key_reach _ _ _ (g.met.K.Key.key_laws.bits_length _ c.is_key.ensures.key) within) _ _ _ at.built c.spot_in-2.result s.node s.depth s.each _ all (omega (arith, c.loop-depth-test.false, c.len-len.ensures.len))
          c.places_kept.result.0 c.places_kept.result.1 s.places (subst (λ r. HoldsPlaces c.places_kept.result.0 c.places_kept.result.1 (kept c.args.from r)) (all_left c.loop-depth.rest c.first-rest.result c.loop-depth.depth c.len-len.result at.left c.first-rest.ensures ∙ at.rest_is) c.places_kept.ensures);
    }
