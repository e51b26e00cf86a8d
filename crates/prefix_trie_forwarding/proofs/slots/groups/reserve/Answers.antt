-- A group is made only while too few are free.
use Rattle.std.proofs.Common.{◌∙◌, refl, arith, inl, inr}
use Rattle.prefix_trie_forwarding.proofs.slots.groups.reserve.Goals as goal

pub loop-slots-init : goal.loop-slots-init
loop-slots-init g c = record {
  points = λ x. refl;
  set = c.requires.set;
  as_many = refl;
  made = inl refl;
  grown = omega arith;
}

pub loop-slots-preserved : goal.loop-slots-preserved
loop-slots-preserved g c =
    let i = c.loop-slots.invariant in
    let more = c.in_ok-add_group.ensures.more in
    record {
      points = λ x. c.add_group.ensures.points x ∙ i.points x;
      set = c.add_group.ensures.set;
      as_many = omega (arith, c.add_group.ensures.as_many, i.as_many);
      made = inr (omega (arith, c.loop-slots-test.true), omega (arith, c.loop-slots-test.true, more));
      grown = omega (arith, i.grown, more);
    }
