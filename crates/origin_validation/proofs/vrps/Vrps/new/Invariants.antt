-- The loop of `new`: the VRPs before the index are found, and each made few slots.
use Rattle.prefix_trie_joint.specs.Changes.{maps_of}
use Rattle.prefix_trie_joint.specs.Collected.{AreAfter}
use Rattle.prefix_trie_joint.specs.Joined.{entries_of}
use Rattle.origin_validation.specs.Chains.{AreIndexed}
use Rattle.origin_validation.proofs.vrps.Vrps.new.Given as goal

abbrev pub invariant-loop-index : goal.invariant-loop-index
invariant-loop-index g l = record {
  indexed : AreIndexed l.index l.vrps.items l.older.items (entries_of l.latest);
  after : AreAfter l.index (maps_of l.latest);
}
