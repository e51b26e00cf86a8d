-- The invariant of `fill`: the map has the items that the iterator gave so far, made few slots for each, and is tidy.
use Rattle.std.proofs.Common.{◌≡◌, length}
use Rattle.prefix_trie.specs.Terms.{put_all}
use Rattle.prefix_trie_joint.specs.Changes.{maps_of}
use Rattle.prefix_trie_joint.specs.Collected.{AreAfter}
use Rattle.prefix_trie_joint.specs.Joined.{entries_of}
use Rattle.prefix_trie_joint.specs.Networks.{ip_path}
use Rattle.prefix_trie_joint.proofs.map.collecting.fill.Given as goal

abbrev pub invariant-loop-prefix : goal.invariant-loop-prefix
invariant-loop-prefix g l = (entries_of l.map ≡ put_all ip_path l.yielded (entries_of l.fn.map)) × AreAfter (length l.yielded) (maps_of l.map)
