-- The closure changes the stored value and nothing else of the map.
use Rattle.std.proofs.Common.{rules}
use Rattle.prefix_trie_joint.proofs.Filled.{modified}
use Rattle.prefix_trie_joint.proofs.map.entry.filling.modify.Goals as goal

pub returns-in-Some : goal.returns-in-Some
returns-in-Some g c =
    modified g.F.FnOnce c.args.f c.args.map.now c.args.key.now c.f.new.arg2 c.in-Some.value c.in-Some.ensures.value (search rules)
