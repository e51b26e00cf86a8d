-- The values of the walk are the second parts of the items of `iter`, so there are as many.
use Rattle.std.proofs.Common.{refl}
use Rattle.prefix_trie_map.proofs.Runs.{parts_are, parts_count}
use Rattle.prefix_trie_joint.proofs.map.JointPrefixMap.values.Goals as goal

pub returns-clause-items : goal.returns-clause-items
returns-clause-items g c = parts_are (λ e. e.1) refl _ _ c.iter.ensures.items

pub returns-clause-counted : goal.returns-clause-counted
returns-clause-counted g c = parts_count (λ e. e.1) _ refl c.iter.ensures.counted
