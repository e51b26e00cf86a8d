-- The values that a consumed map gives are the second parts of its items, so there are as many.
use Rattle.std.proofs.Common.{refl}
use Rattle.prefix_trie_map.proofs.Runs.{parts_are, parts_count}
use Rattle.prefix_trie_joint.proofs.map.JointPrefixMap.into_values.Goals as goal

pub returns : goal.returns
returns g c =
    let given = c.into_iter.ensures.into_iter_gives in
    record {
      items = parts_are (λ e. e.1) refl _ _ given.0;
      counted = parts_count (λ e. e.1) _ refl given.1;
      fits = given.2;
    }
