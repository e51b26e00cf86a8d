-- A consumed map gives the walk of each family, IPv4 first.
use Rattle.std.proofs.Common.{arith}
use Rattle.prefix_trie_joint.proofs.Walks.{count_joined, walk_joined}
use Rattle.prefix_trie_joint.proofs.map.into_iter.JointPrefixMapIntoIterator.into_iter.Goals as goal

pub returns : goal.returns
returns g c =
    let ipv4 = c.into_iter.ensures.into_iter_gives in
    let ipv6 = c.into_iter-2.ensures.into_iter_gives in
    record {
      into_iter_gives = (
        walk_joined _ _ _ _ ipv4.0 ipv6.0,
        count_joined _ _ _ _ ipv4.1 ipv6.1,
        omega (arith, c.len.ensures.few),
      );
    }
