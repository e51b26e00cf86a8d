-- A consumed set gives the walk of each family, IPv4 first.
use Rattle.std.proofs.Common.{◌∙◌, arith, ap, length}
use Rattle.prefix_trie_joint.proofs.Walks.{count_networks, networks_joined}
use Rattle.prefix_trie_joint.proofs.set.walks.JointPrefixSetIntoIterator.into_iter.Goals as goal

pub returns : goal.returns
returns g c =
    let ipv4 = c.into_iter.ensures.into_iter_gives in
    let ipv6 = c.into_iter-2.ensures.into_iter_gives in
    record {
      into_iter_gives = (
        c.new.ensures ∙ networks_joined _ _ _ _ ipv4.0 ipv6.0,
        ap length c.new.ensures ∙ count_networks _ _ _ _ ipv4.1 ipv6.1,
        omega (arith, c.len.ensures.few),
      );
    }
