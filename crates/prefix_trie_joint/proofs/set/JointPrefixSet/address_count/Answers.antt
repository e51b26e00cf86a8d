-- The number that each family returns is the number of its addresses.
use Rattle.std.proofs.Common.{sym, ◌∙◌}
use Rattle.prefix_trie_joint.proofs.set.JointPrefixSet.address_count.Goals as goal

pub returns-clause-ipv4 : goal.returns-clause-ipv4
returns-clause-ipv4 g c = sym (c.network_laws.ensures.ipv4_count c.address_count.result c.address_count.ensures.key) ∙ c.address_count.ensures.count

pub returns-clause-ipv6 : goal.returns-clause-ipv6
returns-clause-ipv6 g c = sym (c.network_laws.ensures.ipv6_count c.address_count-2.result c.address_count-2.ensures.key) ∙ c.address_count-2.ensures.count
