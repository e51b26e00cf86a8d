-- Calling the test with the entries of one family and then of the other calls it with all, in listing order.
use Rattle.prefix_trie.specs.Sets.{CalledAtKey, TakesKey}
use Rattle.prefix_trie_joint.specs.Networks.{ip_back}
use Rattle.prefix_trie_joint.proofs.Retain.{callable_ipv4, callable_ipv6, retains_joined}
use Rattle.prefix_trie_joint.proofs.set.JointPrefixSet.retain_by_ref.Goals as goal

pub retain_family-requires : goal.retain_family-requires
retain_family-requires g c = callable_ipv4 (CalledAtKey g.F.FnMut ip_back) (TakesKey g.F.FnMut ip_back) _ c.args.self.now.ipv4.entries c.args.self.now.ipv6.entries c.requires

pub retain_family-requires-2 : goal.retain_family-requires-2
retain_family-requires-2 g c = callable_ipv6 (CalledAtKey g.F.FnMut ip_back) (TakesKey g.F.FnMut ip_back) _ _ c.args.self.now.ipv4.entries c.args.self.now.ipv6.entries _ c.requires c.retain_family.ensures.kept

pub returns-clause-kept : goal.returns-clause-kept
returns-clause-kept g c = retains_joined (CalledAtKey g.F.FnMut ip_back) _ _ _ c.args.self.now.ipv4.entries c.args.self.now.ipv6.entries _ _ c.retain_family.ensures.kept c.retain_family-2.ensures.kept
