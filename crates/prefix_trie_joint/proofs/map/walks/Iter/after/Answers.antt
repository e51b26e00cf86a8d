-- The walk after an IPv4 network has no more items than both maps have entries.
use Rattle.prefix_trie_joint.proofs.Walks.{few_from_ipv4}
use Rattle.prefix_trie_joint.proofs.map.walks.Iter.after.Goals as goal

pub returns-in-V4-clause-fits : goal.returns-in-V4-clause-fits
returns-in-V4-clause-fits g c = few_from_ipv4 _ _ _ c.args.inclusive _ _ c.iter_from.ensures.items c.iter.ensures.items c.known_few.ensures
