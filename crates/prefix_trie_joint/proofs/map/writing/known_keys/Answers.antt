-- The keys of each family are the paths of their networks, by `listed_laws`.
use Rattle.prefix_trie_joint.proofs.Writing.{keys_joined}
use Rattle.prefix_trie_joint.proofs.map.writing.known_keys.Goals as goal

pub returns : goal.returns
returns g c =
    keys_joined c.args.map.now.ipv4.entries c.args.map.now.ipv6.entries
    (c.listed_laws.ensures.key_is _ c.len.ensures.whole.is_map.keys_within)
    (c.listed_laws-2.ensures.key_is _ c.len-2.ensures.whole.is_map.keys_within)
