-- Writing from the path of a prefix and below starts with the entries that the prefix contains.
use Rattle.prefix_trie_map.proofs.Prelude.{subst, listing_below, StartsIn}
use Rattle.prefix_trie_map.proofs.map.PrefixMap.children_mut.Goals as goal

pub returns-clause-starts : goal.returns-clause-starts
returns-clause-starts g c =
    subst (λ q. StartsIn c.args.self (listing_below c.args.self.now.entries q) c.write_from.result.source) c.path.ensures.path c.write_from.ensures.starts
