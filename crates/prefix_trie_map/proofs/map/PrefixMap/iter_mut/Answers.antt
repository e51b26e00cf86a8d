-- Writing from the empty string and below starts with the whole listing.
use Rattle.prefix_trie_map.proofs.Prelude.{subst, ap, ◌∙◌, listing_below, listing_of_root, StartsIn}
use Rattle.prefix_trie_map.proofs.map.PrefixMap.iter_mut.Goals as goal

pub returns-clause-starts : goal.returns-clause-starts
returns-clause-starts g c =
    subst (λ es. StartsIn c.args.self es c.write_from.result.source) (ap (listing_below c.args.self.now.entries) c.new.ensures ∙ listing_of_root c.args.self.now.entries) c.write_from.ensures.starts
