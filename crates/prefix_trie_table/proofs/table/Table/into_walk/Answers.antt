-- A walk that takes the table apart from the empty string gives the whole listing.
use Rattle.prefix_trie_table.proofs.Prelude.{◌∙◌, ap, listing_below, listing_of_root}
use Rattle.prefix_trie_table.proofs.table.Table.into_walk.Goals as goal

pub returns : goal.returns
returns g c = c.into_walk_below.ensures ∙ ap (listing_below c.args.self.entries) c.new.ensures ∙ listing_of_root c.args.self.entries
