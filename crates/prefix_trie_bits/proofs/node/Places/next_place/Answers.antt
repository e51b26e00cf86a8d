-- The lowest set bit is the first place in listing order, and clearing it removes that place only.
use Rattle.prefix_trie_bits.proofs.Prelude.{ap, ◌∙◌, strings, pick}
use Rattle.prefix_trie_bits.proofs.Picks.{pick-none}
use Rattle.prefix_trie_bits.proofs.Listing.{first_below, takes_first}
use Rattle.prefix_trie_bits.proofs.PlaceOrder.{walk_sorted}
use Rattle.prefix_trie_bits.proofs.node.Places.next_place.Goals as goal

pub returns-then-self-eq0-clause-place : goal.returns-then-self-eq0-clause-place
returns-then-self-eq0-clause-place c =
    let e = ap (λ m. pick m (strings 5)) c.if-self-eq0.true ∙ pick-none (strings 5) in (e, e)

pub returns-then-self-eq0-clause-sorted : goal.returns-then-self-eq0-clause-sorted
returns-then-self-eq0-clause-sorted c = walk_sorted c.args.self.now.listing

pub place_at-requires : goal.place_at-requires
place_at-requires c = first_below c.args.self.now.listing c.if-self-eq0.false c.args.self.now.within

pub returns-clause-place : goal.returns-clause-place
returns-clause-place c =
    takes_first c.args.self.now.listing c.if-self-eq0.false c.args.self.now.within c.place_at.result c.place_at.ensures

pub returns-clause-sorted : goal.returns-clause-sorted
returns-clause-sorted c = walk_sorted c.args.self.now.listing
