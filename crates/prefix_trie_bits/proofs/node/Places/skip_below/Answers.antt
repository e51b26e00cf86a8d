-- The mask that `not_below` returns keeps exactly the places that the bit's string does not begin.
use Rattle.prefix_trie_bits.proofs.Prelude.{ap, ◌&&◌, ◌∙◌, [], not, begins, has, strings}
use Rattle.prefix_trie_bits.proofs.Bitmaps.{has-and}
use Rattle.prefix_trie_bits.proofs.Picks.{pick-both}
use Rattle.prefix_trie_bits.proofs.node.Places.skip_below.Goals as goal

pub returns : goal.returns
returns c = λ t short is.
    pick-both (strings 5) (λ s. not (begins t s)) _ c.args.self.now.listing [] (λ i l.
    has-and c.args.self.now.listing c.not_below.result i
    ∙ ap (λ b. has c.args.self.now.listing i && b) (c.not_below.ensures t short is i l))
