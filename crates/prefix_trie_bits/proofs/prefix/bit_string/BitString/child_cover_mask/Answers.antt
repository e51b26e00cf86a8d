-- A string of at most four bits begins the same children as its row of `CHILDREN_COVERED`.
use Rattle.prefix_trie_bits.proofs.Prelude.{◌∙◌, ap, arith, begins, take_all}
use Rattle.prefix_trie_bits.proofs.prefix.bit_string.BitString.child_cover_mask.Goals as goal

pub returns : goal.returns
returns g c =
    let same = c.table_place-level.ensures.string ∙ take_all 4 c.args.self.now (omega (arith, c.requires)) in
    λ s l. c.child_cover_entry.ensures s l ∙ ap (λ t. begins t s) same
