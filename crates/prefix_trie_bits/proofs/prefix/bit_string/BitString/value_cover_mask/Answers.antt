-- A string of at most four bits begins the same values as its row of `VALUES_COVERED`.
use Rattle.prefix_trie_bits.proofs.Prelude.{◌∙◌, ap, arith, begins, take_all}
use Rattle.prefix_trie_bits.proofs.prefix.bit_string.BitString.value_cover_mask.Goals as goal

pub returns : goal.returns
returns g c =
    let same = c.table_place-level.ensures.string ∙ take_all 4 c.args.self.now (omega (arith, c.requires)) in
    record { bits = λ s l. c.value_cover_entry.ensures.bits s l ∙ ap (λ t. begins t s) same; small = c.value_cover_entry.ensures.small }
