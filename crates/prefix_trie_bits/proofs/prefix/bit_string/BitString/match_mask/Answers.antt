-- A value's string has at most four bits, so the four bits of the key in the table's row decide whether it matches.
use Rattle.prefix_trie_bits.proofs.Prelude.{◌∙◌, ap, begins}
use Rattle.prefix_trie_bits.proofs.Strings.{begins-four}
use Rattle.prefix_trie_bits.proofs.prefix.bit_string.BitString.match_mask.Goals as goal

pub returns : goal.returns
returns g c = record {
  bits = λ s l. c.match_entry.ensures.bits s l ∙ ap (λ t. begins s t) c.table_place-level.ensures.string ∙ begins-four s c.args.self.now l;
  small = c.match_entry.ensures.small;
}
