-- There is a seat if the bit is set.
use Rattle.prefix_trie_table.proofs.Prelude.{◌∙◌, ap, sym, cond, Some, None, value_seat}
use Rattle.prefix_trie_table.proofs.Strings.Bits.{has_bit-is}
use Rattle.prefix_trie_table.proofs.table.combined_spot.seat_at.Goals as goal

pub returns-then-has_bit : goal.returns-then-has_bit
returns-then-has_bit c =
    ap Some c.value_seat.ensures
    ∙ sym (ap (λ t. cond t (Some (value_seat c.args.node c.args.bit)) None) (has_bit-is c.args.node.value_bitmap c.args.bit c.requires ∙ sym c.has_bit.ensures ∙ c.if-has_bit.true))

pub returns-else-has_bit : goal.returns-else-has_bit
returns-else-has_bit c =
    sym (ap (λ t. cond t (Some (value_seat c.args.node c.args.bit)) None) (has_bit-is c.args.node.value_bitmap c.args.bit c.requires ∙ sym c.has_bit.ensures ∙ c.if-has_bit.false))
