-- The string of a value bit: its length and bits are read from the bit's number plus one.
use Rattle.prefix_trie_bits.proofs.Prelude.{◌+◌, ◌-◌, arith, leading_zeros, w32}
use Rattle.prefix_trie_bits.proofs.Strings.{top_length, length-short, rest-sub, rest-fits, string-bit, string-only}
use Rattle.prefix_trie_bits.proofs.node.bits.string_of.Goals as goal

pub overflow_sub-result : goal.overflow_sub-result
overflow_sub-result c =
    let t = top_length (c.args.bit + 1) (omega arith) (omega arith) in
    rest-sub c.args.bit (31 - leading_zeros w32 (c.args.bit + 1)) c.requires t.0 t.1

pub returns-clause-short : goal.returns-clause-short
returns-clause-short c =
    let t = top_length (c.args.bit + 1) (omega arith) (omega arith) in
    length-short c.args.bit (31 - leading_zeros w32 (c.args.bit + 1)) c.requires t.0 t.1

pub returns-clause-fits : goal.returns-clause-fits
returns-clause-fits c =
    let t = top_length (c.args.bit + 1) (omega arith) (omega arith) in
    rest-fits c.args.bit (31 - leading_zeros w32 (c.args.bit + 1)) c.requires t.0 t.1

pub returns-clause-bit : goal.returns-clause-bit
returns-clause-bit c =
    let t = top_length (c.args.bit + 1) (omega arith) (omega arith) in
    string-bit c.args.bit (31 - leading_zeros w32 (c.args.bit + 1)) c.requires t.0 t.1

pub returns-clause-only : goal.returns-clause-only
returns-clause-only c =
    let t = top_length (c.args.bit + 1) (omega arith) (omega arith) in
    string-only c.args.bit (31 - leading_zeros w32 (c.args.bit + 1)) c.requires t.0 t.1
