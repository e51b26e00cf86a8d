-- Each address of the chunk is among its ranges. One that is alone has the value of each.
use Rattle.std.proofs.Common.{◌∙◌, sym, None, arith}
use Rattle.prefix_trie_bits.specs.Model.Bits.{number}
use Rattle.prefix_trie_fib.proofs.ChunkEntries.{alone_value, is_among, starts_by}
use Rattle.prefix_trie_fib.proofs.index.chunk_with.Goals as goal

pub returns-in-Some-clause-right : goal.returns-in-Some-clause-right
returns-in-Some-clause-right g c = λ q low ends b long in_it.
    alone_value g.K.Key.bit_width c.args.depth q (number (g.K.Key.bits c.args.low)) c.args.line.now c.requires.division c.args.first c.args.count b (0, None) c.requires.starts low ends c.if-alone.true long in_it
    ∙ sym (c.value.ensures (0, None)) ∙ c.in-Some.is

pub returns-in-None-clause-right : goal.returns-in-None-clause-right
returns-in-None-clause-right g c = λ q low ends b long in_it.
    alone_value g.K.Key.bit_width c.args.depth q (number (g.K.Key.bits c.args.low)) c.args.line.now c.requires.division c.args.first c.args.count b (0, None) c.requires.starts low ends c.if-alone.true long in_it
    ∙ sym (c.value.ensures (0, None)) ∙ c.in-None.is

pub returns-then-count-clause-right : goal.returns-then-count-clause-right
returns-then-count-clause-right g c = λ q low ends b long in_it.
    starts_by g.K.Key.bit_width c.args.depth q (number (g.K.Key.bits c.args.low)) c.args.line.now c.args.first c.args.count b c.requires.starts low ends long in_it

pub returns-then-are_valued-clause-right : goal.returns-then-are_valued-clause-right
returns-then-are_valued-clause-right g c = λ q low ends b long in_it. (
  c.are_valued.ensures c.if-are_valued.true,
  is_among g.K.Key.bit_width c.args.depth q (number (g.K.Key.bits c.args.low)) c.args.line.now c.args.first c.args.count b c.requires.starts low ends long in_it (omega (arith, c.if-alone.false)) c.requires.within,
)

pub returns-else-are_valued-clause-right : goal.returns-else-are_valued-clause-right
returns-else-are_valued-clause-right g c = λ q low ends b long in_it.
    is_among g.K.Key.bit_width c.args.depth q (number (g.K.Key.bits c.args.low)) c.args.line.now c.args.first c.args.count b c.requires.starts low ends long in_it (omega (arith, c.if-alone.false)) c.requires.within
