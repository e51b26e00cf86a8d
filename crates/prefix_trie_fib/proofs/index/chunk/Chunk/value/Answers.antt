-- The range that the entry gives, or that the search finds, has the value of the address.
use Rattle.std.proofs.Common.{◌∙◌, sym, None, subst}
use Rattle.prefix_trie_bits.specs.Model.Bits.{number}
use Rattle.prefix_trie_fib.specs.Index.{IsEntryAt}
use Rattle.prefix_trie_fib.proofs.Entries.{among_bounds}
use Rattle.prefix_trie_fib.proofs.RangeValues.{value_of_range}
use Rattle.prefix_trie_fib.proofs.index.chunk.Chunk.value.Goals as goal

pub range_among-requires-clause-among : goal.range_among-requires-clause-among
range_among-requires-clause-among g c = (subst (IsEntryAt c.args.line.now (g.K.Key.bits c.args.address)) c.in-Full.is c.requires.right).1

pub kept-requires-clause-valued : goal.kept-requires-clause-valued
kept-requires-clause-valued g c = λ d.
    let full = subst (IsEntryAt c.args.line.now (g.K.Key.bits c.args.address)) c.in-Full.is c.requires.right in
    let bounds = among_bounds c.args.line.now c.requires.division d c.in-Full.first c.in-Full.count (number (g.K.Key.bits c.args.address)) c.range_among.result full.1 c.range_among.ensures in
    full.0 c.range_among.result d bounds.0 bounds.1

pub returns-in-Full : goal.returns-in-Full
returns-in-Full g c =
    c.kept.ensures (0, None) ∙ sym (value_of_range c.args.line.now c.requires.division None c.range_among.result (number (g.K.Key.bits c.args.address)) (0, None) c.range_among.ensures)

pub returns-in-Bitmap : goal.returns-in-Bitmap
returns-in-Bitmap g c =
    c.value.ensures (0, None) ∙ sym (value_of_range c.args.line.now c.requires.division None c.range.result (number (g.K.Key.bits c.args.address)) (0, None) c.range.ensures)
