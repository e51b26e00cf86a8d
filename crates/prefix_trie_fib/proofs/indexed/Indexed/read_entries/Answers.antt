-- One more address has the entry of its chunk.
use Rattle.std.proofs.Common.{◌∙◌, ◌<◌, arith, get_or, length, subst}
use Rattle.prefix_trie_fib.specs.Index.{IsEntryAt, IsWhole}
use Rattle.prefix_trie_fib.proofs.Groups.{each_set}
use Rattle.prefix_trie_fib.proofs.RangeValues.{get_or-any}
use Rattle.prefix_trie_fib.proofs.indexed.Indexed.read_entries.Goals as goal

pub loop-i-preserved : goal.loop-i-preserved
loop-i-preserved g c = λ k a d lt.
    let b = g.K.Key.bits in
    let rs = c.args.self.now in
    let all = c.args.addresses.now in
    let i = c.loop-i.i in
    let x = c.entry_of_chunk.result in
    let inside : i < length c.loop-i.entries = omega (arith, c.loop-i-test.true, c.requires.space, c.loop-i.auto.entries) in
    each_set (λ j y. (e : _) → IsWhole y → IsEntryAt rs (b (get_or all j e)) y) c.loop-i.entries i x inside
    (λ e whole. subst (λ q. IsEntryAt rs (b q) x) (c.index-addresses-i.is ∙ get_or-any all i c.index-addresses-i.result e c.loop-i-test.true) (c.entry_of_chunk.ensures whole))
    (λ j y older e. c.loop-i.invariant j e y older) k d lt a

pub returns-clause-read : goal.returns-clause-read
returns-clause-read g c = λ k a d lt whole. c.loop-i.invariant k a d (omega (arith, lt, c.loop-i-test.false)) whole
