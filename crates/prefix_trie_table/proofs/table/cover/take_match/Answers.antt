-- The lowest of a node's match bits is its shortest match, and clearing it leaves the longer ones.
use Rattle.prefix_trie_table.proofs.Prelude.{◌≡◌, ◌^◌, ◌<◌, ℕ, arith, bit_at, trailing_zeros, bit_at-trailing_zeros, has-from}
use Rattle.std.specs.Int.{w32}
use Rattle.prefix_trie_table.proofs.Lookup.NodeCovers.{takes_none, takes_some, match-small}
use Rattle.prefix_trie_table.proofs.table.cover.take_match.Goals as goal

lowest : (m : ℕ) → m < 2 ^ 31 → (m ≡ 0 → ⊥) → (trailing_zeros w32 m < 32) × (bit_at m (trailing_zeros w32 m) ≡ 1) × ((i : ℕ) → i < trailing_zeros w32 m → bit_at m i ≡ 0)
lowest m small some = bit_at-trailing_zeros w32 m (omega arith) (omega arith)

pub returns-then-matches-eq0 : goal.returns-then-matches-eq0
returns-then-matches-eq0 c = λ q first deep low high left.
    takes_none c.args.here.level c.args.here.node c.args.matches.now first q deep low high left c.if-matches-eq0.true

pub without_bit-requires-clause-set : goal.without_bit-requires-clause-set
without_bit-requires-clause-set c = has-from _ _ 1 (lowest c.args.matches.now c.requires.small c.if-matches-eq0.false).1

pub string_of-requires : goal.string_of-requires
string_of-requires c = match-small c.args.matches.now _ c.requires.small (lowest c.args.matches.now c.requires.small c.if-matches-eq0.false).1

pub returns : goal.returns
returns c = λ q first deep low high left.
    let t = lowest c.args.matches.now c.requires.small c.if-matches-eq0.false in
    takes_some c.args.here.level c.args.here.node c.args.matches.now first q deep low high left c.without_bit.result _ c.string_of.result.0 c.string_of.result.1 c.string_of.ensures.short c.string_of.ensures.bit (has-from _ _ 1 t.1) t.2 c.without_bit.ensures.clears (c.without_bit.ensures.small c.requires.small)
