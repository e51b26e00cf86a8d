-- The first bits of an address are the number of its chunk.
use Rattle.std.proofs.Common.{◌≡◌, ◌-◌, arith, length, subst, take}
use Rattle.prefix_trie_bits.specs.Model.Bits.{number}
use Rattle.prefix_trie_fib.specs.Index.{IsEntryAt}
use Rattle.prefix_trie_fib.proofs.ChunkEntries.{chunk_inside, in_whole}
use Rattle.prefix_trie_fib.proofs.indexed.Indexed.entry_of_chunk.Goals as goal

pub index-requires : goal.index-requires
index-requires g c =
    let w = g.K.Key.bit_width in
    let b = g.K.Key.bits c.args.address in
    let bits = 30 - c.self.inside.rest in
    let long : length b ≡ w = g.met.K.Key.key_laws.bits_length c.args.address c.is_key.ensures.key in
    let at : c.chunk_of.result ≡ number (take bits b) = c.chunk_of.ensures b c.requires (omega (arith, long, c.self.invariant.1.sized.within)) in
    let inside = chunk_inside w c.self.inside.line c.self.inside.index.chunks.items c.self.inside.index.parts.items bits b c.self.invariant.1 long c.chunk_of.result at in
    omega (arith, inside, c.self.inside.index.chunks.ok.0)

pub returns : goal.returns
returns g c = λ whole.
    let w = g.K.Key.bit_width in
    let b = g.K.Key.bits c.args.address in
    let bits = 30 - c.self.inside.rest in
    let long : length b ≡ w = g.met.K.Key.key_laws.bits_length c.args.address c.is_key.ensures.key in
    let at : c.chunk_of.result ≡ number (take bits b) = c.chunk_of.ensures b c.requires (omega (arith, long, c.self.invariant.1.sized.within)) in
    let x = c.index.result.now in
    subst (λ rs. IsEntryAt rs b x) c.self.view_is (in_whole w c.self.inside.line c.self.inside.index.chunks.items c.self.inside.index.parts.items bits b c.self.invariant.1 long c.chunk_of.result at x c.index.ensures whole)
