-- The first bits of an address are the number of its chunk, and the bits after them that of its part.
use Rattle.std.proofs.Common.{◌≡◌, ◌-◌, arith, length, subst, take}
use Rattle.std.specs.Option.{MatchOption}
use Rattle.prefix_trie_bits.specs.Model.Bits.{number}
use Rattle.prefix_trie_fib.specs.declared.index.chunk.Chunk.TheVariants.{Split}
use Rattle.prefix_trie_fib.specs.Index.{IsEntryAt, IsWhole}
use Rattle.prefix_trie_fib.proofs.ChunkEntries.{chunk_inside, in_part, in_whole, parts_of}
use Rattle.prefix_trie_fib.proofs.indexed.Indexed.chunk.Goals as goal

pub index-entry-requires : goal.index-entry-requires
index-entry-requires g c =
    let w = g.K.Key.bit_width in
    let b = g.K.Key.bits c.args.address in
    let bits = 30 - c.self.inside.rest in
    let long : length b ≡ w = g.met.K.Key.key_laws.bits_length c.args.address c.is_key.ensures.key in
    let at : c.chunk_of.result ≡ number (take bits b) = c.chunk_of.ensures b c.requires (omega (arith, long, c.self.invariant.1.sized.within)) in
    let inside = chunk_inside w c.self.inside.line c.self.inside.index.chunks.items c.self.inside.index.parts.items bits b c.self.invariant.1 long c.chunk_of.result at in
    omega (arith, inside, c.self.inside.index.chunks.ok.0)

pub part_of-requires-clause-some : goal.part_of-requires-clause-some
part_of-requires-clause-some g c =
    let w = g.K.Key.bit_width in
    let b = g.K.Key.bits c.args.address in
    let bits = 30 - c.self.inside.rest in
    let long : length b ≡ w = g.met.K.Key.key_laws.bits_length c.args.address c.is_key.ensures.key in
    let at : c.chunk_of.result ≡ number (take bits b) = c.chunk_of.ensures b c.requires (omega (arith, long, c.self.invariant.1.sized.within)) in
    let x = c.index-entry.result.now in
    let more = c.in-Some.more in
    let base = c.in-Some.base in
    let split : x ≡ Split more base = subst (λ o. MatchOption o (IsWhole x) (λ parts. x ≡ Split parts.0 parts.1)) c.in-Some.is c.parts.ensures in
    (parts_of w c.self.inside.line c.self.inside.index.chunks.items c.self.inside.index.parts.items bits b c.self.invariant.1 long c.chunk_of.result at x c.index-entry.ensures more base split).some

pub part_of-requires-clause-within : goal.part_of-requires-clause-within
part_of-requires-clause-within g c =
    let w = g.K.Key.bit_width in
    let b = g.K.Key.bits c.args.address in
    let bits = 30 - c.self.inside.rest in
    let long : length b ≡ w = g.met.K.Key.key_laws.bits_length c.args.address c.is_key.ensures.key in
    let at : c.chunk_of.result ≡ number (take bits b) = c.chunk_of.ensures b c.requires (omega (arith, long, c.self.invariant.1.sized.within)) in
    let x = c.index-entry.result.now in
    let more = c.in-Some.more in
    let base = c.in-Some.base in
    let split : x ≡ Split more base = subst (λ o. MatchOption o (IsWhole x) (λ parts. x ≡ Split parts.0 parts.1)) c.in-Some.is c.parts.ensures in
    let is_split = parts_of w c.self.inside.line c.self.inside.index.chunks.items c.self.inside.index.parts.items bits b c.self.invariant.1 long c.chunk_of.result at x c.index-entry.ensures more base split in
    omega (arith, is_split.few, c.self.invariant.0)

pub overflow_add-base : goal.overflow_add-base
overflow_add-base g c =
    let w = g.K.Key.bit_width in
    let b = g.K.Key.bits c.args.address in
    let bits = 30 - c.self.inside.rest in
    let long : length b ≡ w = g.met.K.Key.key_laws.bits_length c.args.address c.is_key.ensures.key in
    let at : c.chunk_of.result ≡ number (take bits b) = c.chunk_of.ensures b c.requires (omega (arith, long, c.self.invariant.1.sized.within)) in
    let x = c.index-entry.result.now in
    let more = c.in-Some.more in
    let base = c.in-Some.base in
    let split : x ≡ Split more base = subst (λ o. MatchOption o (IsWhole x) (λ parts. x ≡ Split parts.0 parts.1)) c.in-Some.is c.parts.ensures in
    let is_split = parts_of w c.self.inside.line c.self.inside.index.chunks.items c.self.inside.index.parts.items bits b c.self.invariant.1 long c.chunk_of.result at x c.index-entry.ensures more base split in
    let inside = is_split.has_parts.inside in
    omega (arith, inside, c.part_of.ensures.small, c.self.inside.index.parts.ok.0)

pub index-requires : goal.index-requires
index-requires g c =
    let w = g.K.Key.bit_width in
    let b = g.K.Key.bits c.args.address in
    let bits = 30 - c.self.inside.rest in
    let long : length b ≡ w = g.met.K.Key.key_laws.bits_length c.args.address c.is_key.ensures.key in
    let at : c.chunk_of.result ≡ number (take bits b) = c.chunk_of.ensures b c.requires (omega (arith, long, c.self.invariant.1.sized.within)) in
    let x = c.index-entry.result.now in
    let more = c.in-Some.more in
    let base = c.in-Some.base in
    let split : x ≡ Split more base = subst (λ o. MatchOption o (IsWhole x) (λ parts. x ≡ Split parts.0 parts.1)) c.in-Some.is c.parts.ensures in
    let is_split = parts_of w c.self.inside.line c.self.inside.index.chunks.items c.self.inside.index.parts.items bits b c.self.invariant.1 long c.chunk_of.result at x c.index-entry.ensures more base split in
    let inside = is_split.has_parts.inside in
    omega (arith, inside, c.part_of.ensures.small, c.self.inside.index.parts.ok.0)

pub returns-in-Some : goal.returns-in-Some
returns-in-Some g c =
    let w = g.K.Key.bit_width in
    let b = g.K.Key.bits c.args.address in
    let bits = 30 - c.self.inside.rest in
    let long : length b ≡ w = g.met.K.Key.key_laws.bits_length c.args.address c.is_key.ensures.key in
    let at : c.chunk_of.result ≡ number (take bits b) = c.chunk_of.ensures b c.requires (omega (arith, long, c.self.invariant.1.sized.within)) in
    let x = c.index-entry.result.now in
    let more = c.in-Some.more in
    let base = c.in-Some.base in
    let split : x ≡ Split more base = subst (λ o. MatchOption o (IsWhole x) (λ parts. x ≡ Split parts.0 parts.1)) c.in-Some.is c.parts.ensures in
    let is_split = parts_of w c.self.inside.line c.self.inside.index.chunks.items c.self.inside.index.parts.items bits b c.self.invariant.1 long c.chunk_of.result at x c.index-entry.ensures more base split in
    subst (λ rs. IsEntryAt rs b c.index.result.now) c.self.view_is
    (in_part w c.self.inside.line c.self.inside.index.chunks.items c.self.inside.index.parts.items bits b c.self.invariant.1 long c.chunk_of.result at x c.index-entry.ensures more base split
    c.part_of.result c.index.result.now c.part_of.ensures.small (c.part_of.ensures.part b c.requires (let fits = is_split.within in omega (arith, fits, long))) c.index.ensures)

pub returns-in-None : goal.returns-in-None
returns-in-None g c =
    let w = g.K.Key.bit_width in
    let b = g.K.Key.bits c.args.address in
    let bits = 30 - c.self.inside.rest in
    let long : length b ≡ w = g.met.K.Key.key_laws.bits_length c.args.address c.is_key.ensures.key in
    let at : c.chunk_of.result ≡ number (take bits b) = c.chunk_of.ensures b c.requires (omega (arith, long, c.self.invariant.1.sized.within)) in
    let x = c.index-entry.result.now in
    let whole : IsWhole x = subst (λ o. MatchOption o (IsWhole x) (λ parts. x ≡ Split parts.0 parts.1)) c.in-None.is c.parts.ensures in
    subst (λ rs. IsEntryAt rs b x) c.self.view_is (in_whole w c.self.inside.line c.self.inside.index.chunks.items c.self.inside.index.parts.items bits b c.self.invariant.1 long c.chunk_of.result at x c.index-entry.ensures whole)
