-- The ranges that are counted are those of the chunk.
use Rattle.std.proofs.Common.{◌+◌, ◌-◌, ◌*◌, ◌^◌}
use Rattle.prefix_trie_bits.specs.Model.Bits.{number}
use Rattle.prefix_trie_fib.specs.Search.{StartsBy}
use Rattle.prefix_trie_fib.proofs.Entries.{some_too, starts_later}
use Rattle.prefix_trie_fib.proofs.index.chunk_at.Goals as goal

pub count_until-requires-clause-starts : goal.count_until-requires-clause-starts
count_until-requires-clause-starts g c = some_too c.args.next _ (λ k. StartsBy c.args.line.now c.args.first (number (g.K.Key.bits k)))
    (λ k up. starts_later c.args.line.now c.args.first (number (g.K.Key.bits c.args.low)) (number (g.K.Key.bits k)) up c.requires.starts) c.requires.up

pub returns : goal.returns
returns g c = λ q low up. c.chunk_with.ensures.right q low (c.count_until.ensures.above ((q + 1) * 2 ^ (g.K.Key.bit_width - c.args.depth)) up)
