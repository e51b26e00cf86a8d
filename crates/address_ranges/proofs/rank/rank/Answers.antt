-- The keys rise, so a binary search finds the place.
use Rattle.std.proofs.Common.{leb, rules}
use Rattle.std.proofs.lemmas.List.Sorted.{IsPartitionPoint-from_clause, IsPartitionedBy-leb}
use Rattle.prefix_trie_bits.specs.Model.Bits.{number}
use Rattle.address_ranges.proofs.Keys.{not_falling, rank_from}
use Rattle.address_ranges.proofs.rank.rank.Goals as goal

pub returns : goal.returns
returns g c =
    let bits = g.K.Key.bits in
    let keys = c.args.breaks.now in
    let n = number (bits c.args.address) in
    rank_from bits keys n c.partition_point.result c.args.address c.partition_point.ensures.bound
    (IsPartitionPoint-from_clause (λ k. leb (number (bits k)) n) keys c.partition_point.result c.partition_point.ensures.partitioned
    (IsPartitionedBy-leb (λ k. number (bits k)) keys n (not_falling bits keys c.requires)) (λ a r f q. search rules))
