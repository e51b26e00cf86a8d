-- The invariant of the loop: the results so far are the hops of the longest matches.
use Rattle.std.proofs.Common.{◌≡◌, map, take}
use Rattle.prefix_trie_bits.specs.Model.Matches.{longest_match}
use Rattle.prefix_trie_forwarding.specs.Forwarding.{hop_of}
use Rattle.prefix_trie_forwarding.proofs.table.ForwardingTable.lookup_bulk.Given as goal

abbrev pub invariant-loop-i : goal.invariant-loop-i
invariant-loop-i g l = take l.i l.out ≡ map (λ a. hop_of (longest_match l.self.map.entries (g.P.R.Key.bits a))) (take l.i l.addresses)
