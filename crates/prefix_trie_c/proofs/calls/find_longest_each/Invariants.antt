-- The invariant of the loop: the entries so far are the matches of their addresses.
use Rattle.std.proofs.Common.{◌≡◌, map, take}
use Rattle.prefix_trie_c.specs.Entries.{match_of}
use Rattle.prefix_trie_c.proofs.calls.find_longest_each.Given as goal

abbrev pub invariant-loop-i : goal.invariant-loop-i
invariant-loop-i g l = take l.i l.entries ≡ map (λ a. g.E.Entry.made (match_of g.P.Prefix.back l.routes.entries (g.P.Prefix.path (g.A.Address.host_of a)))) (take l.i l.addresses)
