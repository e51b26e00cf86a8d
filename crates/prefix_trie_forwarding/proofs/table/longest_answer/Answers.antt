-- The match that the map returns has the length and the hop of the longest match.
use Rattle.std.proofs.Common.{arith}
use Rattle.prefix_trie_forwarding.proofs.Networks.{shown_answer, shown_none, shown_short}
use Rattle.prefix_trie_forwarding.proofs.table.longest_answer.Goals as goal

pub match_answer-requires : goal.match_answer-requires
match_answer-requires g c =
    let short = shown_short g.met.P.Prefix.prefix_laws c.lookup_laws.ensures c.args.map.now.entries (g.P.Prefix.path c.args.prefix.now) c.len.ensures.whole.is_map.keys_within c.in-Some.found c.in-Some.hop.now c.in-Some.ensures in
    omega (arith, short, c.from.ensures, c.prefix_len.ensures, g.met.P.Prefix.prefix_laws.keys.at_most_128)

pub returns-in-Some-clause-answer : goal.returns-in-Some-clause-answer
returns-in-Some-clause-answer g c =
    shown_answer g.met.P.Prefix.prefix_laws c.lookup_laws.ensures c.args.map.now.entries (g.P.Prefix.path c.args.prefix.now) c.len.ensures.whole.is_map.keys_within c.in-Some.found c.in-Some.hop.now c.match_answer.result c.in-Some.ensures
    (let value = c.match_answer.ensures.value in omega (arith, value, c.from.ensures, c.prefix_len.ensures))

pub returns-in-None-clause-answer : goal.returns-in-None-clause-answer
returns-in-None-clause-answer g c =
    shown_none g.met.P.Prefix.prefix_laws c.lookup_laws.ensures c.args.map.now.entries (g.P.Prefix.path c.args.prefix.now) c.len.ensures.whole.is_map.keys_within c.in-None.ensures
