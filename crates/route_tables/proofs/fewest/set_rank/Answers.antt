-- An insertion of one network is a list of one insertion.
use Rattle.std.proofs.Common.{ap, arith}
use Rattle.std.proofs.lemmas.Result.{err_from_is_err_and}
use Rattle.prefix_trie_bits.specs.Keys.{path_within}
use Rattle.prefix_trie_bits.specs.Model.Step.{Refused}
use Rattle.prefix_trie_map.proofs.Collected.{puts_one}
use Rattle.prefix_trie_table.specs.Steps.{insert_reply}
use Rattle.route_tables.proofs.fewest.set_rank.Goals as goal

pub returns-clause-puts : goal.returns-clause-puts
returns-clause-puts g c =
    let short = path_within g.met.P.Prefix.prefix_laws c.args.network c.requires in
    let width = g.met.P.Prefix.prefix_laws.keys.at_most_128 in
    puts_one g.P.Prefix.path c.args.ranks.now c.insert.new.self c.args.network c.args.rank (insert_reply c.insert.result)
    c.len.ensures.whole (omega (arith, short, width)) c.in_ok-insert.ensures.entries c.in_ok-insert.ensures.nodes c.insert.ensures.step

pub returns-in_err-insert-clause-full : goal.returns-in_err-insert-clause-full
returns-in_err-insert-clause-full g c =
    let p = err_from_is_err_and c.from_residual.result c.from_residual.ensures.1 in
    rw (p.1, p.2) (λ range. c.in_err-insert.ensures.step.index_range (ap Refused range))
