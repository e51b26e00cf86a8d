-- Inserting one item is a list of one insertion, or a refusal that leaves the map unchanged.
use Rattle.prefix_trie_map.proofs.Prelude.{ap, arith, err_from_is_err_and, path_within, insert_reply}
use Rattle.prefix_trie_bits.specs.Model.Step.{Refused}
use Rattle.prefix_trie_map.proofs.Collected.{puts_one, refused_one}
use Rattle.prefix_trie_map.proofs.map.collecting.put.Goals as goal

pub returns-clause-ok : goal.returns-clause-ok
returns-clause-ok g c =
    let short = path_within g.met.P.Prefix.prefix_laws c.args.prefix c.requires in
    let width = g.met.P.Prefix.prefix_laws.keys.at_most_128 in
    puts_one g.P.Prefix.path c.args.map.now c.insert.new.self c.args.prefix c.args.value (insert_reply c.insert.result)
    c.known_valid.ensures.whole (omega (arith, short, width)) c.in_ok-insert.ensures.entries c.in_ok-insert.ensures.nodes c.insert.ensures.step

pub returns-in_err-insert : goal.returns-in_err-insert
returns-in_err-insert g c =
    let p = err_from_is_err_and c.from_residual.result c.from_residual.ensures.1 in
    let e = c.in_err-insert.ensures in
    rw (p.1, p.2) (record {
      ok = tt;
      range = λ range. e.step.index_range (ap Refused range);
      memory = refused_one g.P.Prefix.path c.args.map.now c.insert.new.self c.args.prefix c.args.value _ e.unchanged e.step;
    })
