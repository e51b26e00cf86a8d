-- Each question is answered after those before.
use Rattle.std.proofs.Common.{◌<◌, ◌≤◌, arith, length, sym}
use Rattle.prefix_trie_joint.specs.Joined.{entries_of}
use Rattle.route_tables.specs.Printed.{lookup_text}
use Rattle.route_tables.specs.declared.lookup.Relation.TheVariants.{Longest}
use Rattle.route_tables.proofs.Groups.{answers_all, answers_more}
use Rattle.route_tables.proofs.commands.groups.answer_each.Goals as goal

pub loop-i-preserved : goal.loop-i-preserved
loop-i-preserved g c =
    let less : c.loop-i.i < length c.args.networks.now = omega arith in
    answers_more (lookup_text Longest (entries_of c.args.table.now)) c.args.texts.now c.args.networks.now c.requires.texts c.loop-i.i _ c.index-networks-i.result less (sym c.index-networks-i.is) c.args.out.now
    c.loop-i.out c.answer.new.self c.loop-i.invariant (rw c.longest_if_any-answer.ensures at c.in_ok-answer.ensures)

pub returns : goal.returns
returns g c =
    let all : length c.args.networks.now ≤ c.loop-i.i = omega arith in
    answers_all (lookup_text Longest (entries_of c.args.table.now)) c.args.texts.now c.args.networks.now c.requires.texts c.loop-i.i all c.args.out.now c.loop-i.out c.loop-i.invariant
