-- Each question is answered after those before.
use Rattle.std.proofs.Common.{◌<◌, ◌≤◌, arith, length, sym}
use Rattle.prefix_trie_joint.specs.Joined.{entries_of}
use Rattle.route_tables.specs.Printed.{lookup_text}
use Rattle.route_tables.proofs.Groups.{answers_all, answers_more, ok_said}
use Rattle.route_tables.proofs.commands.lookups.answer_all.Goals as goal

pub loop-i-preserved : goal.loop-i-preserved
loop-i-preserved g c =
    let less : c.loop-i.i < length c.args.networks.now = omega arith in
    answers_more (lookup_text c.args.relation (entries_of c.args.table.now)) c.args.texts.now c.args.networks.now c.requires.same_length c.loop-i.i _ c.index-networks-i.result less (sym c.index-networks-i.is)
    c.args.out.now c.loop-i.out c.print_found.new.out c.loop-i.invariant (ok_said c.print_found.result _ c.in_ok-printed.ensures c.print_found.ensures)

pub returns : goal.returns
returns g c =
    let all : length c.args.networks.now ≤ c.loop-i.i = omega arith in
    answers_all (lookup_text c.args.relation (entries_of c.args.table.now)) c.args.texts.now c.args.networks.now c.requires.same_length c.loop-i.i all c.args.out.now c.loop-i.out c.loop-i.invariant
