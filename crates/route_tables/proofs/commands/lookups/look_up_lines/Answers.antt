-- The loop over the lines of a text: what the table has for some lines is printed after what is printed for those before.
use Rattle.prefix_trie_joint.specs.Joined.{entries_of}
use Rattle.route_tables.specs.Lines.{lines}
use Rattle.route_tables.specs.Printed.{lookup_text}
use Rattle.route_tables.specs.Questions.{IsQuestionLine}
use Rattle.route_tables.proofs.Answering.{answers_on}
use Rattle.route_tables.proofs.commands.lookups.look_up_lines.Goals as goal

pub loop-rest-preserved : goal.loop-rest-preserved
loop-rest-preserved g c =
    answers_on (IsQuestionLine c.args.looking.asking) (lookup_text c.args.looking.relation (entries_of c.args.table.now)) (lines c.args.text.now) (lines c.loop-rest.rest.now) (lines c.in_ok-rest.rest.now)
    c.in_ok-rest.ensures.printed.0 c.args.out.now c.loop-rest.out c.look_up_some.new.out c.in_ok-rest.ensures.printed.1 c.in_ok-rest.ensures.printed.2 c.loop-rest.invariant
