-- What one word shows is what is read from it.
use Rattle.std.proofs.lemmas.Result.{on_ok_weaker}
use Rattle.prefix_trie_joint.specs.Joined.{entries_of}
use Rattle.route_tables.specs.Printed.{lookup_text}
use Rattle.route_tables.specs.Questions.{IsQuestionWord}
use Rattle.route_tables.proofs.Answering.{prints_nothing, prints_question}
use Rattle.route_tables.proofs.CheckSteps.{on_ok}
use Rattle.route_tables.proofs.Lookups.{ok_of}
use Rattle.route_tables.proofs.commands.lookups.look_up_word.Goals as goal

pub returns-in-Ok : goal.returns-in-Ok
returns-in-Ok g c =
    ok_of c.print_found.result c.printed.result _ c.printed.ensures
    (on_ok_weaker c.print_found.result
    (prints_question (IsQuestionWord c.args.looking.asking) (lookup_text c.args.looking.relation (entries_of c.args.table.now)) c.args.word.now c.in-Ok.question.text.now c.in-Ok.question.network c.args.out.now c.print_found.new.out
    c.in-Ok.ensures) c.print_found.ensures)

pub returns-in-Err : goal.returns-in-Err
returns-in-Err g c =
    on_ok c.skip_or_refuse.result _
    (prints_nothing (IsQuestionWord c.args.looking.asking) (lookup_text c.args.looking.relation (entries_of c.args.table.now)) c.args.word.now c.args.out.now (λ text network asks. c.in-Err.ensures network asks.1))
