-- Each line adds its question, if it has one.
use Rattle.std.proofs.Common.{◌<◌, Err, Ok, Some, arith, length, take}
use Rattle.route_tables.specs.Groups.{questions_of}
use Rattle.route_tables.specs.Questions.{ReadsLine}
use Rattle.route_tables.specs.Routes.{IsBlank}
use Rattle.route_tables.proofs.Answering.{blank_asks_nothing}
use Rattle.route_tables.proofs.Groups.{begins_nothing, begins_question}
use Rattle.route_tables.proofs.commands.groups.read_group.Goals as goal

pub loop-count-preserved-in-Ok-Some : goal.loop-count-preserved-in-Ok-Some
loop-count-preserved-in-Ok-Some c =
    let read : ReadsLine c.args.asking c.split_line.result.0.now (Ok (Some c.in-Ok-Some.question)) = rw c.in-Ok-Some.field-0-is at c.in-Ok-Some.ensures in
    let at_text : c.loop-count.count < length c.loop-count.texts = omega arith in
    let at_network : c.loop-count.count < length c.loop-count.networks = omega arith in
    record {
      few = omega arith;
      shorter = omega arith;
      read = rw c.in-Ok-Some.field-0-is (begins_question c.args.asking c.args.text.now c.loop-count.rest.now c.split_line.result.1.now c.split_line.result.0.now c.loop-count.texts c.loop-count.networks c.loop-count.count
          c.in-Ok-Some.question.text c.in-Ok-Some.question.network at_text at_network c.split_line.ensures.first read c.loop-count.invariant.read);
    }

pub loop-count-preserved : goal.loop-count-preserved
loop-count-preserved c =
    let blank : IsBlank c.split_line.result.0.now = rw c.in-Ok-None.field-0-is at c.in-Ok-None.ensures in
    record {
      few = omega arith;
      shorter = omega arith;
      read = begins_nothing c.args.asking c.args.text.now c.loop-count.rest.now c.split_line.result.1.now c.split_line.result.0.now
          (questions_of (take c.loop-count.count c.loop-count.texts) (take c.loop-count.count c.loop-count.networks)) c.split_line.ensures.first
          (blank_asks_nothing c.args.asking c.split_line.result.0.now blank) c.loop-count.invariant.read;
    }

pub returns-in-Err-clause-read : goal.returns-in-Err-clause-read
returns-in-Err-clause-read c =
    let read : ReadsLine c.args.asking c.split_line.result.0.now (Err c.in-Err.error) = c.in-Err.ensures in
    begins_nothing c.args.asking c.args.text.now c.loop-count.rest.now c.split_line.result.1.now c.split_line.result.0.now
    (questions_of (take c.loop-count.count c.loop-count.texts) (take c.loop-count.count c.loop-count.networks)) c.split_line.ensures.first read.1 c.loop-count.invariant.read
