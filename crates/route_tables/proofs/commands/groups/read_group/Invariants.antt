-- The invariant of `read_group`: the lines so far have the questions so far, and each turn takes a line off.
use Rattle.std.proofs.Common.{◌+◌, ◌≤◌, length, take}
use Rattle.route_tables.specs.Groups.{BeginsWithQuestions, questions_of}
use Rattle.route_tables.proofs.commands.groups.read_group.Given as goal

abbrev pub invariant-loop-count : goal.invariant-loop-count
invariant-loop-count l = record {
  few : l.count ≤ 32;
  shorter : length l.rest + l.count ≤ length l.text;
  read : BeginsWithQuestions l.asking l.text l.rest (questions_of (take l.count l.texts) (take l.count l.networks));
}

abbrev pub decreases-loop-count : goal.decreases-loop-count
decreases-loop-count l = length l.rest
