-- The invariant of `answer_each`: the questions so far are answered.
use Rattle.std.proofs.Common.{take}
use Rattle.std.specs.Io.KnownBytes.{Appends}
use Rattle.prefix_trie_joint.specs.Joined.{entries_of}
use Rattle.route_tables.specs.Groups.{answers_text, questions_of}
use Rattle.route_tables.specs.Printed.{lookup_text}
use Rattle.route_tables.specs.declared.lookup.Relation.TheVariants.{Longest}
use Rattle.route_tables.proofs.commands.groups.answer_each.Given as goal

abbrev pub invariant-loop-i : goal.invariant-loop-i
invariant-loop-i g l = Appends l.fn.out l.out (answers_text (lookup_text Longest (entries_of l.table)) (take l.i (questions_of l.texts l.networks)))
