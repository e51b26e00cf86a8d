-- An answer is 0, or has the length above the 23 bits of the hop.
use Rattle.prefix_trie_forwarding.proofs.Hops.{answer_least, match_some}
use Rattle.prefix_trie_forwarding.proofs.answers.match_in.Goals as goal

pub overflow_sub-len : goal.overflow_sub-len
overflow_sub-len c = answer_least c.requires.answer.0 c.args.answer c.if-answer-eq0.false c.requires.answer.1

pub returns-in-Some : goal.returns-in-Some
returns-in-Some c = λ found is. match_some found c.args.answer c.in-Some.hop c.if-answer-eq0.false is c.in-Some.ensures
