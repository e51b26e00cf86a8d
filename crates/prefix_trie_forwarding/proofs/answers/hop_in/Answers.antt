-- An answer is 0, or has the hop in its last 23 bits.
use Rattle.prefix_trie_forwarding.proofs.Hops.{hop_some}
use Rattle.prefix_trie_forwarding.proofs.answers.hop_in.Goals as goal

pub returns : goal.returns
returns c = λ found is. hop_some found c.args.answer c.new.result c.if-answer-eq0.false is c.new.ensures
