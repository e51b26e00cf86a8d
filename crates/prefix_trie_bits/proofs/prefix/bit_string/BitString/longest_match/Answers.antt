-- The longest string that begins the key's has the highest bit under the match mask. If the mask is empty, no string does.
use Rattle.prefix_trie_bits.proofs.NodeMatches.{none_begins, longest_found}
use Rattle.prefix_trie_bits.proofs.prefix.bit_string.BitString.longest_match.Goals as goal

pub returns-then-matches-eq0 : goal.returns-then-matches-eq0
returns-then-matches-eq0 g c = none_begins c.args.bitmap c.match_mask.result c.args.self.now c.requires c.match_mask.ensures c.if-matches-eq0.true

pub returns : goal.returns
returns g c = longest_found c.args.bitmap c.match_mask.result c.args.self.now c.requires c.match_mask.ensures c.if-matches-eq0.false
