-- The next item is the first entry to come, and the cursor goes on after it.
use Rattle.prefix_trie_map.proofs.Prelude.{rules}
use Rattle.prefix_trie_map.proofs.Writing.{stops_there, first_there, goes_over}
use Rattle.prefix_trie_map.proofs.map.writing.cursor.MapCursorSource.step.Goals as goal

pub returns : goal.returns
returns g c = (
  stops_there c.args.self.now c.step.new.cursor c.step.ensures.is_there _ _ _ c.new-path.ensures c.in-Some.ensures.key,
  first_there c.args.self.now c.step.new.cursor c.step.ensures.is_there _ _ _ c.new-path.ensures c.in-Some.ensures.key g.met.P.Prefix.prefix_laws _ (search rules),
  goes_over c.args.self.now c.step.new.cursor _ _ _ _ c.new-path.ensures c.in-Some.ensures.key c.in-Some.ensures.stored,
)
