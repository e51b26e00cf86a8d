-- Both outcomes of filling an entry leave a bounded number of slots: the value is set, or it is refused.
use Rattle.prefix_trie_tests.proofs.Prelude.{rules, ◌≡◌, Option, Ok, Err, Result, IfOk, IfErr, None, subst, len, Refused, LeavesSpace, Contents, Entry, Fills, RefusesToFill, entry_map, entry_value}
use Rattle.std.specs.declared.cmp.PartialEq as partial
use Rattle.std.specs.declared.fmt.Debug as debug
use Rattle.prefix_trie_bits.specs.declared.prefix.Prefix as prefix
use Rattle.prefix_trie_bits.specs.declared.prefix.Key as key
use Rattle.prefix_trie_tests.proofs.entry_callers.set.Goals as goal

module _ {P T A R : Type 0} {p : prefix.Ghosts P R} {shows : debug.Ghosts P} {k : key.Ghosts R} {same : partial.Ghosts R} {writes : debug.Ghosts R} where
  -- Both outcomes leave a bounded number of slots.
  room_left : (e : Entry P T A R p shows k same writes) (old new : Contents T) (value : T) (answer : Result (Option T) (Refused T)) → entry_map e ≡ old
      → IfOk answer (λ before. (before ≡ entry_value e) × Fills e new value)
      → IfErr answer (λ refused. (refused.value ≡ value) × (entry_value e ≡ None) × RefusesToFill e refused.cause new) → LeavesSpace (len old.nodes) old.space new.space
  room_left e old new value (Ok before) is set refused = subst (λ m. LeavesSpace (len m.nodes) m.space new.space) is set.1.step.space
  room_left e old new value (Err cause) is set refused = subst (λ m. LeavesSpace (len m.nodes) m.space new.space) is (refused.2.step value).space

pub returns-clause-space : goal.returns-clause-space
returns-clause-space g c =
    let put = c.put.ensures in
    let space = room_left c.entry.result c.args.map.now c.put.result.map.now c.args.value c.put.result.answer c.entry.ensures.unchanged put.set put.refused in
    search rules
