-- Inserting into a set is inserting a unit into its map: a key is new if there was no previous value.
use Rattle.prefix_trie.proofs.Prelude.{◌≡◌, Bool, false, true, false≢true, true≢false, List, Option, None, Some, Ok, is_some, not, refl, sym, ap, ◌∙◌, subst, Reply, Insert, Value, StepByPath, stored_state}
use Rattle.prefix_trie.specs.Sets.{set_insert_reply}
use Rattle.prefix_trie.proofs.set.PrefixSet.insert.Goals as goal
use Rattle.prefix_trie.proofs.set.PrefixSet.insert.Goals.{in-Ok, in-Err}

other_way : (a b : Bool) → a ≡ not b → b ≡ not a
other_way a false h = sym (ap not h)
other_way a true h = sym (ap not h)

-- the previous value, as the result has it
was_there : (before : Option (Unit {0})) (is_new : Bool) → is_some before ≡ not is_new → ◌≡◌ {A = Reply (List Bool) (Unit {0})} (Value before) (set_insert_reply (Ok is_new))
was_there None false h = absurd (false≢true h)
was_there None true h = refl
was_there (Some u) false h = refl
was_there (Some u) true h = absurd (true≢false h)

pub returns-clause-is_new : goal.returns-clause-is_new
returns-clause-is_new g c = elim c.match-insert.branch [
  | in-Ok w ↦ rw (w.result-is, ← c.self.view_is) (other_way _ _ w.is_none.ensures ∙ ap (λ before. not (is_some before)) w.in-Ok.ensures.before)
  | in-Err w ↦ rw w.result-is tt
]

pub returns-clause-step : goal.returns-clause-step
returns-clause-step g c = elim c.match-insert.branch [
  | in-Ok w ↦ rw (w.result-is, ← c.self.view_is) (
      subst (λ r. StepByPath g.P.R.Key.bit_width (stored_state c.self.inside.map) (Insert (g.P.Prefix.path c.args.prefix) tt) r (stored_state c.insert.new.self)) (was_there w.in-Ok.before w.is_none.result w.is_none.ensures)
      w.in-Ok.ensures.step
      )
  | in-Err w ↦ rw (w.result-is, ← c.self.view_is) w.in-Err.ensures.step
]
