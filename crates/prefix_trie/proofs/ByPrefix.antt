-- A step on paths, which the contracts of a map promise, is a step on prefixes: for `run`.
use Rattle.prefix_trie.proofs.Prelude.{◌≡◌, ℕ, Bool, List, Option, Result, Ok, Err, inl, inr, ap, subst, Refused, State, Reply, Step, Insert, Remove, RemoveKeepTree, RemoveChildren, Clear, Value, Done, Storage, StepInStorage, StepByPath, insert_reply}

-- a reply without keys, with another type of keys
abbrev carried : {P Q T : Type 0} → Reply P T → Reply Q T
carried (Value o) = Value o
carried (Reply.Refused cause) = Reply.Refused cause
carried reply = Done

module _ {P T : Type 0} (path : P → List Bool) (back : List Bool → P) (width : ℕ) (s t : State T × Storage) where
  set_step : (q : P) (v : T) (r : Reply (List Bool) T) → Step (λ k. k) (λ k. k) width s.0 (Insert (path q) v) r t.0 → Step path back width s.0 (Insert q v) (carried r) t.0
  set_step q v r (inl (e, left)) = inl (ap carried e, left)
  set_step q v r (inr (new, cause, e, same)) = inr (new, cause, ap carried e, same)

  pub insert_step : (q : P) (v : T) (r : Result (Option T) (Refused T)) → StepByPath width s (Insert (path q) v) (insert_reply r) t → StepInStorage path back width s (Insert q v) (insert_reply r) t
  insert_step q v (Ok before) h = record {
    step = set_step q v (Value before) h.step;
    space = h.space;
    index_range = λ e. h.index_range (ap carried e);
    storage = (h.storage.0, λ old new e. h.storage.1 old new (ap carried e), λ cause e. h.storage.2 cause (ap carried e));
  }
  insert_step q v (Err refused) h = record {
    step = set_step q v (Reply.Refused refused.cause) h.step;
    space = h.space;
    index_range = λ e. h.index_range (ap carried e);
    storage = (h.storage.0, λ old new e. h.storage.1 old new (ap carried e), λ cause e. h.storage.2 cause (ap carried e));
  }

  -- the same for another prefix with the same path, if the result is known
  pub insert_step_as : (q p : P) (v : T) (r answer : Result (Option T) (Refused T)) → path p ≡ path q → r ≡ answer
      → StepByPath width s (Insert (path p) v) (insert_reply r) t → StepInStorage path back width s (Insert q v) (insert_reply answer) t
  insert_step_as q p v r answer same is step =
      subst (λ x. StepInStorage path back width s (Insert q v) (insert_reply x) t) is
      (insert_step q v r (subst (λ k. StepByPath width s (Insert k v) (insert_reply r) t) same step))

  pub remove_step : (q : P) (o : Option T) → StepByPath width s (Remove (path q)) (Value o) t → StepInStorage path back width s (Remove q) (Value o) t
  remove_step q o h = record { step = (ap carried h.step.0, h.step.1); space = h.space; index_range = λ e. h.index_range (ap carried e); storage = h.storage }

  pub keep_tree_step : (q : P) (o : Option T) → StepByPath width s (RemoveKeepTree (path q)) (Value o) t → StepInStorage path back width s (RemoveKeepTree q) (Value o) t
  keep_tree_step q o h = record { step = (ap carried h.step.0, h.step.1); space = h.space; index_range = λ e. h.index_range (ap carried e); storage = h.storage }

  pub children_step : (q : P) → StepByPath width s (RemoveChildren (path q)) Done t → StepInStorage path back width s (RemoveChildren q) Done t
  children_step q h = record { step = (ap carried h.step.0, h.step.1); space = h.space; index_range = λ e. h.index_range (ap carried e); storage = h.storage }

  pub clear_step : StepByPath width s Clear Done t → StepInStorage path back width s Clear Done t
  clear_step h = record { step = (ap carried h.step.0, h.step.1); space = h.space; index_range = λ e. h.index_range (ap carried e); storage = h.storage }
