-- Two runs one after another are one run, for any kind of step, and a run with its storage is a run of the model.
use Rattle.prefix_trie_bits.proofs.Prelude.{ℕ, Bool, List, [], ◌∷◌, ◌++◌, sym, ap, subst, State, Call, Reply, Runs, Run, Storage, RunInStorage}

module _ {S C R : Type 0} (OneStep : S → C → R → S → Type 0) where
  pub runs_join : (s t u : S) (calls more : List C) (replies rest : List R) → Runs OneStep s calls replies t → Runs OneStep t more rest u → Runs OneStep s (calls ++ more) (replies ++ rest) u
  runs_join s t u [] more replies rest (none, e) ran =
      subst (λ rs. Runs OneStep s more (rs ++ rest) u) (sym none) (subst (λ x. Runs OneStep x more rest u) e ran)
  runs_join s t u (c ∷ cs) more replies rest (reply, later, mid, e, step, ran) more_ran =
      (reply, later ++ rest, mid, ap (λ rs. rs ++ rest) e, step, runs_join mid t u cs more later rest ran more_ran)

module _ {P T : Type 0} (path : P → List Bool) (back : List Bool → P) (width : ℕ) where
  -- a run that describes the storage too is a run of the model
  pub run_of_stored : (s t : State T × Storage) (calls : List (Call P T)) (replies : List (Reply P T)) → RunInStorage path back width s calls replies t → Run path back width s.0 calls replies t.0
  run_of_stored s t [] replies (none, e) = (none, ap (λ x. x.0) e)
  run_of_stored s t (c ∷ cs) replies (reply, later, mid, e, step, ran) =
      (reply, later, mid.0, e, step.step, run_of_stored mid t cs later ran)
