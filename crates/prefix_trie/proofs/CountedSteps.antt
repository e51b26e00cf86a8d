-- Each call of a run is a counted step of the model, whether it changes the map or only reads it: for `run`.
use Rattle.prefix_trie_bits.specs.Model.Counted.{CountedStep, CountsReads}
use Rattle.prefix_trie_bits.specs.Model.Step.{Items, Lists, Refused}
use Rattle.prefix_trie_bits.specs.Model.Storage.{LeavesStorage}
use Rattle.prefix_trie.proofs.Prelude.{◌≡◌, ℕ, Bool, true, false, List, Option, None, inl, inr, refl, sym, ap, ◌∙◌, subst, arith, true≢false, Result, Ok, Err, IfOk, MatchResult, IndexRange, Memory, State, Call, Reply, Step, Storage, StepInStorage, Contents, state, stored_state, storage, IsWhole}

-- whether a reply is the refusal `IndexRange`
abbrev pub is_range : {P T : Type 0} → Reply P T → Bool
is_range (Refused IndexRange) = true
is_range r = false

module _ {P T : Type 0} (path : P → List Bool) (back : List Bool → P) (width : ℕ) {call then : Call P T} (is : call ≡ then) where
  -- a call that is carried out and reads nothing that is counted
  pub carried_out : (s t : State T × Storage) (reply : Reply P T) → CountsReads path s.0 then None → StepInStorage path back width s then reply t → CountedStep path back width s call (reply, None) t
  carried_out s t reply counts step = subst (λ q. CountedStep path back width s q (reply, None) t) (sym is) (record { step = step; reads = counts })

  module _ (m : Contents T) (whole : IsWhole width m) (reply : Reply P T) (read : Option ℕ)
      (still : LeavesStorage path (state m) then reply (state m) (storage m) (storage m)) (counts : CountsReads path (state m) then read) where
    -- a call that only reads
    pub answered : (shown : Reply P T) → reply ≡ shown → is_range shown ≡ false → Step path back width (state m) then reply (state m) → CountedStep path back width (stored_state m) call (reply, read) (stored_state m)
    answered shown same other step = subst (λ q. CountedStep path back width (stored_state m) q (reply, read) (stored_state m)) (sym is) (record {
      step = record {
        step = step;
        space = record { same_limit = refl; nodes_within = whole.nodes_within; cells_within = whole.cells_within; nodes_grow = omega arith; cells_grow = omega arith };
        index_range = λ e. absurd (true≢false (sym (ap is_range e) ∙ ap is_range same ∙ other));
        storage = still;
      };
      reads = counts;
    })

    -- a call that lists entries, if the listing can be allocated
    pub listed : {V E : Type 0} (items : V → List (P × T)) (made : Result V E) (all : List (P × T)) → MatchResult made (λ v. reply ≡ Items (items v)) (λ _. reply ≡ Refused Memory)
        → IfOk made (λ v. items v ≡ all) → (Lists (state m) all reply (state m) → Step path back width (state m) then reply (state m)) → CountedStep path back width (stored_state m) call (reply, read) (stored_state m)
    listed items (Ok v) all replied are step = answered (Items (items v)) replied refl (step (inl (replied ∙ ap Items are), refl))
    listed items (Err e) all replied are step = answered (Refused Memory) replied refl (step (inr replied, refl))
