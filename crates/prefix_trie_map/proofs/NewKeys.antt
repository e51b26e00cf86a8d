-- Inserting a new key, or refusing it, is a step of the model: for entries and `insert`.
use Rattle.prefix_trie_map.proofs.Prelude.{◌≡◌, ℕ, ◌+◌, ◌*◌, ◌≤◌, Bool, true, false, cond, List, Option, None, Some, inl, inr, refl, sym, ap, ◌∙◌, true≢false, subst, Result, Ok, Err, IfErr, OnOk, MatchResult, get, contains_key, len, Refusal, Refused, IndexRange, with_entry, with_needed, AreNodes, MayPassLimit, LeavesSpace, Reply, Step, Insert, Value, PreparesInStorage, InsertsInStorage, RefusesInStorage, StepByPath, get-with_entry, is-same_string, same_entries, same_string, Entries, Contents, with_value_at, is_none-None, state, storage, stored_state, insert_new_reply, prepared_inserts}
use Rattle.prefix_trie_map.proofs.Insertions.{inserts_are}

module _ {T : Type 0} where
  pub value_not_refused : (x : Option T) (c : Refusal) → ◌≡◌ {A = Reply (List Bool) T} (Value x) (Reply.Refused c) → ⊥
  value_not_refused x c e = cc

  same_cause : (c d : Refusal) → ◌≡◌ {A = Reply (List Bool) T} (Reply.Refused c) (Reply.Refused d) → c ≡ d
  same_cause c d e = cc

module _ {T : Type 0} (width : ℕ) (old new : Contents T) (q : List Bool) (absent : contains_key old.entries q ≡ false) (space : LeavesSpace (len old.nodes) old.space new.space) where
  -- a successful insertion of a new key is a step
  pub placed_step : (v : T) → new.entries ≡ with_entry old.entries q v → new.nodes ≡ with_needed old.nodes q
      → InsertsInStorage (state old) q (storage old) (storage new) → StepByPath width (stored_state old) (Insert q v) (Value None) (stored_state new)
  placed_step v entries nodes inserts =
      let left = nodes ∙ sym (ap (λ b. cond b old.nodes (with_needed old.nodes q)) absent) in
      record {
        step = inl (ap Value (sym (is_none-None (get old.entries q) absent)), λ i. record { entries = entries i; nodes = left i });
        space = space;
        index_range = λ e. absurd (value_not_refused None IndexRange e);
        storage = (
          λ there. absurd (true≢false (sym there ∙ absent)),
          λ was fresh e. inserts,
          λ cause e. absurd (value_not_refused None cause e),
        );
      }

  -- a refusal is a step, whatever the value
  pub refused_step : (cause : Refusal) → new.entries ≡ old.entries → new.nodes ≡ old.nodes
      → RefusesInStorage (state old) q cause (storage old) (storage new) → (cause ≡ IndexRange → MayPassLimit old.space)
      → (v : T) → StepByPath width (stored_state old) (Insert q v) (Reply.Refused cause) (stored_state new)
  refused_step cause entries nodes refuses range v = record {
    step = inr (absent, cause, refl, λ i. record { entries = entries i; nodes = nodes i });
    space = space;
    index_range = λ e. range (same_cause {T = T} cause IndexRange e);
    storage = (
      λ there. absurd (true≢false (sym there ∙ absent)),
      λ was fresh e. absurd (value_not_refused was cause (sym e)),
      λ c e. subst (λ d. RefusesInStorage (state old) q d (storage old) (storage new)) (same_cause {T = T} cause c e) refuses,
    );
  }

-- ---- by the result

module _ {T : Type 0} (width : ℕ) (old new : Contents T) (q : List Bool) (v : T) where
  -- what the insertion of a new key says about the map, by its result
  pub record Places {X : Type 0} (r : Result X (Refused T)) : Type 0 where
    pub entries : OnOk r (new.entries ≡ with_entry old.entries q v)
    pub nodes : OnOk r (new.nodes ≡ with_needed old.nodes q)
    pub unchanged : IfErr r (λ e. (e.value ≡ v) × (new.entries ≡ old.entries) × (new.nodes ≡ old.nodes))
    pub step : OnOk r (StepByPath width (stored_state old) (Insert q v) (Value None) (stored_state new))
    pub refuses : IfErr r (λ e. (other : T) → StepByPath width (stored_state old) (Insert q other) (Reply.Refused e.cause) (stored_state new))

  pub places : {X : Type 0} (r : Result X (Refused T)) → contains_key old.entries q ≡ false → AreNodes width old.entries old.nodes → StepByPath width (stored_state old) (Insert q v) (insert_new_reply r) (stored_state new) → IfErr r (λ e. e.value ≡ v) → Places r
  places (Ok x) absent good h back =
      let left = inserts_are (state old) (state new) q v good (Ok None) h.step in
      record { entries = left.entries; nodes = left.nodes; unchanged = tt; step = h; refuses = tt }
  places (Err e) absent good h back =
      let same = (inserts_are (state old) (state new) q v good (Err e) h.step).unchanged in
      record {
        entries = tt;
        nodes = tt;
        unchanged = (back, same.0, same.1);
        step = tt;
        refuses = refused_step width old new q absent h.space e.cause same.0 same.1 (h.storage.2 e.cause refl) (λ i. h.index_range (ap Reply.Refused i));
      }

-- the same for a call that only makes the blocks of a new key

module _ {T S E : Type 0} (width : ℕ) (cause : E → Refusal) (old new : Contents T) (q : List Bool) where
  -- the blocks are made, or the call is refused
  pub space_refused : (result : Result S E) → contains_key old.entries q ≡ false → LeavesSpace (len old.nodes) old.space new.space
      → (new.entries ≡ old.entries) × (new.nodes ≡ old.nodes)
      → MatchResult result (λ _. PreparesInStorage (state old) q (storage old) (storage new)) (λ e. RefusesInStorage (state old) q (cause e) (storage old) (storage new))
      → IfErr result (λ e. cause e ≡ IndexRange → MayPassLimit old.space)
      → IfErr result (λ e. (other : T) → StepByPath width (stored_state old) (Insert q other) (Reply.Refused (cause e)) (stored_state new))
  space_refused (Ok x) absent space same leaves range = tt
  space_refused (Err e) absent space same leaves range = refused_step width old new q absent space (cause e) same.0 same.1 leaves range

  pub space_prepared : (result : Result S E)
      → MatchResult result (λ _. PreparesInStorage (state old) q (storage old) (storage new)) (λ e. RefusesInStorage (state old) q (cause e) (storage old) (storage new))
      → OnOk result (PreparesInStorage (state old) q (storage old) (storage new))
  space_prepared (Ok x) leaves = leaves
  space_prepared (Err e) leaves = tt

-- ---- once its blocks were made

module _ {T : Type 0} (width : ℕ) (old middle new : Contents T) (q : List Bool) (v : T)
    (absent : contains_key old.entries q ≡ false) (entries : middle.entries ≡ old.entries) (nodes : middle.nodes ≡ old.nodes) where
  middle_is : state middle ≡ state old
  middle_is = λ i. record { entries = entries i; nodes = nodes i }

  inserted_then : StepByPath width (stored_state middle) (Insert q v) (Value None) (stored_state new) → InsertsInStorage (state old) q (storage middle) (storage new)
  inserted_then step =
      subst (λ s. InsertsInStorage s q (storage middle) (storage new)) middle_is (step.storage.1 None (ap (λ m. contains_key m q) entries ∙ absent) refl)

  -- inserting after the blocks were made is the step that inserting before would have been
  pub prepared_step : LeavesSpace (len old.nodes) old.space middle.space → PreparesInStorage (state old) q (storage old) (storage middle)
      → new.entries ≡ with_entry middle.entries q v → new.nodes ≡ with_needed middle.nodes q
      → StepByPath width (stored_state middle) (Insert q v) (Value None) (stored_state new) → StepByPath width (stored_state old) (Insert q v) (Value None) (stored_state new)
  prepared_step space prepares entries2 nodes2 step =
      let made = prepared_inserts (state old) q (storage old) (storage middle) prepares (storage new) (inserted_then step) in
      let node_slots : new.space.node_slots ≡ middle.space.node_slots = made.node_slots ∙ sym prepares.node_slots in
      let cell_slots : new.space.cell_slots ≡ middle.space.cell_slots = made.cell_slots ∙ sym prepares.cell_slots in
      let after = step.space in
      let grown : LeavesSpace (len old.nodes) old.space new.space = record {
        same_limit = after.same_limit ∙ space.same_limit;
        nodes_within = after.nodes_within;
        cells_within = after.cells_within;
        nodes_grow = subst (λ n. n ≤ old.space.node_slots + 56 * len old.nodes) (sym node_slots) space.nodes_grow;
        cells_grow = subst (λ n. n ≤ old.space.cell_slots + 56 * len old.nodes) (sym cell_slots) space.cells_grow;
      } in
      placed_step width old new q absent grown
      v (entries2 ∙ ap (λ m. with_entry m q v) entries) (nodes2 ∙ ap (λ n. with_needed n q) nodes) made

-- ---- once another value is written there

over : {A : Type 0} (b : Bool) (x y z : A) → cond b x (cond b y z) ≡ cond b x z
over true x y z = refl
over false x y z = refl

-- of two values set at one key the second stays
pub entry_twice : {T : Type 0} (m : Entries T) (q : List Bool) (v w : T) → with_entry (with_entry m q v) q w ≡ with_entry m q w
entry_twice m q v w = same_entries _ _ (λ s. get-with_entry (with_entry m q v) q w s ∙ ap (cond (same_string s q) (Some w)) (get-with_entry m q v s)
    ∙ over (same_string s q) (Some w) (Some v) (get m s) ∙ sym (get-with_entry m q w s))

-- the value that was set is the one that is found
pub entry_only : {T : Type 0} (m n : Entries T) (q : List Bool) (v r : T) → n ≡ with_entry m q v → get n q ≡ Some r → r ≡ v
entry_only m n q v r is found =
    let there : get (with_entry m q v) q ≡ Some v = get-with_entry m q v q ∙ ap (λ b. cond b (Some v) (get m q)) (is-same_string q q refl) in
    let both : Some r ≡ Some v = sym found ∙ ap (λ e. get e q) is ∙ there in
    cc

module _ {T : Type 0} (width : ℕ) (old new : Contents T) (q : List Bool) (v : T) (x : Option T) where
  rewritten : (w : T) → Step (λ k. k) (λ k. k) width (state old) (Insert q v) (Value x) (state new)
      → Step (λ k. k) (λ k. k) width (state old) (Insert q w) (Value x) (state (with_value_at new q w))
  rewritten w (inl e) =
      let entries = ap (λ s. with_entry s.entries q w) e.1 ∙ entry_twice old.entries q v w in
      inl (e.0, λ i. record { entries = entries i; nodes = (e.1 i).nodes })
  rewritten w (inr e) = absurd (value_not_refused x e.1 e.2)

  -- inserting a value and overwriting it is the insertion of the second value
  pub written_step : (w : T) → StepByPath width (stored_state old) (Insert q v) (Value x) (stored_state new)
      → StepByPath width (stored_state old) (Insert q w) (Value x) (stored_state (with_value_at new q w))
  written_step w h = record {
    step = rewritten w h.step;
    space = h.space;
    index_range = h.index_range;
    storage = h.storage;
  }
