-- The empty map is a map, and what an insertion that is a step of the model returns and leaves: for `insert`.
use Rattle.prefix_trie_map.proofs.Prelude.{◌≡◌, ℕ, ◌%◌, Bool, true, false, ◌&&◌, List, length, cond, Option, Result, is_some, Ok, Err, IfOk, OnOk, OnErr, refl, sym, ap, ◌∙◌, inl, inr, eqb-true, true≢false, get, contains_key, get-empty, Refusal, Refused, begins, listing_cmp, IsMap, Entries, no_entries, with_entry, Nodes, has_node, root_alone, is_node_depth, with_needed, AreNodes, State, Reply, Step, Insert, or-cases, or-left, and-first, and-second, needs, same_nodes, has-with_needed, AreNodes-no_entries, insert_reply}
use Rattle.prefix_trie_map.proofs.Steps.{one_value}

module _ {T : Type 0} where
  -- the map without entries and with the root alone is a map
  pub IsMap-empty : (width : ℕ) → IsMap width (record { entries = no_entries {T = T}; nodes = root_alone })
  IsMap-empty width = record { keys_within = λ k e. absurd (true≢false (sym e ∙ ap is_some (get-empty listing_cmp k))); are_nodes = AreNodes-no_entries width }

  is_there : (width : ℕ) (m : Entries T) (n : Nodes) (s q : List Bool) → AreNodes width m n → contains_key m s ≡ true → has_node (with_needed n s) q ≡ true → has_node n q ≡ true
  is_there width m n s q good stored e =
      elim (or-cases (has_node n q) (begins q s && is_node_depth q) (sym (has-with_needed n s q) ∙ e)) [
        | inl before ↦ before
        | inr way ↦ good.hold_needed q (needs m q s (eqb-true (length q % 5) 0 (and-second (begins q s) (is_node_depth q) way)) stored (and-first (begins q s) (is_node_depth q) way))
      ]

  -- all nodes that a stored key needs exist
  pub with_needed-stored : (width : ℕ) (m : Entries T) (n : Nodes) (s : List Bool) → AreNodes width m n → contains_key m s ≡ true → with_needed n s ≡ n
  with_needed-stored width m n s good stored =
      same_nodes (with_needed n s) n (λ q. is_there width m n s q good stored)
      (λ q e. has-with_needed n s q ∙ or-left (has_node n q) (begins q s && is_node_depth q) e)

  -- what an insertion at q returns and what it leaves
  pub record Inserts (s t : State T) (q : List Bool) (v : T) (result : Result (Option T) (Refused T)) : Type 0 where
    pub before : IfOk result (λ before. before ≡ get s.entries q)
    pub entries : OnOk result (t.entries ≡ with_entry s.entries q v)
    pub nodes : OnOk result (t.nodes ≡ with_needed s.nodes q)
    pub unchanged : OnErr result ((t.entries ≡ s.entries) × (t.nodes ≡ s.nodes))

  module _ (s t : State T) (q : List Bool) (v : T) {width : ℕ} (good : AreNodes width s.entries s.nodes) where
    no_refusal : (o : Option T) (cause : Refusal) → ◌≡◌ {A = Reply (List Bool) T} (Reply.Value o) (Reply.Refused cause) → ⊥
    no_refusal o cause e = cc

    needed_all : (b : Bool) → contains_key s.entries q ≡ b → cond b s.nodes (with_needed s.nodes q) ≡ with_needed s.nodes q
    needed_all true is = sym (with_needed-stored width s.entries s.nodes q good is)
    needed_all false is = refl

    -- a step of the model has this result
    pub inserts_are : (result : Result (Option T) (Refused T)) → Step (λ k. k) (λ k. k) width s (Insert q v) (insert_reply result) t → Inserts s t q v result
    inserts_are (Ok before) (inl (e, left)) = record {
      before = one_value _ _ e;
      entries = ap (λ (x : State T). x.entries) left;
      nodes = ap (λ (x : State T). x.nodes) left ∙ needed_all (contains_key s.entries q) refl;
      unchanged = tt;
    }
    inserts_are (Ok before) (inr (new, cause, e, same)) = absurd (no_refusal before cause e)
    inserts_are (Err refused) (inl (e, left)) = absurd (no_refusal _ refused.cause (sym e))
    inserts_are (Err refused) (inr (new, cause, e, same)) = record {
      before = tt;
      entries = tt;
      nodes = tt;
      unchanged = (ap (λ (x : State T). x.entries) same, ap (λ (x : State T). x.nodes) same);
    }
