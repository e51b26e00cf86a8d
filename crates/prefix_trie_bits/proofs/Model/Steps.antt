-- What every step of the model keeps: for `step_laws`.
use Rattle.prefix_trie_bits.proofs.Prelude.{◌≡◌, ◌≢◌, ℕ, ◌≤◌, Bool, true, false, cond, not, List, [], ◌∷◌, length, Some, None, is_some, refl, sym, ap, ◌∙◌, subst, inl, inr, true≢false, nat_le, All-head, All-tail, get, contains_key, len, get-empty, begins, listing_cmp, same_string, Entries, AreWithin, with_entry, without_entry, without_below, part_at_least, Nodes, with_needed, needed, AreNodes, IsTidy, nodes_without, State, Call, Insert, Remove, RemoveKeepTree, RemoveChildren, RetainAtLeast, Clear, NodeCount, CallFits, Reply, Count, Refused, Refusal, Step, Run, IsMap, StepKeeps, StepLaws, touches}
use Rattle.std.specs.List.{All}
use Rattle.prefix_trie_bits.proofs.Model.Determined.{refused}
use Rattle.prefix_trie_bits.proofs.Model.Runs.{runs_join}
use Rattle.prefix_trie_bits.proofs.Model.Members.{and-second, same_string-is, has-retained, get-with_entry, get-without_entry, get-without_below, get-part_at_least, same_entries}
use Rattle.prefix_trie_bits.proofs.Model.Pruning.{remove_law, remove_children_law, removed_fewer, below_fewer}
use Rattle.prefix_trie_bits.proofs.Model.NodeSets.{key_cases, needed_insert, needed_stored, AreNodes-with_entry, AreNodes-stored, AreNodes-without_entry, AreNodes-no_entries, AreNodes-needed, tidy-no_entries}

module _ {T : Type 0} where
  -- keys within the width stay within it after an insertion
  insert_within : (width : ℕ) (m : Entries T) (s : List Bool) (v : T) → length s ≤ width → AreWithin width m → AreWithin width (with_entry m s v)
  insert_within width m s v short within k e = elim (key_cases m s k v e) [ inl is ↦ subst (λ x. length x ≤ width) (sym is) short | inr old ↦ within k old ]

  fewer_within : (width : ℕ) (m left : Entries T) → ((k : List Bool) → contains_key left k ≡ true → contains_key m k ≡ true) → AreWithin width m → AreWithin width left
  fewer_within width m left fewer within k e = within k (fewer k e)

  pub part_fewer : (m : Entries T) (n : ℕ) (k : List Bool) → contains_key (part_at_least m n) k ≡ true → contains_key m k ≡ true
  part_fewer m n k e = and-second (nat_le n (length k)) (contains_key m k) (sym (has-retained m (λ s. nat_le n (length s)) k) ∙ e)

  pub nodes_cond : (width : ℕ) (m : Entries T) (n : Nodes) (s : List Bool) (v : T) → length s ≤ width → AreNodes width m n → (b : Bool) → contains_key m s ≡ b → AreNodes width (with_entry m s v) (cond b n (with_needed n s))
  nodes_cond width m n s v short good true e = AreNodes-stored width m n s v good e
  nodes_cond width m n s v short good false e = AreNodes-with_entry width m n s v good short

  pub tidy_cond : (m : Entries T) (n : Nodes) (s : List Bool) (v : T) → IsTidy m n → (b : Bool) → contains_key m s ≡ b → IsTidy (with_entry m s v) (cond b n (with_needed n s))
  tidy_cond m n s v tidy true e = tidy ∙ needed_stored m s v e
  tidy_cond m n s v tidy false e = ap (λ x. with_needed x s) tidy ∙ needed_insert m s v

module _ {P T : Type 0} (path : P → List Bool) (back : List Bool → P) (width : ℕ) where
  same_state : (s t : State T) → t ≡ s → IsMap width s → IsMap width t
  same_state s t e h = subst (IsMap width) (sym e) h

  pub stays_map : (s : State T) (call : Call P T) (reply : Reply P T) (t : State T) → CallFits (λ q. length (path q) ≤ width) call → Step path back width s call reply t → IsMap width s → IsMap width t
  stays_map s (Insert q v) reply t fits (inl (r, e)) h =
      subst (IsMap width) (sym e) (record { keys_within = insert_within width s.entries (path q) v fits h.keys_within; are_nodes = nodes_cond width s.entries s.nodes (path q) v fits h.are_nodes (contains_key s.entries (path q)) refl })
  stays_map s (Insert q v) reply t fits (inr (_, cause, r, e)) h = same_state s t e h
  stays_map s (Remove q) reply t fits (r, e) h =
      subst (IsMap width) (sym e) (record { keys_within = fewer_within width s.entries (without_entry s.entries (path q)) (removed_fewer s.entries (path q)) h.keys_within; are_nodes = (remove_law width s.entries s.nodes (path q) h.are_nodes).are_nodes })
  stays_map s (RemoveKeepTree q) reply t fits (r, e) h =
      subst (IsMap width) (sym e) (record { keys_within = fewer_within width s.entries (without_entry s.entries (path q)) (removed_fewer s.entries (path q)) h.keys_within; are_nodes = AreNodes-without_entry width s.entries s.nodes (path q) h.are_nodes })
  stays_map s (RemoveChildren q) reply t fits (r, e) h =
      subst (IsMap width) (sym e) (record { keys_within = fewer_within width s.entries (without_below s.entries (path q)) (below_fewer s.entries (path q)) h.keys_within; are_nodes = (remove_children_law width s.entries s.nodes (path q) h.are_nodes).are_nodes })
  stays_map s (RetainAtLeast n) reply t fits (r, e) h =
      let within = fewer_within width s.entries (part_at_least s.entries n) (part_fewer s.entries n) h.keys_within in
      subst (IsMap width) (sym e) (record { keys_within = within; are_nodes = AreNodes-needed width (part_at_least s.entries n) within })
  stays_map s Clear reply t fits (r, e) h = subst (IsMap width) (sym e) (record { keys_within = λ k e. absurd (true≢false (sym e ∙ ap is_some (get-empty listing_cmp k))); are_nodes = AreNodes-no_entries width })
  stays_map s call reply t fits step h = same_state s t step.1 h

  abbrev TidyState : State T → Type 0
  TidyState s = IsTidy s.entries s.nodes

  same_tidy : (s t : State T) → t ≡ s → TidyState s → TidyState t
  same_tidy s t e h = subst TidyState (sym e) h

  pub stays_tidy : (s : State T) (call : Call P T) (reply : Reply P T) (t : State T) → ((q : P) → call ≢ RemoveKeepTree q) → Step path back width s call reply t → IsMap width s → TidyState s → TidyState t
  stays_tidy s (Insert q v) reply t other (inl (r, e)) h tidy =
      subst TidyState (sym e) (tidy_cond s.entries s.nodes (path q) v tidy (contains_key s.entries (path q)) refl)
  stays_tidy s (Insert q v) reply t other (inr (_, cause, r, e)) h tidy = same_tidy s t e tidy
  stays_tidy s (Remove q) reply t other (r, e) h tidy = subst TidyState (sym e) ((remove_law width s.entries s.nodes (path q) h.are_nodes).stays_tidy tidy)
  stays_tidy s (RemoveKeepTree q) reply t other (r, e) h tidy = absurd (other q refl)
  stays_tidy s (RemoveChildren q) reply t other (r, e) h tidy = subst TidyState (sym e) ((remove_children_law width s.entries s.nodes (path q) h.are_nodes).stays_tidy tidy)
  stays_tidy s (RetainAtLeast n) reply t other (r, e) h tidy = subst TidyState (sym e) refl
  stays_tidy s Clear reply t other (r, e) h tidy = subst TidyState (sym e) (tidy-no_entries T)
  stays_tidy s call reply t other step h tidy = same_tidy s t step.1 tidy

  retained_tidy : (s : State T) (n : ℕ) (reply : Reply P T) (t : State T) → Step path back width s (RetainAtLeast n) reply t → TidyState t
  retained_tidy s n reply t (r, e) = subst TidyState (sym e) refl

  cleared_tidy : (s : State T) (reply : Reply P T) (t : State T) → Step path back width s Clear reply t → TidyState t
  cleared_tidy s reply t (r, e) = subst TidyState (sym e) (tidy-no_entries T)

  tidy_count : (s : State T) (reply : Reply P T) (t : State T) → Step path back width s NodeCount reply t → TidyState s → reply ≡ Count (len (needed s.entries))
  tidy_count s reply t (r, e) tidy = r ∙ ap (λ n. Count (len n)) tidy

  pub refused_as_before : (s : State T) (call : Call P T) (cause : Refusal) (t : State T) → Step path back width s call (Refused cause) t → t ≡ s
  refused_as_before s call cause t step = ((refused path back width s call cause t).0 step).1

from-no : (b : Bool) → not b ≡ false → b ≡ true
from-no true e = refl
from-no false e = absurd (true≢false e)

away_from : {X : Type 0} (b : Bool) (x y : X) → b ≡ false → cond b x y ≡ y
away_from b x y e = ap (λ c. cond c x y) e

at_least : {X : Type 0} (b : Bool) (x y : X) → not b ≡ false → cond b x y ≡ x
at_least b x y e = ap (λ c. cond c x y) (from-no b e)

module _ {P T : Type 0} (path : P → List Bool) (back : List Bool → P) (width : ℕ) where
  still : (s t : State T) (k : List Bool) → t ≡ s → get t.entries k ≡ get s.entries k
  still s t k e = ap (λ x. get x.entries k) e

  pub untouched : (s : State T) (call : Call P T) (reply : Reply P T) (t : State T) (k : List Bool) → touches path call k ≡ false → Step path back width s call reply t → get t.entries k ≡ get s.entries k
  untouched s (Insert q v) reply t k away (inl (r, e)) = ap (λ x. get x.entries k) e ∙ get-with_entry s.entries (path q) v k ∙ away_from (same_string k (path q)) _ _ away
  untouched s (Insert q v) reply t k away (inr (_, cause, r, e)) = still s t k e
  untouched s (Remove q) reply t k away (r, e) = ap (λ x. get x.entries k) e ∙ get-without_entry s.entries (path q) k ∙ away_from (same_string k (path q)) _ _ away
  untouched s (RemoveKeepTree q) reply t k away (r, e) = ap (λ x. get x.entries k) e ∙ get-without_entry s.entries (path q) k ∙ away_from (same_string k (path q)) _ _ away
  untouched s (RemoveChildren q) reply t k away (r, e) = ap (λ x. get x.entries k) e ∙ get-without_below s.entries (path q) k ∙ away_from (begins (path q) k) _ _ away
  untouched s (RetainAtLeast n) reply t k away (r, e) = ap (λ x. get x.entries k) e ∙ get-part_at_least s.entries n k ∙ at_least (nat_le n (length k)) _ _ away
  untouched s Clear reply t k away h = absurd (true≢false away)
  untouched s call reply t k away step = still s t k step.1

module _ {T : Type 0} where
  undone : (b : Bool) (m : Entries T) (s q : List Bool) (v : T) → same_string q s ≡ b → get m s ≡ None → cond b None (cond b (Some v) (get m q)) ≡ get m q
  undone true m s q v e none = sym (subst (λ x. get m x ≡ None) (sym (same_string-is q s e)) none)
  undone false m s q v e none = refl

  set_and_removed : (width : ℕ) (m : Entries T) (s : List Bool) (v : T) → AreWithin width m → length s ≤ width → get m s ≡ None → (without_entry (with_entry m s v) s ≡ m) × (nodes_without (with_needed (needed m) s) (with_entry m s v) s ≡ needed m)
  set_and_removed width m s v within short none =
      let same : without_entry (with_entry m s v) s ≡ m =
      same_entries (without_entry (with_entry m s v) s) m
      (λ q. get-without_entry (with_entry m s v) s q ∙ ap (cond (same_string q s) None) (get-with_entry m s v q) ∙ undone (same_string q s) m s q v refl none) in (
        same,
        (remove_law width (with_entry m s v) (with_needed (needed m) s) s (AreNodes-with_entry width m (needed m) s v (AreNodes-needed width m within) short)).stays_tidy (needed_insert m s v)
            ∙ ap needed same,
      )

module _ {P T : Type 0} (path : P → List Bool) (back : List Bool → P) (width : ℕ) where
  keeps : (s : State T) (call : Call P T) (reply : Reply P T) (t : State T) → Step path back width s call reply t → StepKeeps path back width s call reply t
  keeps s call reply t step = record {
    stays_map = λ fits h. stays_map path back width s call reply t fits step h;
    stays_tidy = λ other h tidy. stays_tidy path back width s call reply t other step h tidy;
    retained_tidy = λ n is. retained_tidy path back width s n reply t (subst (λ c. Step path back width s c reply t) is step);
    cleared_tidy = λ is. cleared_tidy path back width s reply t (subst (λ c. Step path back width s c reply t) is step);
    tidy_count = λ is tidy. tidy_count path back width s reply t (subst (λ c. Step path back width s c reply t) is step) tidy;
    untouched = λ k away. untouched path back width s call reply t k away step;
    refused_as_before = λ cause e. refused_as_before path back width s call cause t (subst (λ r. Step path back width s call r t) e step);
  }

  pub run_stays_map : (s : State T) (calls : List (Call P T)) (replies : List (Reply P T)) (t : State T) → All (CallFits (λ q. length (path q) ≤ width)) calls → Run path back width s calls replies t → IsMap width s → IsMap width t
  run_stays_map s [] replies t fit (none, e) h = subst (IsMap width) (sym e) h
  run_stays_map s (c ∷ cs) replies t fit (reply, later, mid, e, step, ran) h =
      run_stays_map mid cs later t (All-tail (CallFits (λ q. length (path q) ≤ width)) c cs fit) ran (stays_map path back width s c reply mid (All-head (CallFits (λ q. length (path q) ≤ width)) c cs fit) step h)

  pub run_stays_tidy : (s : State T) (calls : List (Call P T)) (replies : List (Reply P T)) (t : State T) → All (CallFits (λ q. length (path q) ≤ width)) calls → All (λ call. (q : P) → call ≢ RemoveKeepTree q) calls → Run path back width s calls replies t → IsMap width s → IsTidy s.entries s.nodes → IsTidy t.entries t.nodes
  run_stays_tidy s [] replies t fit other (none, e) h tidy = subst (λ x. IsTidy x.entries x.nodes) (sym e) tidy
  run_stays_tidy s (c ∷ cs) replies t fit other (reply, later, mid, e, step, ran) h tidy =
      run_stays_tidy mid cs later t (All-tail (CallFits (λ q. length (path q) ≤ width)) c cs fit) (All-tail (λ call. (q : P) → call ≢ RemoveKeepTree q) c cs other) ran
      (stays_map path back width s c reply mid (All-head (CallFits (λ q. length (path q) ≤ width)) c cs fit) step h)
      (stays_tidy path back width s c reply mid (All-head (λ call. (q : P) → call ≢ RemoveKeepTree q) c cs other) step h tidy)

pub step_laws : (P T : Type 0) → StepLaws P T
step_laws P T = record {
  of_step = keeps;
  run_stays_map = run_stays_map;
  run_stays_tidy = run_stays_tidy;
  runs_join = λ path back width. runs_join (Step path back width);
  set_and_removed = set_and_removed;
}
