-- A plain, slow model that computes, on sorted lists of entries and nodes. Each of its steps is a step of the model.
use Rattle.prefix_trie_facts.proofs.Prelude.{◌≡◌, true≢false, ℕ, ◌^◌, ◌==◌, Bool, true, false, cond, not, ◌&&◌, ◌||◌, List, [], ◌∷◌, length, map, filter, flat_map, nat_le, Option, Some, None, is_some, is_lt, is_le, refl, sym, ap, ap₂, ◌∙◌, subst, inl, inr, list_any, list_all, FinMap, entries, contains_key, retain_keys, keys, empty, get-entries, len-entries, entries-insert, find, put, begins, listing_cmp, listing_total, same_string, Entries, no_entries, with_entry, without_entry, without_below, part_at_least, prefix_pairs, first_item, last_item, prefix_pair, Nodes, has_node, is_root, root_alone, with_nodes, nodes_above, home, needed, is_pruned, pruned, nodes_not_below, nodes_without, nodes_without_below, State, Call, Insert, Get, Lpm, Spm, Remove, RemoveKeepTree, RemoveChildren, RetainAtLeast, Clear, Len, NodeCount, AddressCount, ListAll, ListFrom, Children, Cover, Reply, Value, Match, Done, Count, Addresses, Items, Refused, Refusal, Step, Run}
use Rattle.prefix_trie_bits.proofs.Model.SortedListings.{entries-retained, entries-removed, entries-empty}
use Rattle.prefix_trie_bits.proofs.Model.Halves.{halves, covered-halves}

abbrev pub Marks : Type 0
Marks = List (List Bool × Unit {0})

abbrev pub marked : Marks → List (List Bool) → Marks
marked ns [] = ns
marked ns (s ∷ ss) = put listing_cmp s tt (marked ns ss)

module _ {X : Type 0} where
  abbrev pub keys_of : List (List Bool × X) → List (List Bool)
  keys_of es = map (λ e. e.0) es

abbrev pub root_mark : Marks
root_mark = ([], tt) ∷ []

abbrev pub needed_marks : List (List Bool) → Marks
needed_marks ks = marked root_mark (flat_map nodes_above ks)

abbrev pub goes_of : List (List Bool) → List (List Bool) → List Bool → List Bool → Bool
goes_of ns ks h t =
    not (list_any (λ s. begins t s) ks) && (begins t h && (not (is_root t) && list_all (λ u. not (begins t u) || begins u h) ns))

abbrev pub pruned_marks : Marks → List (List Bool) → List Bool → Marks
pruned_marks ns ks q = cond (is_some (find listing_cmp (home q) ns)) (filter (λ e. not (goes_of (keys_of ns) ks (home q) e.0)) ns) ns

abbrev pub marks_not_below : Marks → List Bool → Marks
marks_not_below ns q = filter (λ e. not (begins q e.0) || same_string e.0 (home q)) ns

pub record Shows {T : Type 0} (s : State T) (es : List (List Bool × T)) (ns : Marks) : Type 0 where
  pub of_entries : entries s.entries ≡ es
  pub of_nodes : entries s.nodes ≡ ns

pub record Played (P T : Type 0) : Type 0 where
  pub reply : Reply P T
  pub entries : List (List Bool × T)
  pub nodes : Marks

module _ {P T : Type 0} (path : P → List Bool) (back : List Bool → P) (width : ℕ) where
  abbrev pub answered : Reply P T → List (List Bool × T) → Marks → Played P T
  answered r es ns = record { reply = r; entries = es; nodes = ns }

  -- the reply to a call and the state that it leaves; if a cause is given, the insertion of a new key is refused for
  -- it
  abbrev pub play : List (List Bool × T) → Marks → Option Refusal → Call P T → Played P T
  play es ns fate (Insert q v) =
      elim (is_some (find listing_cmp (path q) es)) as (λ _. Played P T) [
        | true ↦ answered (Value (find listing_cmp (path q) es)) (put listing_cmp (path q) v es) ns
        | false ↦ elim fate as (λ _. Played P T) [
          | None ↦ answered (Value None) (put listing_cmp (path q) v es) (marked ns (nodes_above (path q)))
          | Some cause ↦ answered (Refused cause) es ns
        ]
      ]
  play es ns fate (Get q) = answered (Value (find listing_cmp (path q) es)) es ns
  play es ns fate (Lpm q) = answered (Match (prefix_pair back (last_item (filter (λ e. begins e.0 (path q)) es)))) es ns
  play es ns fate (Spm q) = answered (Match (prefix_pair back (first_item (filter (λ e. begins e.0 (path q)) es)))) es ns
  play es ns fate (Remove q) =
      let left = filter (λ e. not (same_string e.0 (path q))) es in
      answered (Value (find listing_cmp (path q) es)) left (pruned_marks ns (keys_of left) (path q))
  play es ns fate (RemoveKeepTree q) = answered (Value (find listing_cmp (path q) es)) (filter (λ e. not (same_string e.0 (path q))) es) ns
  play es ns fate (RemoveChildren q) =
      let left = filter (λ e. not (begins (path q) e.0)) es in
      answered Done left (cond (is_some (find listing_cmp (home (path q)) ns)) (pruned_marks (marks_not_below ns (path q)) (keys_of left) (path q)) ns)
  play es ns fate (RetainAtLeast n) =
      let left = filter (λ e. nat_le n (length e.0)) es in
      answered Done left (needed_marks (keys_of left))
  play es ns fate Clear = answered Done [] root_mark
  play es ns fate Len = answered (Count (length es)) es ns
  play es ns fate NodeCount = answered (Count (length ns)) es ns
  play es ns fate AddressCount = answered (Addresses (cond (halves width (keys_of es) == 2 ^ width) None (Some (halves width (keys_of es))))) es ns
  play es ns fate ListAll = answered (Items (prefix_pairs back es)) es ns
  play es ns fate (ListFrom q inclusive) =
      answered (Items (prefix_pairs back (cond inclusive (filter (λ e. is_le (listing_cmp (path q) e.0)) es) (filter (λ e. is_lt (listing_cmp (path q) e.0)) es)))) es ns
  play es ns fate (Children q) = answered (Items (prefix_pairs back (filter (λ e. begins (path q) e.0) es))) es ns
  play es ns fate (Cover q) = answered (Items (prefix_pairs back (filter (λ e. begins e.0 (path q)) es))) es ns

  -- the replies to a list of calls, each with its cause of refusal if it has one, and the last state
  abbrev pub play_all : List (List Bool × T) → Marks → List (Call P T × Option Refusal) → List (Reply P T) × List (List Bool × T) × Marks
  play_all es ns [] = ([], es, ns)
  play_all es ns (c ∷ cs) = let r = play es ns c.1 c.0 in let rest = play_all r.entries r.nodes cs in (r.reply ∷ rest.0, rest.1, rest.2)

  abbrev pub calls_of : List (Call P T × Option Refusal) → List (Call P T)
  calls_of cs = map (λ c. c.0) cs

none-of : {X : Type 0} (o : Option X) → is_some o ≡ false → o ≡ None
none-of None e = refl
none-of (Some x) e = absurd (true≢false e)

marked-is : (n : Nodes) (ss : List (List Bool)) → entries (with_nodes n ss) ≡ marked (entries n) ss
marked-is n [] = refl
marked-is n (s ∷ ss) = entries-insert listing_total (with_nodes n ss) s tt ∙ ap (put listing_cmp s tt) (marked-is n ss)

root-is : entries root_alone ≡ root_mark
root-is = entries-insert listing_total empty [] tt ∙ ap (put listing_cmp [] tt) (entries-empty (Unit {0}))

pub not_below-is : (n : Nodes) (q : List Bool) → entries (nodes_not_below n q) ≡ marks_not_below (entries n) q
not_below-is n q = entries-retained n (λ t. not (begins q t) || same_string t (home q))

pub cond-entries : {X : Type 0} (b : Bool) (m n : FinMap listing_cmp X) → entries (cond b m n) ≡ cond b (entries m) (entries n)
cond-entries true m n = refl
cond-entries false m n = refl

pub has-is : {X : Type 0} (m : FinMap listing_cmp X) (q : List Bool) → contains_key m q ≡ is_some (find listing_cmp q (entries m))
has-is m q = ap is_some (get-entries m q)

module _ {T : Type 0} where
  pub needed-is : (m : Entries T) → entries (needed m) ≡ needed_marks (keys m)
  needed-is m = marked-is root_alone (flat_map nodes_above (keys m)) ∙ ap (λ ns. marked ns (flat_map nodes_above (keys m))) root-is

  pub pruned-is : (n : Nodes) (m : Entries T) (q : List Bool) → entries (pruned n m q) ≡ pruned_marks (entries n) (keys m) q
  pruned-is n m q =
      cond-entries (has_node n (home q)) (retain_keys n (λ t. not (is_pruned n m (home q) t))) n
      ∙ ap₂ (λ b es. cond b es (entries n)) (has-is n (home q)) (entries-retained n (λ t. not (is_pruned n m (home q) t)))

  pub nodes_without_below-is : (n : Nodes) (m : Entries T) (q : List Bool) → entries (nodes_without_below n m q) ≡ cond (is_some (find listing_cmp (home q) (entries n))) (pruned_marks (marks_not_below (entries n) q) (keys_of (filter (λ e. not (begins q e.0)) (entries m))) q) (entries n)
  nodes_without_below-is n m q =
      cond-entries (has_node n (home q)) (pruned (nodes_not_below n q) (without_below m q) q) n
      ∙ ap₂ (λ b es. cond b es (entries n)) (has-is n (home q))
      (pruned-is (nodes_not_below n q) (without_below m q) q
      ∙ ap₂ (λ ns es. pruned_marks ns (keys_of es) q) (not_below-is n q) (entries-retained m (λ k. not (begins q k))))

module _ {P T : Type 0} (path : P → List Bool) (back : List Bool → P) (width : ℕ) where
  pub record Steps (s : State T) (call : Call P T) (r : Played P T) : Type 0 where
    pub next : State T
    pub step : Step path back width s call r.reply next
    pub shows : Shows next r.entries r.nodes

  stays : (s : State T) (es : List (List Bool × T)) (ns : Marks) (call : Call P T) (reply : Reply P T) → Shows s es ns → Step path back width s call reply s → Steps s call (record { reply = reply; entries = es; nodes = ns })
  stays s es ns call reply shows step = record { next = s; step = step; shows = shows }

  insert_step : (s : State T) (fate : Option Refusal) (q : P) (v : T) → Steps s (Insert q v) (play path back width (entries s.entries) (entries s.nodes) fate (Insert q v))
  insert_step s fate q v =
      let es = entries s.entries in
      let value = get-entries s.entries (path q) in
      let put_is = entries-insert listing_total s.entries (path q) v in
      elim (is_some (find listing_cmp (path q) es)) as (λ b. is_some (find listing_cmp (path q) es) ≡ b → Steps s (Insert q v) (elim b as (λ _. Played P T) [
        | true ↦ answered path back width (Value (find listing_cmp (path q) es)) (put listing_cmp (path q) v es) (entries s.nodes)
        | false ↦ elim fate as (λ _. Played P T) [
          | None ↦ answered path back width (Value None) (put listing_cmp (path q) v es) (marked (entries s.nodes) (nodes_above (path q)))
          | Some cause ↦ answered path back width (Refused cause) es (entries s.nodes)
        ]
      ])) [
        | true ↦ λ e. record {
          next = record { entries = with_entry s.entries (path q) v; nodes = s.nodes };
          step = inl (ap Value (sym value), λ i. record { entries = with_entry s.entries (path q) v; nodes = cond (sym (has-is s.entries (path q) ∙ e) i) s.nodes (with_nodes s.nodes (nodes_above (path q))) });
          shows = record { of_entries = put_is; of_nodes = refl };
        }
        | false ↦ λ e. elim fate as (λ f. Steps s (Insert q v) (elim f as (λ _. Played P T) [
          | None ↦ answered path back width (Value None) (put listing_cmp (path q) v es) (marked (entries s.nodes) (nodes_above (path q)))
          | Some cause ↦ answered path back width (Refused cause) es (entries s.nodes)
        ])) [
          | None ↦ record {
            next = record { entries = with_entry s.entries (path q) v; nodes = with_nodes s.nodes (nodes_above (path q)) };
            step = inl (ap Value (sym (value ∙ none-of (find listing_cmp (path q) es) e)), λ i. record { entries = with_entry s.entries (path q) v; nodes = cond (sym (has-is s.entries (path q) ∙ e) i) s.nodes (with_nodes s.nodes (nodes_above (path q))) });
            shows = record { of_entries = put_is; of_nodes = marked-is s.nodes (nodes_above (path q)) };
          }
          | Some cause ↦ record {
            next = s;
            step = inr (has-is s.entries (path q) ∙ e, cause, refl, refl);
            shows = record { of_entries = refl; of_nodes = refl };
          }
        ]
      ] refl

  here : (s : State T) → Shows s (entries s.entries) (entries s.nodes)
  here s = record { of_entries = refl; of_nodes = refl }

  pub step_at : (s : State T) (fate : Option Refusal) (call : Call P T) → Steps s call (play path back width (entries s.entries) (entries s.nodes) fate call)
  step_at s fate (Insert q v) = insert_step s fate q v
  step_at s fate (Get q) = stays s _ _ (Get q) _ (here s) (ap Value (sym (get-entries s.entries (path q))), refl)
  step_at s fate (Lpm q) = stays s _ _ (Lpm q) _ (here s) (refl, refl)
  step_at s fate (Spm q) = stays s _ _ (Spm q) _ (here s) (refl, refl)
  step_at s fate (Remove q) = record {
    next = record { entries = without_entry s.entries (path q); nodes = nodes_without s.nodes s.entries (path q) };
    step = (ap Value (sym (get-entries s.entries (path q))), refl);
    shows = record {
      of_entries = entries-removed s.entries (path q);
      of_nodes = pruned-is s.nodes (without_entry s.entries (path q)) (path q) ∙ ap (λ es. pruned_marks (entries s.nodes) (keys_of es) (path q)) (entries-removed s.entries (path q));
    };
  }
  step_at s fate (RemoveKeepTree q) = record {
    next = record s { entries = without_entry s.entries (path q) };
    step = (ap Value (sym (get-entries s.entries (path q))), refl);
    shows = record { of_entries = entries-removed s.entries (path q); of_nodes = refl };
  }
  step_at s fate (RemoveChildren q) = record {
    next = record { entries = without_below s.entries (path q); nodes = nodes_without_below s.nodes s.entries (path q) };
    step = (refl, refl);
    shows = record {
      of_entries = entries-retained s.entries (λ k. not (begins (path q) k));
      of_nodes = nodes_without_below-is s.nodes s.entries (path q);
    };
  }
  step_at s fate (RetainAtLeast n) = record {
    next = record { entries = part_at_least s.entries n; nodes = needed (part_at_least s.entries n) };
    step = (refl, refl);
    shows = record {
      of_entries = entries-retained s.entries (λ k. nat_le n (length k));
      of_nodes = needed-is (part_at_least s.entries n) ∙ ap (λ es. needed_marks (keys_of es)) (entries-retained s.entries (λ k. nat_le n (length k)));
    };
  }
  step_at s fate Clear = record {
    next = record { entries = no_entries; nodes = root_alone };
    step = (refl, refl);
    shows = record { of_entries = entries-empty T; of_nodes = root-is };
  }
  step_at s fate Len = stays s _ _ Len _ (here s) (ap Count (sym (len-entries s.entries)), refl)
  step_at s fate NodeCount = stays s _ _ NodeCount _ (here s) (ap Count (sym (len-entries s.nodes)), refl)
  step_at s fate AddressCount = stays s _ _ AddressCount _ (here s) (ap (λ n. Addresses (cond (n == 2 ^ width) None (Some n))) (sym (covered-halves width (keys s.entries))), refl)
  step_at s fate call = stays s _ _ call _ (here s) (inl refl, refl)

  -- the plain model's replies to a list of calls are a run of the model that leads to its last state
  abbrev pub Ran : State T → List (Call P T × Option Refusal) → List (List Bool × T) × Marks → Type 0
  Ran s cs p =
      (t : State T) × Run path back width s (calls_of path back width cs) (play_all path back width p.0 p.1 cs).0 t × Shows t (play_all path back width p.0 p.1 cs).1 (play_all path back width p.0 p.1 cs).2

  run_at : (s : State T) (cs : List (Call P T × Option Refusal)) → Ran s cs (entries s.entries, entries s.nodes)
  run_at s [] = (s, (refl, refl), here s)
  run_at s (c ∷ cs) =
      let r = play path back width (entries s.entries) (entries s.nodes) c.1 c.0 in
      let one = step_at s c.1 c.0 in
      let rest : Ran one.next cs (r.entries, r.nodes) = subst (Ran one.next cs) (λ i. (one.shows.of_entries i, one.shows.of_nodes i)) (run_at one.next cs) in
      (rest.0, (r.reply, (play_all path back width r.entries r.nodes cs).0, one.next, refl, one.step, rest.1), rest.2)

  -- the same from a new map
  pub from_new : (cs : List (Call P T × Option Refusal)) → Ran (record { entries = no_entries; nodes = root_alone }) cs ([], root_mark)
  from_new cs =
      let new : State T = record { entries = no_entries; nodes = root_alone } in
      subst (Ran new cs) (λ i. (entries-empty T i, root-is i)) (run_at new cs)
