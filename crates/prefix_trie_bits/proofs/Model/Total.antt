-- Each fitting call has a step from every map, whatever its storage: for `total_laws`.
use Rattle.prefix_trie_bits.proofs.Prelude.{◌≡◌, ℕ, ◌+◌, ◌<◌, ◌≤◌, ◌⊎◌, inl, inr, Bool, true, false, cond, List, [], ◌∷◌, length, All, refl, sym, ap, ◌∙◌, subst, arith, true≢false, cases_Bool, cases_eq, cases_lt, All-head, All-tail, get, contains_key, len, empty_of_len, no_layout, with_entry, without_entry, without_below, part_at_least, no_entries, missing_node_slots, missing_cell_slots, has_node, with_needed, needed, root_alone, nodes_without, nodes_without_below, LeavesSpace, MayPassLimit, State, Call, Insert, Remove, RemoveKeepTree, RemoveChildren, RetainAtLeast, Clear, ListAll, ListFrom, Children, Cover, CallFits, Reply, Value, Done, Refused, Refusal, IndexRange, Step, Storage, empty_storage, HaveBlocks, LeavesStorage, InsertsInStorage, RefusesInStorage, StepInStorage, RunInStorage, is_memory, is_refusal, may_refuse, IsMap, IsStoredMap, GivesCause, TotalLaws, nil_from_length}
use Rattle.prefix_trie_bits.proofs.Model.Determined.{cause_of, no_refusal, refused, set}
use Rattle.prefix_trie_bits.proofs.Model.Storage.Insertions.{gained, gained_inserts}
use Rattle.prefix_trie_bits.proofs.Model.Storage.Removals.{new_have, many_left, value_left, one_left}
use Rattle.prefix_trie_bits.proofs.Model.Members.{from-not, has-empty}
use Rattle.prefix_trie_bits.proofs.Model.Pruning.{remove_law}
use Rattle.prefix_trie_bits.proofs.Model.Storage.Refusals.{refuses}
use Rattle.prefix_trie_bits.proofs.Model.Storage.Slots.{nodes_most, cells_most}
use Rattle.prefix_trie_bits.proofs.Model.Storage.StoredMaps.{one_gone, longer_left, outside_left, emptied_have, stays_stored}
use Rattle.prefix_trie_bits.proofs.Model.Steps.{stays_map}
use Rattle.prefix_trie_bits.proofs.Model.Storage.InsertedBlocks.{supplied, stored_have}

-- a map has at least one node, the root
some_node : {T : Type 0} (width : ℕ) (s : State T) → IsMap width s → 1 ≤ len s.nodes
some_node width s map = elim (cases_eq (len s.nodes) 0) as (λ _. 1 ≤ len s.nodes) [
  | inl none ↦ absurd (true≢false (sym map.are_nodes.rooted ∙ ap (λ n. has_node n []) (empty_of_len s.nodes none) ∙ has-empty []))
  | inr some ↦ grind (arith, some)
]

module _ {P T : Type 0} (path : P → List Bool) (back : List Bool → P) (width : ℕ) (s : State T × Storage) (whole : IsStoredMap width s) where
  -- the call has a step that is not a refusal, and it leads to a map with a correct storage
  abbrev Answers : Call P T → Type 0
  Answers call = (reply : Reply P T) × (t : State T × Storage) × StepInStorage path back width s call reply t × (is_refusal reply ≡ false) × IsStoredMap width t

  -- the call inserts a new key whose missing blocks would exceed the limit
  abbrev IsFull : Call P T → Type 0
  IsFull call = (q : P) × (v : T) × (call ≡ Insert q v) × (contains_key s.0.entries (path q) ≡ false) × GivesCause s (path q) IndexRange

  same_space : LeavesSpace (len s.0.nodes) s.1.space s.1.space
  same_space = record {
    same_limit = refl;
    nodes_within = whole.nodes_within;
    cells_within = whole.cells_within;
    nodes_grow = omega arith;
    cells_grow = omega arith;
  }

  -- a call that changes nothing has a step
  still : (call : Call P T) (reply : Reply P T) → Step path back width s.0 call reply s.0 → (reply ≡ Refused IndexRange → MayPassLimit s.1.space)
      → LeavesStorage path s.0 call reply s.0 s.1 s.1 → StepInStorage path back width s call reply s
  still call reply step range storage = record { step = step; space = same_space; index_range = range; storage = storage }

  asks : (call : Call P T) (reply : Reply P T) → is_refusal reply ≡ false → Step path back width s.0 call reply s.0 → LeavesStorage path s.0 call reply s.0 s.1 s.1 → Answers call
  asks call reply answers step storage = (reply, s, still call reply step (λ is. no_refusal (Refused IndexRange) reply refl answers (sym is)) storage, answers, whole)

  -- a call that changes the map and keeps the number of slots has a step
  changes : (call : Call P T) (reply : Reply P T) (t : State T) (after : Storage) → CallFits (λ q. length (path q) ≤ width) call → is_refusal reply ≡ false
      → Step path back width s.0 call reply t → after.space ≡ s.1.space → LeavesStorage path s.0 call reply t s.1 after → HaveBlocks t after.layout → Answers call
  changes call reply t after fits answers step same storage have = (
    reply,
    (t, after),
    record {
      step = step;
      space = subst (LeavesSpace (len s.0.nodes) s.1.space) (sym same) same_space;
      index_range = λ is. no_refusal (Refused IndexRange) reply refl answers (sym is);
      storage = storage;
    },
    answers,
    record {
      is_map = stays_map path back width s.0 call reply t fits step whole.is_map;
      have_blocks = have;
      root_fits = subst (λ r. 0 < r.limit) (sym same) whole.root_fits;
      nodes_within = subst (λ r. r.node_slots ≤ r.limit) (sym same) whole.nodes_within;
      cells_within = subst (λ r. r.cell_slots ≤ r.limit) (sym same) whole.cells_within;
    },
  )

  -- a call that empties the map has a step
  empties : (call : Call P T) (t : State T) → CallFits (λ q. length (path q) ≤ width) call → Step path back width s.0 call Done t
      → LeavesStorage path s.0 call Done t s.1 (empty_storage s.1) → HaveBlocks t no_layout → Answers call
  empties call t fits step storage have = (
    Done,
    (t, empty_storage s.1),
    record {
      step = step;
      space = record {
        same_limit = refl;
        nodes_within = (let h = whole.root_fits in omega (arith, h));
        cells_within = omega arith;
        nodes_grow = (let h = some_node width s.0 whole.is_map in omega (arith, h));
        cells_grow = omega arith;
      };
      index_range = λ is. no_refusal (Refused IndexRange) Done refl refl (sym is);
      storage = storage;
    },
    refl,
    record {
      is_map = stays_map path back width s.0 call Done t fits step whole.is_map;
      have_blocks = have;
      root_fits = whole.root_fits;
      nodes_within = (let h = whole.root_fits in omega (arith, h));
      cells_within = omega arith;
    },
  )

  -- ---- removals

  removes : (q : P) → length (path q) ≤ width → Answers (Remove q)
  removes q fits =
      let t : State T = record { entries = without_entry s.0.entries (path q); nodes = nodes_without s.0.nodes s.0.entries (path q) } in
      let left = one_gone path back width s whole q t (stays_map path back width s.0 (Remove q) (Value (get s.0.entries (path q))) t fits (refl, refl) whole.is_map) refl
      (remove_law width s.0.entries s.0.nodes (path q) whole.is_map.are_nodes).none_new in
      let l = one_left width s.0 t left (path q) s.1 whole.have_blocks refl refl in
      changes (Remove q) (Value (get s.0.entries (path q))) t l.0 fits refl (refl, refl) l.1 (l.2, l.3) l.4

  removes_keeping : (q : P) → length (path q) ≤ width → Answers (RemoveKeepTree q)
  removes_keeping q fits =
      let t : State T = record s.0 { entries = without_entry s.0.entries (path q) } in
      let left = one_gone path back width s whole q t (stays_map path back width s.0 (RemoveKeepTree q) (Value (get s.0.entries (path q))) t fits (refl, refl) whole.is_map) refl
      (λ p there. there) in
      let l = value_left width s.0 t left (path q) s.1 whole.have_blocks refl refl in
      changes (RemoveKeepTree q) (Value (get s.0.entries (path q))) t l.0 fits refl (refl, refl) l.1 (l.2, ap (λ r. r.node_slots) l.1, l.3, l.4) l.5

  retains : (n : ℕ) → Answers (RetainAtLeast n)
  retains n =
      let kept = part_at_least s.0.entries n in
      let t : State T = record { entries = kept; nodes = needed kept } in
      let left = longer_left path back width s whole n Done t (refl, refl) in
      let l = many_left width s.0 t left s.1 whole.have_blocks in
      changes (RetainAtLeast n) Done t l.0 tt refl (refl, refl) l.1 l.2 l.3

  -- the state after the removal of all entries that begin with q
  abbrev below : P → State T
  below q = record { entries = without_below s.0.entries (path q); nodes = nodes_without_below s.0.nodes s.0.entries (path q) }

  removes_below : (q : P) → length (path q) ≤ width → 0 < length (path q) → Answers (RemoveChildren q)
  removes_below q fits some =
      let left = outside_left path back width s whole q Done (below q) fits (refl, refl) in
      let l = many_left width s.0 (below q) left s.1 whole.have_blocks in
      changes (RemoveChildren q) Done (below q) l.0 fits refl (refl, refl) l.1 (λ e. absurd (omega (arith, e, some)), λ _. l.2) l.3

  removes_all : (q : P) → length (path q) ≤ width → length (path q) ≡ 0 → Answers (RemoveChildren q)
  removes_all q fits none =
      empties (RemoveChildren q) (below q) fits (refl, refl) (λ _. refl, λ some. absurd (omega (arith, none, some)))
      (emptied_have s.0 (path q) whole.is_map.are_nodes.rooted (nil_from_length (path q) none))

  clears : Answers Clear
  clears = empties Clear (record { entries = no_entries; nodes = root_alone }) tt (refl, refl) refl (new_have T)

  -- ---- insertions

  -- the state after a stored key is set again
  abbrev set_again : P → T → State T
  set_again q v = record { entries = with_entry s.0.entries (path q) v; nodes = s.0.nodes }

  abbrev set_new : P → T → State T
  set_new q v = record { entries = with_entry s.0.entries (path q) v; nodes = with_needed s.0.nodes (path q) }

  again_step : (q : P) (v : T) → contains_key s.0.entries (path q) ≡ true → Step path back width s.0 (Insert q v) (Value (get s.0.entries (path q))) (set_again q v)
  again_step q v stored = inl (refl, λ i. record { entries = with_entry s.0.entries (path q) v; nodes = cond (sym stored i) s.0.nodes (with_needed s.0.nodes (path q)) })

  new_step : (q : P) (v : T) → contains_key s.0.entries (path q) ≡ false → Step path back width s.0 (Insert q v) (Value (get s.0.entries (path q))) (set_new q v)
  new_step q v new = inl (refl, λ i. record { entries = with_entry s.0.entries (path q) v; nodes = cond (sym new i) s.0.nodes (with_needed s.0.nodes (path q)) })

  inserts_again : (q : P) (v : T) → length (path q) ≤ width → contains_key s.0.entries (path q) ≡ true → Answers (Insert q v)
  inserts_again q v fits stored = changes (Insert q v) (Value (get s.0.entries (path q))) (set_again q v) s.1 fits refl (again_step q v stored) refl
      (λ _. refl, λ old new. absurd (true≢false (sym stored ∙ new)), λ cause is. no_refusal (Refused cause) (Value _) refl refl (sym is))
      (stored_have width s.0 (path q) v s.1 whole.is_map stored whole.have_blocks)

  module _ (q : P) (v : T) (short : width ≤ 128) (fits : length (path q) ≤ width) where
    few_nodes : missing_node_slots s.0.nodes s.1.layout (path q) ≤ 56
    few_nodes = nodes_most width s.0 s.1.layout whole.is_map.are_nodes whole.have_blocks (path q) (omega (arith, short, fits))

    few_cells : missing_cell_slots s.0.entries s.1.layout (path q) ≤ 31
    few_cells = cells_most width s.0 s.1.layout whole.is_map.are_nodes whole.have_blocks (path q)

    inserts_new : contains_key s.0.entries (path q) ≡ false → s.1.space.node_slots + missing_node_slots s.0.nodes s.1.layout (path q) ≤ s.1.space.limit
        → s.1.space.cell_slots + missing_cell_slots s.0.entries s.1.layout (path q) ≤ s.1.space.limit → Answers (Insert q v)
    inserts_new new nodes cells =
        let is = stays_map path back width s.0 (Insert q v) (Value (get s.0.entries (path q))) (set_new q v) fits (new_step q v new) whole.is_map in
        let some = some_node width s.0 whole.is_map in (
          Value (get s.0.entries (path q)),
          (set_new q v, gained s.0 (path q) s.1),
          record {
            step = new_step q v new;
            space = record {
              same_limit = refl;
              nodes_within = nodes;
              cells_within = cells;
              nodes_grow = (let few = few_nodes in omega (arith, few, some));
              cells_grow = (let few = few_cells in omega (arith, few, some));
            };
            index_range = λ is. no_refusal (Refused IndexRange) (Value _) refl refl (sym is);
            storage = (
              λ stored. absurd (true≢false (sym stored ∙ new)),
              λ old _ _. gained_inserts s.0 (path q) s.1,
              λ cause is. no_refusal (Refused cause) (Value _) refl refl (sym is),
            );
          },
          refl,
          record {
            is_map = is;
            have_blocks = supplied width s.0 (path q) v whole.is_map s.1 (gained s.0 (path q) s.1) new is whole.have_blocks (gained_inserts s.0 (path q) s.1);
            root_fits = whole.root_fits;
            nodes_within = nodes;
            cells_within = cells;
          },
        )

    inserts : Answers (Insert q v) ⊎ IsFull (Insert q v)
    inserts = elim (cases_Bool (contains_key s.0.entries (path q))) as (λ _. Answers (Insert q v) ⊎ IsFull (Insert q v)) [
      | inl stored ↦ inl (inserts_again q v fits stored)
      | inr new ↦ elim (cases_lt s.1.space.limit (s.1.space.node_slots + missing_node_slots s.0.nodes s.1.layout (path q))) as (λ _. Answers (Insert q v) ⊎ IsFull (Insert q v)) [
        | inl past ↦ inr (q, v, refl, new, inl past)
        | inr nodes ↦ elim (cases_lt s.1.space.limit (s.1.space.cell_slots + missing_cell_slots s.0.entries s.1.layout (path q))) as (λ _. Answers (Insert q v) ⊎ IsFull (Insert q v)) [
          | inl past ↦ inr (q, v, refl, new, inr past)
          | inr cells ↦ inl (inserts_new new (omega (arith, nodes)) (omega (arith, cells)))
        ]
      ]
    ]

  -- ---- all calls

  -- each fitting call has a step that is not a refusal, or it inserts a new key without space
  decided : (call : Call P T) → width ≤ 128 → CallFits (λ q. length (path q) ≤ width) call → Answers call ⊎ IsFull call
  decided (Insert q v) short fits = inserts q v short fits
  decided (Remove q) short fits = inl (removes q fits)
  decided (RemoveKeepTree q) short fits = inl (removes_keeping q fits)
  decided (RemoveChildren q) short fits = inl (elim (cases_eq (length (path q)) 0) as (λ _. Answers (RemoveChildren q)) [
    | inl none ↦ removes_all q fits none
    | inr other ↦ removes_below q fits (grind (arith, other))
  ])
  decided (RetainAtLeast n) short fits = inl (retains n)
  decided Clear short fits = inl clears
  decided ListAll short fits = inl (asks ListAll _ refl (inl refl, refl) refl)
  decided (ListFrom q inclusive) short fits = inl (asks (ListFrom q inclusive) _ refl (inl refl, refl) refl)
  decided (Children q) short fits = inl (asks (Children q) _ refl (inl refl, refl) refl)
  decided (Cover q) short fits = inl (asks (Cover q) _ refl (inl refl, refl) refl)
  decided call short fits = inl (asks call _ refl (refl, refl) refl)

  cause_is : (a b : Refusal) → ◌≡◌ {A = Reply P T} (Refused a) (Refused b) → a ≡ b
  cause_is a b e = ap cause_of e

  refused_insertion : (q : P) (v : T) (cause : Refusal) → width ≤ 128 → length (path q) ≤ width → contains_key s.0.entries (path q) ≡ false → GivesCause s (path q) cause →
      StepInStorage path back width s (Insert q v) (Refused cause) s
  refused_insertion q v cause short fits new given = still (Insert q v) (Refused cause) (inr (new, cause, refl, refl))
      (λ is. passes (subst (GivesCause s (path q)) (cause_is cause IndexRange is) given)) (
        λ _. refl,
        λ old _ is. no_refusal (Refused cause) (Value old) refl refl is,
        λ c is. subst (λ x. RefusesInStorage s.0 (path q) x s.1 s.1) (cause_is cause c is) (refuses s (path q) whole.nodes_within whole.cells_within cause given),
      )
    where
      passes : GivesCause s (path q) IndexRange → MayPassLimit s.1.space
      passes (inl past) = inl (let few = few_nodes q v short fits in omega (arith, past, few))
      passes (inr past) = inr (let few = few_cells q v short fits in omega (arith, past, few))

  refused_list : (call : Call P T) (cause : Refusal) → is_memory cause ≡ true → Step path back width s.0 call (Refused cause) s.0 → LeavesStorage path s.0 call (Refused cause) s.0 s.1 s.1 →
      StepInStorage path back width s call (Refused cause) s
  refused_list call cause memory step storage = still call (Refused cause) step (λ is. absurd (true≢false (sym memory ∙ ap is_memory (cause_is cause IndexRange is)))) storage

  refused_call : (call : Call P T) (cause : Refusal) → width ≤ 128 → CallFits (λ q. length (path q) ≤ width) call → may_refuse path s.0 call cause ≡ true
      → ((q : P) (v : T) → call ≡ Insert q v → GivesCause s (path q) cause) → StepInStorage path back width s call (Refused cause) s
  refused_call (Insert q v) cause short fits may given = refused_insertion q v cause short fits (from-not (contains_key s.0.entries (path q)) may) (given q v refl)
  refused_call ListAll cause short fits may given = refused_list ListAll cause may ((refused path back width s.0 ListAll cause s.0).1 (may, refl)) refl
  refused_call (ListFrom q inclusive) cause short fits may given = refused_list (ListFrom q inclusive) cause may ((refused path back width s.0 (ListFrom q inclusive) cause s.0).1 (may, refl)) refl
  refused_call (Children q) cause short fits may given = refused_list (Children q) cause may ((refused path back width s.0 (Children q) cause s.0).1 (may, refl)) refl
  refused_call (Cover q) cause short fits may given = refused_list (Cover q) cause may ((refused path back width s.0 (Cover q) cause s.0).1 (may, refl)) refl
  refused_call call cause short fits may given = absurd (true≢false (sym may))

  answered : (call : Call P T) → width ≤ 128 → CallFits (λ q. length (path q) ≤ width) call
      → ((q : P) (v : T) → call ≡ Insert q v → contains_key s.0.entries (path q) ≡ false → GivesCause s (path q) IndexRange → ⊥) → Answers call
  answered call short fits space = elim (decided call short fits) as (λ _. Answers call) [
    | inl answers ↦ answers
    | inr full ↦ absurd (space full.0 full.1 full.2 full.3 full.4)
  ]

  -- so each fitting call has a step
  stepped : (call : Call P T) → width ≤ 128 → CallFits (λ q. length (path q) ≤ width) call →
      (reply : Reply P T) × (t : State T × Storage) × StepInStorage path back width s call reply t × IsStoredMap width t
  stepped call short fits = elim (decided call short fits) as (λ _. (reply : Reply P T) × (t : State T × Storage) × StepInStorage path back width s call reply t × IsStoredMap width t) [
    | inl answers ↦ (answers.0, answers.1, answers.2, answers.4)
    | inr (q, v, is, new, cause) ↦ (
      Refused IndexRange,
      s,
      subst (λ c. StepInStorage path back width s c (Refused IndexRange) s) (sym is)
          (refused_insertion q v IndexRange short (subst (CallFits (λ x. length (path x) ≤ width)) is fits) new cause),
      whole,
    )
  ]

module _ {P T : Type 0} (path : P → List Bool) (back : List Bool → P) (width : ℕ) where
  runs : (s : State T × Storage) (calls : List (Call P T)) → width ≤ 128 → IsStoredMap width s → All (CallFits (λ q. length (path q) ≤ width)) calls →
      (replies : List (Reply P T)) × (t : State T × Storage) × RunInStorage path back width s calls replies t × IsStoredMap width t
  runs s [] short whole fit = ([], s, (refl, refl), whole)
  runs s (call ∷ calls) short whole fit =
      let one = stepped path back width s whole call short (All-head (CallFits (λ q. length (path q) ≤ width)) call calls fit) in
      let rest = runs one.1 calls short one.3 (All-tail (CallFits (λ q. length (path q) ≤ width)) call calls fit) in
      (one.0 ∷ rest.0, rest.1, (one.0, rest.0, one.1, refl, one.2, rest.2), rest.3)

  -- an insertion without space has no step except a refusal
  full : (s : State T × Storage) (q : P) (v : T) (reply : Reply P T) (t : State T × Storage) → contains_key s.0.entries (path q) ≡ false → GivesCause s (path q) IndexRange →
      StepInStorage path back width s (Insert q v) reply t → is_refusal reply ≡ true
  full s q v reply t new cause h = elim (cases_Bool (is_refusal reply)) as (λ _. is_refusal reply ≡ true) [
    | inl refusal ↦ refusal
    | inr answers ↦ absurd (past cause (h.storage.1 _ new (set path back width s.0 q v reply t.0 answers h.step).0))
  ]
    where
      past : GivesCause s (path q) IndexRange → InsertsInStorage s.0 (path q) s.1 t.1 → ⊥
      past (inl nodes) left = (let made = left.node_slots in let within = h.space.nodes_within in let limit = h.space.same_limit in omega (arith, nodes, made, within, limit))
      past (inr cells) left = (let made = left.cell_slots in let within = h.space.cells_within in let limit = h.space.same_limit in omega (arith, cells, made, within, limit))

pub total_laws : (P T : Type 0) → TotalLaws P T
total_laws P T = record {
  answered = λ path back width s call short whole. answered path back width s whole call short;
  refused = λ path back width s call cause short whole. refused_call path back width s whole call cause short;
  full = full;
  runs = runs;
  stays = λ path back width s call reply t whole. stays_stored path back width s whole call reply t;
}
