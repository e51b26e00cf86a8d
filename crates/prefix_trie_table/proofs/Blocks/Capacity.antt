-- How the capacity of an array grows over several steps. No fact about its blocks depends on it.
use Rattle.prefix_trie_table.proofs.Prelude.{◌≡◌, ℕ, ◌+◌, ◌/◌, ◌≤◌, ◌⊎◌, inl, inr, ⊎_elim, List, [], ◌∷◌, Option, refl, subst, arith, Node, Store, UsedBlock, Sound, NodesHold, CellsHold, node_sizes, cell_sizes, State, IsTable, IsTrie, All-nil, All-cons, All-head, All-tail}
use Rattle.prefix_trie_table.specs.Blocks.Growth.{Reserves, EachReserves, EachHolds, NoneExceeds}

pub Reserves-same : (before needed : ℕ) → Reserves before needed before
Reserves-same before needed = record { kept = λ h. refl; least = inl refl; most = omega arith }

-- the capacity never falls
pub never_falls : (before needed after : ℕ) → Reserves before needed after → before ≤ after
never_falls before needed after r =
    ⊎_elim (λ (same : after ≡ before). omega (arith, same)) (λ (more : before + before / 2 ≤ after). omega (arith, more)) r.least

pub Reserves-more : (before needed longest after : ℕ) → Reserves before needed after → needed ≤ longest → Reserves before longest after
Reserves-more before needed longest after r h = record {
  kept = λ fits. r.kept (omega (arith, fits, h));
  least = r.least;
  most = (let m = r.most in omega (arith, m, h));
}

pub Reserves-then : (before needed between longest after : ℕ) → Reserves before needed between → Reserves between longest after → needed ≤ longest → Reserves before longest after
Reserves-then before needed between longest after r s h = record {
  kept = λ fits. (let e = r.kept (omega (arith, fits, h)) in let f = s.kept (omega (arith, fits, e)) in omega (arith, e, f));
  least =
      ⊎_elim (λ (same : between ≡ before). subst (λ n. (after ≡ n) ⊎ (n + n / 2 ≤ after)) same s.least)
      (λ (more : before + before / 2 ≤ between). (let up = never_falls between longest after s in inr (omega (arith, more, up)))) r.least;
  most = (let m = r.most in let n = s.most in omega (arith, m, n, h));
}

-- ---- the same for each vector of an array

pub EachReserves-same : (before : List ℕ) (needed : ℕ) → EachReserves before needed before
EachReserves-same [] needed = tt
EachReserves-same (b ∷ bs) needed = (Reserves-same b needed, EachReserves-same bs needed)

pub EachReserves-more : (before : List ℕ) (needed longest : ℕ) (after : List ℕ) → EachReserves before needed after → needed ≤ longest → EachReserves before longest after
EachReserves-more [] needed longest [] r h = tt
EachReserves-more [] needed longest (a ∷ cs) r h = absurd r
EachReserves-more (b ∷ bs) needed longest [] r h = absurd r
EachReserves-more (b ∷ bs) needed longest (a ∷ cs) r h = (Reserves-more b needed longest a r.0 h, EachReserves-more bs needed longest cs r.1 h)

pub EachReserves-then : (before : List ℕ) (needed : ℕ) (between : List ℕ) (longest : ℕ) (after : List ℕ)
    → EachReserves before needed between → EachReserves between longest after → needed ≤ longest → EachReserves before longest after
EachReserves-then [] needed [] longest [] r s h = tt
EachReserves-then [] needed [] longest (a ∷ cs) r s h = absurd s
EachReserves-then [] needed (m ∷ ms) longest after r s h = absurd r
EachReserves-then (b ∷ bs) needed [] longest after r s h = absurd r
EachReserves-then (b ∷ bs) needed (m ∷ ms) longest [] r s h = absurd s
EachReserves-then (b ∷ bs) needed (m ∷ ms) longest (a ∷ cs) r s h =
    (Reserves-then b needed m longest a r.0 s.0 h, EachReserves-then bs needed ms longest cs r.1 s.1 h)

-- ---- an array in two vectors

pub EachHolds-both : (n a b : ℕ) → n ≤ a → n ≤ b → EachHolds n (a ∷ b ∷ [])
EachHolds-both n a b p q = All-cons (λ c. n ≤ c) a (b ∷ []) p (All-cons (λ c. n ≤ c) b [] q (All-nil (λ c. n ≤ c)))

pub EachHolds-first : (n a b : ℕ) → EachHolds n (a ∷ b ∷ []) → n ≤ a
EachHolds-first n a b h = All-head (λ c. n ≤ c) a (b ∷ []) h

pub EachHolds-second : (n a b : ℕ) → EachHolds n (a ∷ b ∷ []) → n ≤ b
EachHolds-second n a b h = All-head (λ c. n ≤ c) b [] (All-tail (λ c. n ≤ c) a (b ∷ []) h)

pub NoneExceeds-both : (n a b : ℕ) → a ≤ n → b ≤ n → NoneExceeds (a ∷ b ∷ []) n
NoneExceeds-both n a b p q = All-cons (λ c. c ≤ n) a (b ∷ []) p (All-cons (λ c. c ≤ n) b [] q (All-nil (λ c. c ≤ n)))

module _ {S : Type 0} where
  pub Sound-capacities : (vacant : S) (live : List (UsedBlock S)) (v : Store S) (n : List ℕ) → Sound vacant live v → Sound vacant live (record v { capacities = n })
  Sound-capacities vacant live v n s = record { blocks = s.blocks; of_tier = s.of_tier; counted = s.counted; held = s.held; vacated = s.vacated }

pub NodesHold-capacities : (sizes : List ℕ) (reading : List ℕ → Option Node) (paths : List (List ℕ)) (v : Store Node) (n : List ℕ) →
    NodesHold sizes reading paths v → NodesHold sizes reading paths (record v { capacities = n })
NodesHold-capacities sizes reading paths v n h = record {
  rooted = h.rooted;
  linked = h.linked;
  listed = h.listed;
  sound = Sound-capacities _ _ v n h.sound;
  first_is = h.first_is;
  sizes_are = h.sizes_are;
}

pub CellsHold-capacities : {T : Type 0} (sizes : List ℕ) (reading : List ℕ → Option Node) (values : List ℕ → ℕ → Option T) (paths : List (List ℕ)) (w : Store (Option T)) (n : List ℕ) →
    CellsHold sizes reading values paths w → CellsHold sizes reading values paths (record w { capacities = n })
CellsHold-capacities sizes reading values paths w n h = record {
  set_where = h.set_where;
  within = h.within;
  sound = Sound-capacities _ _ w n h.sound;
  sizes_are = h.sizes_are;
}

module _ {T : Type 0} (v : Store Node) (w : Store (Option T)) (n m : List ℕ) (count : ℕ) (shape : State T) where
  pub IsTable-capacities : IsTable v w count shape → IsTable (record v { capacities = n }) (record w { capacities = m }) count shape
  IsTable-capacities is = record {
    reading = is.reading;
    values = is.values;
    paths = is.paths;
    nodes = NodesHold-capacities node_sizes is.reading is.paths v n is.nodes;
    cells = CellsHold-capacities cell_sizes is.reading is.values is.paths w m is.cells;
    cells_first = is.cells_first;
    one_limit = is.one_limit;
    nodes_within = is.nodes_within;
    cells_within = is.cells_within;
    counted = is.counted;
    sized = is.sized;
  }

  pub IsTrie-capacities : (width : ℕ) → IsTrie width count v w shape → IsTrie width count (record v { capacities = n }) (record w { capacities = m }) shape
  IsTrie-capacities width is = record { table = IsTable-capacities is.table; shaped = is.shaped; within = is.within; nodes = is.nodes }
