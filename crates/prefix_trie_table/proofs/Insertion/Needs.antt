-- What an insertion needs of the two arrays, and which blocks it makes.
use Rattle.prefix_trie_table.proofs.Prelude.{◌≡◌, ℕ, ◌+◌, ◌-◌, ◌*◌, ◌/◌, ◌<◌, ◌≤◌, inl, inr, nat_lt, if◌then◌else◌, List, [], Bool, length, Option, None, Some, Result, Ok, Err, OnOk, ap, ◌∙◌, arith, le-ltb, Node, Reached, node_sizes, cell_sizes, HasSizes, child_need, value_need, Store, Keeps, MakesNone, Obtains, AreFree, tier_sizes, size_in, size_if_any, list_need, needs, missing_in, missing_slots, block_needed, rank, nodes_needed, cells_needed, Made, Makes, ObtainsBoth}
use Rattle.std.proofs.lemmas.Bool.{lt-ltb}
use Rattle.prefix_trie_table.proofs.Blocks.BySize.{sizes_up, slots_of-le, slots_of-none}
use Rattle.prefix_trie_table.proofs.Blocks.Preparations.{missing_slots-are}
use Rattle.prefix_trie_table.proofs.Blocks.Turnovers.{free_obtained}

-- ---- which of the two cases it is

choose : {A : Type 0} (x y : ℕ) (a b : A) → x < y → (if nat_lt x y then a else b) ≡ a
choose x y a b h = ap (λ t. if t then a else b) (lt-ltb x y h)

other : {A : Type 0} (x y : ℕ) (a b : A) → y ≤ x → (if nat_lt x y then a else b) ≡ b
other x y a b h = ap (λ t. if t then a else b) (le-ltb x y h)

module _ (here : Reached) (q : List Bool) where
  pub nodes_here : length q < 5 * here.level + 5 → nodes_needed here q ≡ []
  nodes_here h = choose (length q) (5 * here.level + 5) [] (needs (child_need (Some here.node)) (length q / 5 - (here.level + 1))) h

  pub nodes_below : 5 * here.level + 5 ≤ length q → nodes_needed here q ≡ needs (child_need (Some here.node)) (length q / 5 - (here.level + 1))
  nodes_below h = other (length q) (5 * here.level + 5) [] (needs (child_need (Some here.node)) (length q / 5 - (here.level + 1))) h

  pub cells_here : length q < 5 * here.level + 5 → cells_needed here q ≡ needs (value_need (Some here.node)) 0
  cells_here h = ap (λ o. needs o 0) (choose (length q) (5 * here.level + 5) (value_need (Some here.node)) (value_need None) h)

  pub cells_below : 5 * here.level + 5 ≤ length q → cells_needed here q ≡ needs (value_need None) 0
  cells_below h = ap (λ o. needs o 0) (other (length q) (5 * here.level + 5) (value_need (Some here.node)) (value_need None) h)

-- ---- what lists need, by nodes

pub child_list_need : (v : Store Node) (n : Node) (count : ℕ) → tier_sizes v.tiers ≡ node_sizes → count ≡ rank n.child_bitmap 32 → list_need v.tiers n.child_tier count ≡ child_need (Some n)
child_list_need v n count are same = ap (list_need v.tiers n.child_tier) same ∙ ap (λ ns. block_needed ns (size_if_any (rank n.child_bitmap 32) (size_in ns n.child_tier)) (rank n.child_bitmap 32)) are

pub value_list_need : {T : Type 0} (w : Store (Option T)) (n : Node) (count : ℕ) → tier_sizes w.tiers ≡ cell_sizes → count ≡ rank n.value_bitmap 32 →
    list_need w.tiers n.value_tier count ≡ value_need (Some n)
value_list_need w n count are same = ap (list_need w.tiers n.value_tier) same ∙ ap (λ ns. block_needed ns (size_if_any (rank n.value_bitmap 32) (size_in ns n.value_tier)) (rank n.value_bitmap 32)) are

pub first_list_need : {T : Type 0} (w : Store (Option T)) → tier_sizes w.tiers ≡ cell_sizes → list_need w.tiers 0 0 ≡ value_need None
first_list_need w are = ap (λ ns. block_needed ns None 0) are

-- ---- what `prepare` of an array leaves

module _ {S : Type 0} where
  -- if nothing is needed nothing is missing
  none_lacks : (v : Store S) → HasSizes v.tiers → missing_slots v [] ≡ 0
  none_lacks v has = missing_slots-are v [] (sizes_up v.tiers has) ∙ slots_of-none (tier_sizes v.tiers) (missing_in v []) (λ size. omega arith)

  -- if no block is made after, as many were made
  pub Made-then : (v w x : Store S) (needed : List ℕ) → Made v w needed → MakesNone w x → Made v x needed
  Made-then v w x needed made none = record {
    made_is = λ size. (let a = made.made_is size in let b = none.made size in omega (arith, a, b));
    longer = (let a = made.longer in let b = none.space.0 in omega (arith, a, b));
  }

  module _ {X E : Type 0} (L M : E → Type 0) (v w : Store S) (needed : List ℕ) (has : HasSizes v.tiers) where
    pub keeps_by : (r : Result X E) → Obtains L M r v w needed → Keeps v w
    keeps_by (Ok x) o = o.made.keeps
    keeps_by (Err e) o = o.made.2.keeps

    -- done, all that are needed are free
    pub free_by : (r : Result X E) → Obtains L M r v w needed → OnOk r (AreFree w.tiers needed)
    free_by (Ok x) o = free_obtained v w needed o.made
    free_by (Err e) o = tt

    pub made_by : (r : Result X E) → Obtains L M r v w needed → Makes r v w needed
    made_by (Ok x) o = record {
      made_is = o.made.made_is;
      longer = (let l = o.made.longer in let s = missing_slots-are v needed (sizes_up v.tiers has) in omega (arith, l, s));
    }
    made_by (Err e) o =
        let t = o.made.2 in
        let few = slots_of-le (tier_sizes v.tiers) o.made.0 (missing_in v needed) o.made.1 in
        let s = missing_slots-are v needed (sizes_up v.tiers has) in
        let l = t.longer in
        record {
          made_is = λ size. (let m = t.made_is size in let f = o.made.1 size in (omega (arith, m), omega (arith, m, f)));
          longer = (omega (arith, l), omega (arith, l, few, s));
        }

-- ---- and of both

module _ {T X E : Type 0} (L M : E → Type 0) (v v2 : Store Node) (w w2 : Store (Option T)) (cells : List ℕ) (node_tiers : HasSizes v.tiers) (cell_tiers : HasSizes w.tiers) where
  -- a block for values is refused
  pub cells_refused : (nodes : List ℕ) (e : E) → Obtains {X = X} L M (Err e) w w2 cells → ObtainsBoth {X = X} L M (Err e) v v w w2 nodes cells
  cells_refused nodes e o = record {
    nodes_made = record { made_is = λ size. (omega arith, omega arith); longer = (omega arith, omega arith) };
    cells_made = made_by L M w w2 cells cell_tiers (Err e) o;
    range = λ is. inr (o.range is);
    memory = λ is. inr (o.memory is);
    some_missing = (let l = o.some_missing in omega (arith, l));
  }

  -- no block for nodes is needed
  pub cells_alone : (r : Result X E) → Obtains L M r w w2 cells → ObtainsBoth L M r v v w w2 [] cells
  cells_alone (Ok x) o = record {
    nodes_made = record { made_is = λ size. omega arith; longer = (let n = none_lacks v node_tiers in omega (arith, n)) };
    cells_made = made_by L M w w2 cells cell_tiers (Ok x) o;
    range = tt;
    memory = tt;
    some_missing = tt;
  }
  cells_alone (Err e) o = cells_refused [] e o

  -- those for values were made
  pub nodes_then : (nodes : List ℕ) (r : Result X E) → Obtains L M r v v2 nodes → {Y : Type 0} (y : Y) → Obtains L M (Ok y) w w2 cells → ObtainsBoth L M r v v2 w w2 nodes cells
  nodes_then nodes (Ok x) o y made =
      record { nodes_made = made_by L M v v2 nodes node_tiers (Ok x) o; cells_made = made_by L M w w2 cells cell_tiers (Ok y) made; range = tt; memory = tt; some_missing = tt }
  nodes_then nodes (Err e) o y made =
      let m = made_by L M w w2 cells cell_tiers (Ok y) made in record {
        nodes_made = made_by L M v v2 nodes node_tiers (Err e) o;
        cells_made = record {
          made_is = λ size. (let i = m.made_is size in (omega (arith, i), omega (arith, i)));
          longer = (let l = m.longer in (omega (arith, l), omega (arith, l)));
        };
        range = λ is. inl (o.range is);
        memory = λ is. inl (o.memory is);
        some_missing = (let l = o.some_missing in omega (arith, l));
      }
