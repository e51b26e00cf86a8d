-- The table's invariant, and the parts of it that calls on its fields require.
use Rattle.prefix_trie_table.proofs.Prelude.{◌≡◌, ℕ, List, Option, sym, subst, len, AreWithin, AreNodes, Layout, Space, State, Node, Store, SomeTable, SomeNodes, IsNodeAt, Deepest, entry_count, Contents, Shaped, IsTable, IsTrie}

-- the deepest node of a path is in its slot
abbrev pub deepest_there : {nodes : List ℕ → Option Node} {path : List ℕ} {depth slot : ℕ} {v : Store Node} → Deepest nodes path depth slot v → IsNodeAt nodes slot
deepest_there deep = record { path = _; node = deep.node; is_there = deep.is_there; is = deep.is }

module _ {T : Type 0} {v : Store Node} {w : Store (Option T)} where
  -- the arrays of a table hold its nodes and values
  abbrev pub some_table : {count : ℕ} {s : State T} → IsTable v w count s → SomeTable v w
  some_table t = record { reading = t.reading; values = t.values; paths = t.paths; holds = record { hold = t.nodes; cells = t.cells } }

  -- the table counts its values
  abbrev pub some_counted : {count : ℕ} {s : State T} → IsTable v w count s → (t : SomeTable v w) × (count ≡ entry_count t.reading t.paths)
  some_counted t = (some_table t, t.counted)

  -- the array of nodes holds the nodes
  abbrev pub some_nodes : SomeTable v w → SomeNodes v
  some_nodes t = record { reading = t.reading; paths = t.paths; hold = t.holds.hold }

-- a table whose keys fit and whose nodes can be those of its keys, as callers see it
module _ {T : Type 0} {space : Space} {layout : Layout} {build : List Node} (width count : ℕ) (v : Store Node) (w : Store (Option T)) (shape : Shaped v.slots w.slots) (is : IsTable v w count shape.0)
    (s : Contents T) (seen : record { entries = shape.0.entries; nodes = shape.0.nodes; space = space; layout = layout; build = build } ≡ s)
    (within : AreWithin width s.entries) (nodes : AreNodes width s.entries s.nodes) where
  pub trie_of : IsTrie width count v w shape.0
  trie_of = record {
    table = is;
    shaped = shape.1;
    within = subst (λ (x : Contents T). AreWithin width x.entries) (sym seen) within;
    nodes = subst (λ (x : Contents T). AreNodes width x.entries x.nodes) (sym seen) nodes;
  }

  -- the same, for the number of its entries
  pub sized_trie : (x : State T) × IsTrie width (len x.entries) v w x
  sized_trie = (shape.0, subst (λ n. IsTrie width n v w shape.0) is.sized trie_of)
