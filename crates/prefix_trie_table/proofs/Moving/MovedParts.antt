-- All values whose strings begin with a bit string are moved into a second table, one after
-- another.
use Rattle.prefix_trie_table.proofs.Prelude.{◌≡◌, ℕ, Bool, true, false, cond, List, [], ◌∷◌, Option, None, refl, sym, ap, ◌∙◌, subst, get, len, entries, begins, CallableOnEachEntry, Entries, part_below, listing, listing_below, State, same_entries, get-part_below, entries-retained, Node, Spot, filled_with, split_off, Awaits, AwaitsNext, HasCome, AsksUpTo, IsSecond, Store, IsTrie, Tree, IsStack, pending}
use Rattle.prefix_trie_table.proofs.Moving.FilledTables.{second_trie}

module _ {T : Type 0} (m : Entries T) (q : List Bool) where
  -- the entries that begin with q are the listing of what is split off
  pub part_listed : listing (part_below m q) ≡ listing_below m q
  part_listed = entries-retained m (λ s. begins q s)

  same_part : part_below (part_below m q) q ≡ part_below m q
  same_part =
      same_entries (part_below (part_below m q) q) (part_below m q)
      (λ t. get-part_below (part_below m q) q t ∙ ap (λ o. cond (begins q t) o None) (get-part_below m q t) ∙ twice (begins q t) (get m t) ∙ sym (get-part_below m q t))
    where
      twice : (b : Bool) (o : Option T) → cond b (cond b o None) None ≡ cond b o None
      twice true o = refl
      twice false o = refl

  -- and q begins all of that
  all_below : listing_below (part_below m q) q ≡ listing_below m q
  all_below = sym (entries-retained (part_below m q) (λ s. begins q s)) ∙ ap (λ (n : Entries T). listing n) same_part ∙ part_listed

module _ {K T : Type 0} (IsKey : K → Type 0) (bits : K → List Bool) (width : ℕ) where
  -- the arrays are those that were built, with the values that have come, and wait for the rest
  pub record Fills (shape : State T) (built : Store Node) (vacant : Store (Option T)) (v : Store Node) (w : Store (Option T)) (key : K) (ps : List Spot)
      (rest : List (List Bool × T)) : Type 0 where
    pub nodes : v ≡ built
    pub cells : w ≡ record vacant { slots = w.slots }
    pub awaits : Awaits IsKey bits width shape v w key ps rest

  -- one value more
  pub fills_next : (shape : State T) (built : Store Node) (vacant : Store (Option T)) (v v2 : Store Node) (w w2 : Store (Option T)) (key : K) (ps : List Spot) (key2 : K) (ps2 : List Spot)
      (e : List Bool × T) (rest : List (List Bool × T)) → Fills shape built vacant v w key ps (e ∷ rest) → HasCome IsKey bits width v v2 w w2 key ps key2 ps2 e.0 e.1 →
      Fills shape built vacant v2 w2 key2 ps2 rest
  fills_next shape built vacant v v2 w w2 key ps key2 ps2 e rest h came = record {
    nodes = came.nodes ∙ h.nodes;
    cells = came.cells ∙ ap (λ (x : Store (Option T)). record x { slots = w2.slots }) h.cells;
    awaits = came.goes_on shape rest h.awaits;
  }

  -- before the first
  fills_start : (count : ℕ) (v : Store Node) (w : Store (Option T)) (s : State T) → IsTrie width count v w s → (q : List Bool) (built : Store Node) (vacant : Store (Option T)) →
      IsSecond q v built vacant → (key : K) (ps : List Spot) → IsStack width built.slots (bits key) ps →
      ((t : Tree T) → IsTrie width t.count built t.cells t.shape → pending t.shape.entries (bits key) ps ≡ listing_below t.shape.entries q) →
      Fills (split_off s q) built vacant built vacant key ps (listing_below s.entries q)
  fills_start count v w s trie q built vacant second key ps stack rest =
      let whole = second_trie width count v w s trie q built vacant second in
      record {
        nodes = refl;
        cells = refl;
        awaits = record {
          trie = subst (λ es. IsTrie width (len (part_below s.entries q)) built (filled_with built.slots es vacant) (split_off s q)) (part_listed s.entries q) whole;
          stack = stack;
          come = rest (record {
            count = len (part_below s.entries q);
            cells = filled_with built.slots (entries (part_below s.entries q)) vacant;
            shape = split_off s q;
          }) whole ∙ all_below s.entries q;
        };
      }

  -- ---- a test that returns false for each entry, whose value comes then

  module _ {F : Type 0} (nodes : F → Store Node) (cells : F → Store (Option T)) (key : F → K) (spots : F → List Spot) where
    abbrev Waits : F → List Bool → T → Type 0
    Waits f q x = AwaitsNext IsKey bits width (nodes f) (cells f) (key f) (spots f) q x

    abbrev Takes : F → List Bool → T → Bool → F → Type 0
    Takes f q x answer g = (answer ≡ false) × HasCome IsKey bits width (nodes f) (nodes g) (cells f) (cells g) (key f) (spots f) (key g) (spots g) q x

    module _ (shape : State T) (built : Store Node) (vacant : Store (Option T)) where
      abbrev FillsFrom : F → List (List Bool × T) → Type 0
      FillsFrom f rest = Fills shape built vacant (nodes f) (cells f) (key f) (spots f) rest

      -- it may be called on each
      may_fill : (f : F) (es : List (List Bool × T)) → FillsFrom f es → CallableOnEachEntry Takes Waits f es
      may_fill f [] h = tt
      may_fill f (e ∷ es) h = (
        record { shape = shape; later = es; awaits = h.awaits },
        λ b g asked. may_fill g es
            (fills_next shape built vacant (nodes f) (nodes g) (cells f) (cells g) (key f) (spots f) (key g) (spots g) e es h asked.1),
      )

      -- and once it was, no value is missing
      all_filled : (f g : F) (es : List (List Bool × T)) → FillsFrom f es → AsksUpTo Takes f es g → FillsFrom g []
      all_filled f g [] h same = subst (λ x. FillsFrom x []) (sym same) h
      all_filled f g (e ∷ es) h asked =
          all_filled asked.1 g es
          (fills_next shape built vacant (nodes f) (nodes asked.1) (cells f) (cells asked.1) (key f) (spots f) (key asked.1) (spots asked.1) e es h asked.2.1) asked.3

    -- from the start, where nothing has come and everything that begins with q is to come
    module _ (count : ℕ) (v : Store Node) (w : Store (Option T)) (s : State T) (trie : IsTrie width count v w s) (q : List Bool) (f : F)
        (second : IsSecond q v (nodes f) (cells f)) (stack : IsStack width (nodes f).slots (bits (key f)) (spots f))
        (rest : (t : Tree T) → IsTrie width t.count (nodes f) t.cells t.shape → pending t.shape.entries (bits (key f)) (spots f) ≡ listing_below t.shape.entries q) where
      start : Fills (split_off s q) (nodes f) (cells f) (nodes f) (cells f) (key f) (spots f) (listing_below s.entries q)
      start = fills_start count v w s trie q (nodes f) (cells f) second (key f) (spots f) stack rest

      pub may_move : CallableOnEachEntry Takes Waits f (listing_below s.entries q)
      may_move = may_fill (split_off s q) (nodes f) (cells f) f (listing_below s.entries q) start

      pub all_moved : (g : F) → AsksUpTo Takes f (listing_below s.entries q) g → Fills (split_off s q) (nodes f) (cells f) (nodes g) (cells g) (key g) (spots g) []
      all_moved g = all_filled (split_off s q) (nodes f) (cells f) f g (listing_below s.entries q) start
