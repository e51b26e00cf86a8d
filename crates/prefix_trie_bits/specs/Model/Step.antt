-- What each call returns and how it changes the map; and runs of calls.
-- From the Rust crate's documentation of the calls. When a call may fail and which nodes a removal
-- leaves is this project's own.
use Rattle.std.specs.Prelude.{◌≡◌, ◌⊎◌, ℕ, Bool, false, cond, List, [], ◌∷◌, Option, ⊤}
use Rattle.std.specs.FinMap.{get, contains_key, len}
pub use Rattle.prefix_trie_bits.specs.declared.prefix.Refusal.{Refusal}
pub use Rattle.prefix_trie_bits.specs.declared.prefix.Refusal.TheVariants.{Memory, IndexRange}
use Rattle.prefix_trie_bits.specs.Model.Entries.{Entries, no_entries, with_entry, without_entry, without_below, part_at_least}
use Rattle.prefix_trie_bits.specs.Model.Selections.{listing, listing_from, listing_after, listing_below, prefix_pairs}
use Rattle.prefix_trie_bits.specs.Model.Matches.{covers, longest_match, shortest_match, prefix_pair}
use Rattle.prefix_trie_bits.specs.Model.Nodes.{Nodes, root_alone, with_needed, needed, nodes_without, nodes_without_below}
use Rattle.prefix_trie_bits.specs.Model.Addresses.{address_total}

-- what contracts see of a map: its entries and its nodes
pub record State (T : Type 0) : Type 0 where
  pub entries : Entries T
  pub nodes : Nodes

-- a call with its arguments; `ListFrom q inclusive` lists the entries after q, and q's own if
-- `inclusive` is true
pub data Call (P T : Type 0) : Type 0 where
  Insert : P → T → Call P T
  Get : P → Call P T
  Lpm : P → Call P T
  Spm : P → Call P T
  Remove : P → Call P T
  RemoveKeepTree : P → Call P T
  RemoveChildren : P → Call P T
  RetainAtLeast : ℕ → Call P T
  Clear : Call P T
  Len : Call P T
  NodeCount : Call P T
  AddressCount : Call P T
  ListAll : Call P T
  ListFrom : P → Bool → Call P T
  Children : P → Call P T
  Cover : P → Call P T

-- the result of a call
pub data Reply (P T : Type 0) : Type 0 where
  Value : Option T → Reply P T
  Match : Option (P × T) → Reply P T
  Done : Reply P T
  Count : ℕ → Reply P T
  Addresses : Option ℕ → Reply P T
  Items : List (P × T) → Reply P T
  Refused : Refusal → Reply P T

module _ {P T : Type 0} where
  -- the prefix argument of a call, if it has one, fits
  abbrev pub CallFits : (P → Type 0) → Call P T → Type 0
  CallFits Fits (Insert q v) = Fits q
  CallFits Fits (Get q) = Fits q
  CallFits Fits (Lpm q) = Fits q
  CallFits Fits (Spm q) = Fits q
  CallFits Fits (Remove q) = Fits q
  CallFits Fits (RemoveKeepTree q) = Fits q
  CallFits Fits (RemoveChildren q) = Fits q
  CallFits Fits (ListFrom q inclusive) = Fits q
  CallFits Fits (Children q) = Fits q
  CallFits Fits (Cover q) = Fits q
  CallFits Fits call = ⊤

  -- the call returns these items, or is refused because an allocation failed; the map is unchanged
  abbrev pub Lists : State T → List (P × T) → Reply P T → State T → Type 0
  Lists s items reply t = ((reply ≡ Items items) ⊎ (reply ≡ Refused Memory)) × (t ≡ s)

module _ {S C R : Type 0} (OneStep : S → C → R → S → Type 0) where
  -- a run from s to t: one step and one reply for each call in order
  abbrev pub Runs : S → List C → List R → S → Type 0
  Runs s [] replies t = (replies ≡ []) × (t ≡ s)
  Runs s (call ∷ calls) replies t =
      (reply : R) × (later : List R) × (u : S) × (replies ≡ reply ∷ later) × OneStep s call reply u × Runs u calls later t

module _ {P T : Type 0} (path : P → List Bool) (back : List Bool → P) (width : ℕ) where
  -- a step: the call returns the reply, and the map goes from s to t
  -- Only the insertion of a new key and the listings may be refused. The map is unchanged then.
  abbrev pub Step : State T → Call P T → Reply P T → State T → Type 0
  Step s (Insert q v) reply t =
      let stored = contains_key s.entries (path q) in
      ((reply ≡ Value (get s.entries (path q))) × (t ≡ record {
        entries = with_entry s.entries (path q) v;
        nodes = cond stored s.nodes (with_needed s.nodes (path q));
      })) ⊎ ((stored ≡ false) × (cause : Refusal) × (reply ≡ Refused cause) × (t ≡ s))
  Step s (Get q) reply t = (reply ≡ Value (get s.entries (path q))) × (t ≡ s)
  Step s (Lpm q) reply t = (reply ≡ Match (prefix_pair back (longest_match s.entries (path q)))) × (t ≡ s)
  Step s (Spm q) reply t = (reply ≡ Match (prefix_pair back (shortest_match s.entries (path q)))) × (t ≡ s)
  Step s (Remove q) reply t =
      (reply ≡ Value (get s.entries (path q))) × (t ≡ record {
        entries = without_entry s.entries (path q);
        nodes = nodes_without s.nodes s.entries (path q);
      })
  Step s (RemoveKeepTree q) reply t =
      (reply ≡ Value (get s.entries (path q))) × (t ≡ record s { entries = without_entry s.entries (path q) })
  Step s (RemoveChildren q) reply t =
      (reply ≡ Done) × (t ≡ record {
        entries = without_below s.entries (path q);
        nodes = nodes_without_below s.nodes s.entries (path q);
      })
  Step s (RetainAtLeast n) reply t =
      let kept = part_at_least s.entries n in
      (reply ≡ Done) × (t ≡ record { entries = kept; nodes = needed kept })
  Step s Clear reply t = (reply ≡ Done) × (t ≡ record { entries = no_entries; nodes = root_alone })
  Step s Len reply t = (reply ≡ Count (len s.entries)) × (t ≡ s)
  Step s NodeCount reply t = (reply ≡ Count (len s.nodes)) × (t ≡ s)
  Step s AddressCount reply t = (reply ≡ Addresses (address_total width s.entries)) × (t ≡ s)
  Step s ListAll reply t = Lists s (prefix_pairs back (listing s.entries)) reply t
  Step s (ListFrom q inclusive) reply t =
      Lists s (prefix_pairs back (cond inclusive (listing_from s.entries (path q)) (listing_after s.entries (path q)))) reply t
  Step s (Children q) reply t = Lists s (prefix_pairs back (listing_below s.entries (path q))) reply t
  Step s (Cover q) reply t = Lists s (prefix_pairs back (covers s.entries (path q))) reply t

  -- a run of the model: the calls return the replies in order, and the map goes from s to t
  abbrev pub Run : State T → List (Call P T) → List (Reply P T) → State T → Type 0
  Run = Runs Step
