-- Where the value of a bit string is stored, and where the search for a missing one ends, by the
-- nodes in their array. This project's own.
use Rattle.std.specs.Prelude.{◌≡◌, ℕ, ◌+◌, ◌*◌, ◌<◌, ◌≤◌, Bool, true, false, cond, List, [], ◌∷◌, Option, None, Some, is_some, length, take, drop}
use Rattle.std.specs.Coded.{Coded, code_by, coded_ℕ, coded_bool, coded_list, coded_option, Coded-set}
use Rattle.std.specs.FinMap.{contains_key}
use Rattle.std.proofs.Common.{refl}
use Rattle.std.proofs.Math.Bridge.{le_prop}
use mathlib.Core.HLevel.{Π_prop}
use Rattle.prefix_trie_table.specs.declared.allocator.node.Node.{Node}
use Rattle.prefix_trie_table.specs.declared.table.lookup.Reached.{Reached}
use Rattle.prefix_trie_table.specs.declared.table.seat.Seat.{Seat}
use Rattle.prefix_trie_table.specs.declared.table.seat.SearchEnd.{SearchEnd}
use Rattle.prefix_trie_table.specs.declared.table.seat.Location.{Location}
use Rattle.prefix_trie_table.specs.declared.table.seat.Location.TheVariants.{Stored, Missing}
use Rattle.prefix_trie_bits.specs.Bitmaps.{has_bit, rank}
use Rattle.prefix_trie_table.specs.Blocks.Cells.{node_at}
use Rattle.prefix_trie_table.specs.Digits.{chunks_of, bit_of}
use Rattle.prefix_trie_table.specs.Forest.{child_slot, read}
use Rattle.prefix_trie_table.specs.Model.Contents.{Contents}
use Rattle.prefix_trie_table.specs.Shape.{coded_node}
use Rattle.prefix_trie_table.specs.SearchPaths.{IsLast}
use Rattle.prefix_trie_table.specs.Blocks.Store.{Store}

-- the seat of a node's value at bit b
abbrev pub value_seat : Node → ℕ → Seat
value_seat n b = record { slot = n.value_block + rank n.value_bitmap b }

-- the seat of a node's value at bit b, if there is such a value
abbrev pub seat_in : Option Node → ℕ → Option Seat
seat_in None b = None
seat_in (Some n) b = cond (has_bit n.value_bitmap b) (Some (value_seat n b)) None

-- the seat of the value at a bit string, if it is there
unfoldable pub seat_of : List Node → List Bool → Option Seat
seat_of nodes q = seat_in (read nodes (chunks_of q)) (bit_of q)

-- the slot that a list of chunks leads to from another slot
abbrev pub slot_from : List Node → ℕ → List ℕ → ℕ
slot_from nodes at [] = at
slot_from nodes at (c ∷ cs) = slot_from nodes (child_slot (node_at nodes at) c) cs

-- the search for a bit string ends at this node: the path has no next node, or needs none
pub record IsEndNode (nodes : List Node) (q : List Bool) (here : Reached) : Type 0 where
  pub within : here.level ≤ length (chunks_of q)
  pub is_there : is_some (read nodes (take here.level (chunks_of q))) ≡ true
  pub stops : here.level < length (chunks_of q) → is_some (read nodes (take (here.level + 1) (chunks_of q))) ≡ false
  pub slot_is : here.at ≡ slot_from nodes 0 (take here.level (chunks_of q))
  pub node_is : here.node ≡ node_at nodes here.at

-- the bits that are left are those after the ones that lead to the node
abbrev pub LeavesRest : {K : Type 0} → List Bool → SearchEnd K → Type 0
LeavesRest q end = end.rest ≡ drop (5 * end.reached.level) q

-- the end of the search for a bit string: its node, and the bits that are left there
abbrev pub IsSearchEnd : {K : Type 0} → List Node → List Bool → SearchEnd K → Type 0
IsSearchEnd nodes q end = IsEndNode nodes q end.reached × LeavesRest q end

-- a bit string has no value, and this node is the last on its search path
abbrev pub EndsAt : Store Node → List Bool → Reached → Type 0
EndsAt v q here = (seat_of v.slots q ≡ None) × IsLast q here v

-- the location of a bit string in an array of nodes: the seat of its value, or the last node of its search path and the
-- bits that are left there
abbrev pub Locates : {K : Type 0} → Store Node → List Bool → Location K → Type 0
Locates v q (Stored seat) = seat_of v.slots q ≡ Some seat
Locates v q (Missing end) = EndsAt v q end.reached × LeavesRest q end

-- the location of a bit string in a table: the seat of its value, or the end of the search for it
abbrev pub IsLocation : {T K : Type 0} → Contents T → List Bool → Location K → Type 0
IsLocation s q (Stored seat) = (contains_key s.entries q ≡ true) × (seat_of s.build q ≡ Some seat)
IsLocation s q (Missing end) = (contains_key s.entries q ≡ false) × IsSearchEnd s.build q end

coded_seat : Coded Seat
coded_seat = code_by ℕ coded_ℕ (λ s. s.slot) (λ n. record { slot = n }) (λ _. refl)

-- there is at most one proof that a bit string has this seat
pub is_seat-prop : (nodes : List Node) (q : List Bool) (seat : Seat) → IsProp (seat_of nodes q ≡ Some seat)
is_seat-prop nodes q seat = Coded-set (coded_option coded_seat) _ _

-- there is at most one proof that a search ends at a node
pub IsSearchEnd-prop : {K : Type 0} (nodes : List Node) (q : List Bool) (end : SearchEnd K) → IsProp (IsSearchEnd nodes q end)
IsSearchEnd-prop nodes q end = λ x y i. (
  record {
    within = le_prop x.0.within y.0.within i;
    is_there = Coded-set coded_bool _ _ x.0.is_there y.0.is_there i;
    stops = Π_prop (λ _. Coded-set coded_bool _ _) x.0.stops y.0.stops i;
    slot_is = Coded-set coded_ℕ _ _ x.0.slot_is y.0.slot_is i;
    node_is = Coded-set coded_node _ _ x.0.node_is y.0.node_is i;
  },
  Coded-set (coded_list coded_bool) _ _ x.1 y.1 i,
)
