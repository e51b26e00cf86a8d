-- The slots of a map of ranks while it is filled: for the refusals of `fewest_networks`.
use Rattle.std.proofs.Common.{◌≡◌, ◌∙◌, ◌<◌, ◌≤◌, ◌+◌, ◌-◌, ◌*◌, ◌^◌, ℕ, Bool, true, false, cond, List, [], ◌∷◌, length, ap, refl, inl, inr, arith}
use Rattle.std.specs.FinMap.{contains_key, len, len-empty, len-insert}
use Rattle.prefix_trie.specs.Terms.{listing_cmp, no_entries, Entries}
use Rattle.prefix_trie_bits.specs.Model.Space.{MayPassLimit, Space}
use Rattle.prefix_trie_bits.specs.Order.{listing_total}
use Rattle.prefix_trie_map.specs.Collected.{Puts}
use Rattle.prefix_trie_ops.specs.Smallest.{MayExceedLimit}
use Rattle.prefix_trie_table.specs.Model.Contents.{Contents}

-- so many entries of all are still to come, and the map has few slots for those that it has
pub record HasRoom (left all : ℕ) (map : Contents ℕ) : Type 0 where
  pub limit : map.space.limit ≡ 2 ^ 32 - 1
  pub node_slots : map.space.node_slots + 56 * left ≤ 1 + 56 * all
  pub cell_slots : map.space.cell_slots + 31 * left ≤ 31 * all
  pub entries : len map.entries + left ≤ all

-- a new map
pub room_start : (left all : ℕ) (map : Contents ℕ) → left ≡ all → map.space ≡ record { limit = 2 ^ 32 - 1; node_slots = 1; cell_slots = 0 } → map.entries ≡ no_entries → HasRoom left all map
room_start left all map same space empty = record {
  limit = ap (λ (r : Space). r.limit) space;
  node_slots = omega (arith, same, ap (λ (r : Space). r.node_slots) space);
  cell_slots = omega (arith, same, ap (λ (r : Space). r.cell_slots) space);
  entries = omega (arith, same, ap len empty ∙ len-empty listing_cmp ℕ);
}

grows : (b : Bool) (n : ℕ) → cond b n (n + 1) ≤ n + 1
grows true n = omega arith
grows false n = omega arith

module _ {P : Type 0} (path : P → List Bool) (before after : Contents ℕ) (network : P) (rank left rest all : ℕ) (split : left ≡ rest + 1) where
  -- one network more
  pub room_on : Puts path before ((network, rank) ∷ []) after → HasRoom left all before → HasRoom rest all after
  room_on puts old =
      let more : len after.entries ≤ len before.entries + 1 =
      let e = ap len puts.entries ∙ len-insert listing_total before.entries (path network) rank in
      let g = grows (contains_key before.entries (path network)) (len before.entries) in omega (arith, e, g) in record {
        limit = puts.limit ∙ old.limit;
        node_slots = omega (arith, split, puts.node_slots, old.node_slots);
        cell_slots = omega (arith, split, puts.cell_slots, old.cell_slots);
        entries = omega (arith, split, more, old.entries);
      }

  -- a network that is refused
  pub room_full : HasRoom left all before → MayPassLimit before.space → 2 ^ 32 - 1 < 1 + 56 * all
  room_full old (inl k) = omega (arith, split, old.limit, old.node_slots, k)
  room_full old (inr k) = omega (arith, split, old.limit, old.cell_slots, k)

-- a smaller map that may exceed the limit
pub ranks_exceed : (width limit : ℕ) (ranks : Entries ℕ) (all : ℕ) → limit ≡ 2 ^ 32 - 1 → len ranks ≤ all → MayExceedLimit width limit ranks → 2 ^ 32 - 1 < 1 + 56 * all
ranks_exceed width limit ranks all is few exceed = let pass = exceed ranks (λ q full. refl) in omega (arith, is, few, pass)

-- one network less is left of a list
pub one_less : {X : Type 0} {x : X} {rest left : List X} → left ≡ x ∷ rest → length left ≡ length rest + 1
one_less split = omega (arith, ap length split)
