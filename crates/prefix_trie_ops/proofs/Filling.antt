-- Insertions one after another, and when the slots of all may exceed the limit: for the errors of `aggregate`.
use Rattle.std.proofs.Common.{◌≡◌, ◌∙◌, ◌+◌, ◌*◌, ◌<◌, ◌≤◌, ℕ, Bool, true, false, cond, List, length, ap, refl, inl, inr, arith}
use Rattle.std.specs.FinMap.{contains_key, len, len-insert}
use Rattle.prefix_trie_bits.specs.Order.{listing_total}
use Rattle.prefix_trie_bits.specs.Calls.Storage.{StepByPath}
use Rattle.prefix_trie_bits.specs.Model.Space.{Space}
use Rattle.prefix_trie_bits.specs.Model.Step.{Insert, Reply}
use Rattle.prefix_trie.specs.Terms.{with_entry, with_needed, IsWhole}
use Rattle.prefix_trie_table.specs.Model.Contents.{Contents, stored_state}
use Rattle.prefix_trie_map.specs.Collected.{ManyMayPassLimit}
use Rattle.prefix_trie_map.proofs.Collected.{puts_one}
use Rattle.prefix_trie_ops.specs.Filling.{Fills}

module _ {T : Type 0} where
  pub fills_then : (a b c : Contents T) → Fills a b → Fills b c → Fills a c
  fills_then a b c first second = record {
    tidy = λ was. second.tidy (first.tidy was);
    limit = second.limit ∙ first.limit;
    node_slots = (let n = first.node_slots in let m = second.node_slots in omega (arith, n, m));
    cell_slots = (let n = first.cell_slots in let m = second.cell_slots in omega (arith, n, m));
  }

  -- one insertion: a stored key makes no slot
  pub fills_one : {P : Type 0} (path : P → List Bool) (width : ℕ) (before after : Contents T) (prefix : P) (value : T) (reply : Reply (List Bool) T) → IsWhole width before
      → length (path prefix) ≤ 128 → after.entries ≡ with_entry before.entries (path prefix) value → after.nodes ≡ with_needed before.nodes (path prefix)
      → StepByPath width (stored_state before) (Insert (path prefix) value) reply (stored_state after) → Fills before after
  fills_one path width before after prefix value reply whole short entries nodes step =
      let one = puts_one path before after prefix value reply whole short entries nodes step in
      let count : len after.entries ≡ cond (contains_key before.entries (path prefix)) (len before.entries) (len before.entries + 1) =
      ap len entries ∙ len-insert listing_total before.entries (path prefix) value in
      elim (contains_key before.entries (path prefix)) as (λ b. contains_key before.entries (path prefix) ≡ b → len after.entries ≡ cond b (len before.entries) (len before.entries + 1) → Fills before after) [
        | true ↦ λ has same. (let still = step.storage.0 has in record {
          tidy = one.tidy;
          limit = one.limit;
          node_slots = (let n = ap (λ s. s.space.node_slots) still in omega (arith, n, same));
          cell_slots = (let n = ap (λ s. s.space.cell_slots) still in omega (arith, n, same));
        })
        | false ↦ λ _ more. record {
          tidy = one.tidy;
          limit = one.limit;
          node_slots = (let n = one.node_slots in omega (arith, n, more));
          cell_slots = (let n = one.cell_slots in omega (arith, n, more));
        }
      ] refl count

-- more insertions may exceed it too
pub passes_more : (space : Space) (j n : ℕ) → j ≤ n → ManyMayPassLimit space j → ManyMayPassLimit space n
passes_more space j n fewer (inl k) = inl (omega (arith, fewer, k))
passes_more space j n fewer (inr k) = inr (omega (arith, fewer, k))

-- so may the insertions before and those still to come
pub passes_later : {T : Type 0} (before after : Contents T) (done left all : ℕ) → Fills before after → len after.entries ≤ len before.entries + done → done + left ≤ all
    → ManyMayPassLimit after.space left → ManyMayPassLimit before.space all
passes_later before after done left all fills cost whole (inl k) = (let n = fills.node_slots in let l = fills.limit in inl (omega (arith, n, l, cost, whole, k)))
passes_later before after done left all fills cost whole (inr k) = (let n = fills.cell_slots in let l = fills.limit in inr (omega (arith, n, l, cost, whole, k)))

-- in a map that begins with the root alone
pub passes_from_root : (space : Space) (limit count : ℕ) → space ≡ record { limit = limit; node_slots = 1; cell_slots = 0 } → ManyMayPassLimit space count → limit < 1 + 56 * count
passes_from_root space limit count new (inl k) = omega (arith, ap (λ (r : Space). r.limit) new, ap (λ (r : Space). r.node_slots) new, k)
passes_from_root space limit count new (inr k) = omega (arith, ap (λ (r : Space). r.limit) new, ap (λ (r : Space). r.cell_slots) new, k)
