-- The invariant of `shift_in`: the items so far are moved one slot further, and `carried` is the item to write next.
use Rattle.prefix_trie_table.proofs.Prelude.{◌≡◌, ◌≤◌, insert, remove, vec_len, vec_capacity, get_or}
use Rattle.prefix_trie_table.proofs.allocator.slots.shift_in.Given as goal

abbrev pub invariant-loop-i : goal.invariant-loop-i
invariant-loop-i g l =
    record {
      items : l.items.items ≡ insert (remove l.fn.items.items l.i) l.from l.fn.value;
      carried : get_or l.fn.items.items l.i l.carried ≡ l.carried;
      len : vec_len l.items ≡ vec_len l.fn.items;
      capacity : vec_capacity l.items ≡ vec_capacity l.fn.items;
      low : l.from ≤ l.i;
      high : l.i ≤ l.to;
    }
