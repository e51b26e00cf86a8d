-- The invariant of `obtain`: the blocks made so far are free, and slots and used blocks are unchanged.
use Rattle.prefix_trie_table.proofs.Prelude.{◌≡◌, ℕ, ◌-◌, ◌≤◌, List, None, UsedBlock, Sound, Turnover, SameSlots, tier_sizes, size_in, free_in, many_of}
use Rattle.prefix_trie_table.proofs.allocator.blocks.Blocks.obtain.Given as goal

abbrev pub invariant-loop-i : goal.invariant-loop-i
invariant-loop-i g l =
    let size : ℕ = size_in (tier_sizes l.fn.self.tiers) l.k in
    let free : ℕ = free_in l.fn.self.tiers (size_in (tier_sizes l.fn.self.tiers) l.k) in record {
      made : Turnover l.fn.self l.self (many_of size (l._i - free)) None None;
      from : free ≤ l._i;
      bound : l._i - free ≤ l.n - free;
      unchanged : l._i ≡ free → l.self ≡ l.fn.self;
      kept : SameSlots l.fn.self l.self;
      sound : (live : List (UsedBlock g.row.S.Denot)) → Sound g.S.Slot.vacant live l.fn.self → Sound g.S.Slot.vacant live l.self;
    }
