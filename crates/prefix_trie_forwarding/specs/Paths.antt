-- Where the path of a network ends.
use Rattle.std.specs.Prelude.{◌≡◌, ℕ, ◌+◌, ◌*◌, ◌^◌, ◌<◌, ◌≤◌, MatchOption}
use Rattle.std.proofs.Common.{suc}
use Rattle.prefix_trie_forwarding.specs.Walks.{Reaches}
use Rattle.prefix_trie_forwarding.specs.declared.slots.path.End.{End}

-- the walk of an address, by the first bits of a network of so many bits, ends there: after these bits, or at an answer
pub record IsEnd (root_bits levels : ℕ) (s : ℕ → ℕ) (a len : ℕ) (end : End) : Type 0 where
  pub steps : ℕ
  pub left : ℕ
  pub depth : end.depth + 8 * left ≡ root_bits + 8 * levels
  pub least : root_bits ≤ end.depth
  pub last : root_bits < end.depth → end.depth < len + 8
  pub reached : Reaches (2 ^ root_bits) levels s a steps left end.at
  pub stops : end.depth < len → s end.at < 2147483648
  pub before : MatchOption end.before (end.depth ≡ root_bits)
      (λ x. (root_bits < end.depth) × ((m : ℕ) × Reaches (2 ^ root_bits) levels s a m (suc left) x) × (2147483648 ≤ s x))
