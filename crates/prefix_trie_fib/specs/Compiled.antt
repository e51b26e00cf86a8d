-- What an indexed line keeps: ranges that divide all addresses, and an index of them.
use Rattle.std.specs.Prelude.{◌≡◌, ℕ, ◌*◌, ◌^◌, ◌<◌, ◌≤◌, List, length, Option}
use Rattle.prefix_trie_fib.specs.declared.index.chunk.Chunk.{Chunk}
use Rattle.prefix_trie_fib.specs.Index.{IsIndex}
use Rattle.prefix_trie_fib.specs.Line.{IsDivision}
use Rattle.prefix_trie_fib.specs.Sizes.{AreIndexBits}

-- ranges and an index by so many bits of addresses of a width
pub record IsCompiled {T : Type 0} (width : ℕ) (line : List (ℕ × Option T)) (chunks parts : List (Chunk T)) (bits : ℕ) : Type 0 where
  pub division : IsDivision line
  pub few : length line < 2 ^ 32
  pub right : IsIndex width bits line chunks parts
  pub long : length chunks ≡ 2 ^ bits
  pub sized : AreIndexBits width (length line) bits
  pub few_parts : length parts ≤ 2 * length line
