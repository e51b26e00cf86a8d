-- A tally denotes more than the one before it. This project's own.
use Rattle.std.specs.Prelude.{ℕ, ◌≤◌, Option, Some, None}
use Rattle.std.proofs.Common.{arith}
use Rattle.std.specs.declared.snapshot.Snapshot.{Snapshot}
use Rattle.prefix_trie_map.specs.declared.map.visits.Tally.TheDeep.{deep-Tally}
use Rattle.prefix_trie_map.specs.Marks.{marks}

pub marks-fall : (before : Option (Snapshot ℕ)) → deep-Tally (record { before = before }) ≤ marks before
marks-fall None = omega arith
marks-fall (Some s) = omega arith
