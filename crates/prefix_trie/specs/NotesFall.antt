-- A proof that a note has more numbers than the note before it. This project's own.
use Rattle.std.specs.Prelude.{ℕ, ◌≤◌, List, Option, Some, None, length}
use Rattle.std.proofs.Common.{arith, length-append}
use Rattle.std.specs.declared.snapshot.Snapshot.{Snapshot}
use Rattle.prefix_trie.specs.declared.replay.reads.Note.TheDeep.{deep-Note}
use Rattle.prefix_trie.specs.Reads.{noted}

pub notes-fall : (before : Option (Snapshot (List (Option ℕ)))) (read : Option ℕ) → deep-Note (record { before = before; read = read }) ≤ length (noted before read)
notes-fall None read = omega arith
notes-fall (Some s) read = omega (arith, length-append s.value)
