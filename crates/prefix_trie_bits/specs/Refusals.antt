-- What a refusal becomes in a program: its text, and the kind of an `io::Error`. This project's own.
use Rattle.std.specs.Prelude.{ℕ, List, codes}
use Rattle.std.specs.declared.io.ErrorKind.{ErrorKind}
use Rattle.std.specs.declared.io.ErrorKind.TheVariants.{OutOfMemory, QuotaExceeded}
use Rattle.prefix_trie_bits.specs.declared.prefix.Refusal.{Refusal}
use Rattle.prefix_trie_bits.specs.declared.prefix.Refusal.TheVariants.{Memory, IndexRange}

-- the bytes of its text
abbrev pub refusal_text : Refusal → List ℕ
refusal_text Memory = codes "a request for memory was refused"
refusal_text IndexRange = codes "the slots needed pass the limit"

-- the kind of the `io::Error` that it becomes
abbrev pub refusal_kind : Refusal → ErrorKind
refusal_kind Memory = OutOfMemory
refusal_kind IndexRange = QuotaExceeded
