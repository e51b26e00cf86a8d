-- What a handle of a compiled table owns: nothing at null, else a box with an owner.
use base.Fml.{Fml}
use base.Stored.{Coded}
use denote.RawPtr.{Ptr}
use Rattle.std.specs.Prelude.{Option}
use Rattle.std.specs.Coded.{coded_option}
use Rattle.std.specs.Global.{Global}
use Rattle.prefix_trie_c.specs.Held.{box_or_null}
use Rattle.prefix_trie_c.specs.contracts.compiled.Shared.{the_row}

abbrev pub compiled_owns : Global → Ptr → Option the_row.Denot → Fml
compiled_owns alloc at shared = box_or_null the_row alloc at shared

abbrev pub shared_coded : Coded (Option the_row.Denot)
shared_coded = coded_option the_row.coded
