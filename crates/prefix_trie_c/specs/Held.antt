-- What a handle owns: nothing at null, else a box.
use base.Fml.{Fml, feq}
use base.Stored.{Coded}
use denote.RattleType.{RattleType}
use denote.RawPtr.{Ptr, null_ptr}
use Rattle.std.specs.Prelude.{Option, Some, None}
use Rattle.std.specs.Coded.{coded_option}
use Rattle.std.specs.Box.Ownership.{box_owns}
use Rattle.std.specs.Global.{Global}
use Rattle.std_heap.specs.contracts.GlobalAllocator.TheImpl.{ghosts}
use Rattle.prefix_trie_c.specs.declared.loose.Loose.{Loose}
use Rattle.prefix_trie_c.specs.contracts.tables.Tables.{the_row}

abbrev pub box_or_null : (R : RattleType) → Global → Ptr → Option R.Denot → Fml
box_or_null R alloc at None = feq Ptr at null_ptr
box_or_null R alloc at (Some value) = box_owns (ghosts.dealloc_token alloc) R at value

abbrev pub handle_owns : Global → Ptr → Option the_row.Denot → Fml
handle_owns alloc at tables = box_or_null the_row alloc at tables

abbrev pub held_coded : Coded (Option the_row.Denot)
held_coded = coded_option the_row.coded

abbrev pub loose_value : {X : Type 0} {A : Type 0} → Loose X A → X
loose_value l = l.value
