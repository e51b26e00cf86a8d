-- A handle may go to another thread, as the compiled table may that it shares.
use mir.Raw.{raw}
use base.Shift.{Keyless}
use denote.Memory.{lone}
use denote.RawPtr.{Ptr}
use denote.Builtin.{RawPtr}
use denote.Struct.Struct.{exits_of}
use denote.Struct.Owning.{shape, fields, to}
use denote.Param.Send.{IsSend, owning_send, struct_send, sendable}
use Rattle.core.specs.declared.option.Option.{Option}
use Rattle.core.specs.declared.option.Option.TheVariants.{None, Some}
use Rattle.std_alloc.proofs.SendSync.{lies, quiet}
use Rattle.std.specs.Global.{Global}
use Rattle.std_heap.proofs.Global.TheSendSync.{the_field_send}
use Rattle.std.proofs.Crossing.{frees}
use Rattle.prefix_trie_c.specs.HeldCompiled.{compiled_owns}
use Rattle.prefix_trie_c.specs.contracts.compiled.Shared as shared
use Rattle.prefix_trie_c.proofs.compiled.Shared.TheSendSync.{the_send}
use Rattle.prefix_trie_c.specs.contracts.compiled_handle.CompiledHandle as handle

pointer_send : IsSend RawPtr
pointer_send = search sendable

owned : (a : Global) (p : Ptr) (x : Option (shared.the_row).Denot) → Keyless (compiled_owns a p x)
owned a p None = tt
owned a p (Some y) = (lies shared.the_row the_send p y, frees.frees a (raw (lone (shared.the_row).mir)) p)

pub send : IsSend handle.the_row
send =
    let O = handle.the_type in
    owning_send O (pointer_send, (the_field_send, tt)) (λ d. owned d.alloc d.at d.shared)
    (λ k. quiet (to O) (exits_of k (fields O)) ((struct_send (shape O) (pointer_send, (the_field_send, tt))).leaving k))
