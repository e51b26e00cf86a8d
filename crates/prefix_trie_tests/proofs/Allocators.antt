-- The names of the toolchain that the proofs of a wrapping allocator use, in one list.
pub use Rattle.std.proofs.Common.{Bool, ◌≡◌, ℕ, ◌+◌, ◌^◌, ◌<◌, true, false, List, [], ◌∷◌, Ok, Err, refl, w64, Bor, ap}
pub use Rattle.std.proofs.alloc.Calls.{Al, α, seen, Answer, answer_val, Answer-typed, Answer-Ok, Answer-err, takes_key, Takes, at_takes, Answered, Takes-goes, Takes-gives, answers, token, gives_key, Gives, at_gives, Gives-goes, Gives-Gives}
pub use base.Fml.{Lft, Share, ftrue, flft, fsep, ffalse, froom}
pub use base.Logic.{SProp, ent, id⊢, sep, ex, guard, never_e}
pub use contract.BorrowLft.{◌⊑◌, ⊑_trans}
pub use contract.Monad.{Fun, fact}
unfoldable pub use contract.Running.{tables, tables_of}
pub use denote.Builtin.{usize, RefOf, bool, RawPtr}
pub use denote.Exit.{yes}
pub use denote.Opens.{unhide}
pub use denote.Param.{bounded, param}
pub use denote.Plain.{uint_vals, uint_Tells}
pub use denote.RattleType.{owns, RattleType}
pub use denote.RawPtr.{block_ptr, Ptr, null_ptr, ptr_val, rawptr_vals, rawptr_Tells}
pub use denote.Ref.{shr_vals}
pub use denote.Signature.{Slot, plain, types_at}
pub use denote.Steps.{heard, nothing, only}
pub use denote.Triple.Call.{calls_at}
pub use denote.Triple.Clauses.{Ended, Clauses}
pub use denote.Triple.Spec.{triple_of}
pub use denote.Triple.Statement.{Triple, Contract}
pub use denote.Triple.Table.{entered, cited}
pub use denote.Triple.Walked.{Stays, stay_dropped, walk_of, ends_at, walked, Goes-dropped, walk_Meets}
pub use mir.MapTy.{inst_fn}
pub use mir.Syntax.{Ty, Args, Fn, a_type, dnil, dcons}
pub use mir.Val.{Val, vbool, vint, vptr, vunit}
pub use prog.Memory.{Memory, size, align, capped, up}
pub use prog.Routine.{Routine}
pub use prog.Wp.{WpFn, Tables}
pub use seplogic.Ra.Ura.{Ura}
pub use sound.WpLaws.{fm_of, WpFn-mono}
pub use types.ByLocal.{alloc_all, pass_all, free_all, look_at, get, through, sets, lands_as, env}
pub use types.Kit.{‵, raw, ◌⊛◌, some, later, given, learn, pick, at_ret, ◌$◌, ◌∵◌, !, qed, move, keep, drop, use0, use1, use2, split, join, fsplit, fjoin, suffices, await, done, feq_i, feq_l, check, show, updating, now as at_once, Item, by, split3}
pub use types.Logic.{Logic, sem}
pub use types.Run.{stop, fld, addr, lit, no_more, and_then, first, branches, skips, exec, returns, returns_within, enter, of_opd, unit_lit}
