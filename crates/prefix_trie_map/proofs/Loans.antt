-- Lemmas for proofs of calls that lend: a local is lent for one call, a `&mut` in an `Option`, and
-- a pair of two machine values. Those proofs take the names of the separation logic from here.
-- Assumes `Logic`.
use seplogic.Ra.Ura.{Ura}
use types.Logic.{Logic, sem}
use types.SemTy.{Body}
use types.Tokens.{lft_new}
use borrow.Within.Token.{Rest, within_token, within_end}
use borrow.Table.OneValue.{One, part_in, part_out}
use denote.Lend.{lends_ref, ref_back}
use denote.Param.Shared.{mut_ref_shared}
use denote.Struct.Field.{mut_ref_field}
use denote.Struct.Laws.{mut_ref_laws}
use denote.Struct.Struct.{within}
pub use Rattle.std.proofs.Common.{◌≡◌, ℕ, ◌+◌, ◌/◌, ◌≤◌, length, List, IfSome, IfNone, None, Some, Option, [], ◌∷◌, refl, sym, MutBor, arith}
pub use Rattle.std.proofs.raw_atomic.Walks.{proved}
pub use mir.Syntax.{Args, named, a_type, dcons, dnil, Lifetime}
pub use mir.Val.{Val, vptr, vstruct, vcons, vnil}
pub use mir.MapTy.{inst_fn}
pub use base.Fraction.{full_share}
pub use base.Logic.{ent, emp, id⊢, SProp, ex, sep}
pub use base.Fml.{Fml, GName, ftrue, fat, flft, Lft, Share, fdead, flent, fres}
pub use contract.BorrowLft.{◌⊑◌}
pub use contract.Monad.{fact, fact_i}
pub use contract.Running.{tables}
pub use types.Kit.{‵, raw, ◌⊛◌, some, later, ◌$◌, ◌∵◌, !, qed, done, move, keep, drop, use0, use1, use2, use3, split, join, fsplit, fjoin, pick, await, rewrite, suffices, frame, fpack, feq_i, updating, now, show}
pub use types.Part.{agg}
pub use types.Run.{enter, of_opd, lit, addr, from, stop, no_more, and_then, returns}
pub use types.ByLocal.{alloc_all, pass_all, free_all, look_at, get, through, sets, lands_as, take_at, give_at}
pub use denote.Param.{param, copied, bounded}
pub use denote.Param.Laws.{Laws, param_laws, of_field, row_shared}
pub use denote.Exit.{yes, no}
pub use denote.Memory.{lone, mem, part_at}
pub use denote.RattleType.{RattleType, Valss}
pub use denote.Ref.{MutRef, ShrRef, mut_vals, mut_Tells, shr_vals, shr_Tells, NamedLft}
pub use denote.Signature.{plain, mut_ref_to, shr_ref_to}
pub use denote.Steps.{nothing, heard, peeks}
pub use denote.Laws.{shows}
pub use denote.Struct.Tuple.{Tuple, tuple_laws, tuple_type}
pub use denote.Triple.Call.{calls_at}
pub use denote.Triple.Clauses.{Lasts, lasts}
pub use denote.Triple.Spec.{triple_of}
pub use denote.Triple.Table.{framed}
pub use denote.Triple.Walked.{Stays, stay_dropped, walk_of, ends_at, Goes-dropped, Goes-spent_ref}
pub use Rattle.std.proofs.option.Option.TheLaws.{the_row_laws as option_laws}
use denote.Struct.Declared as struct

module _ {M : Type 1} {𝓤 : Ura M} (𝓛 : Logic 𝓤) (R : RattleType) (one : One R) (ℓ : Lifetime) (b : ℕ) (κ : Lft) (s : Share) where
  -- what the lender keeps of a loan for a new lifetime within κ, for which it gave a token of κ; nothing is kept for
  -- the loan of []
  abbrev pub KeptWithin : ℕ × GName → SProp 𝓤
  KeptWithin n = sep 𝓤 (𝓛.A.lent (n.0 ∷ κ) (Body (mem R) b 0 n.1)) (Rest 𝓛 n.0 s)

  abbrev pub LoanWithin : R.Denot → ℕ × GName → SProp 𝓤
  LoanWithin x n =
      sep 𝓤 (sem 𝓛 ((MutRef ℓ (n.0 ∷ κ) R).own_val (record { ref_ptr = (b, 0); ghost_name = n.1; now = x }) (vptr b 0 ∷ []))) (sep 𝓤 (𝓛.A.lft (n.0 ∷ κ) s) (KeptWithin n))

  pub lends_within : (x : R.Denot) (v : Val)
      → ent 𝓤 (sep 𝓤 (𝓛.H.at full_share (lone R.mir) b 0 v) (sep 𝓤 (sem 𝓛 (R.own_val x (v ∷ []))) (𝓛.A.lft κ s))) (𝓛.H.⇛ (ex 𝓤 (LoanWithin x)))
  lends_within x v =
      qed 𝓛 (‵ (fat full_share (lone R.mir) b 0 v) ∷ ‵ (R.own_val x (v ∷ [])) ∷ ‵ (flft κ s) ∷ []) ∵ updating ! $
      use2 𝓛 (‵ (part_at R full_share x b 0)) (part_in 𝓛 R one full_share x b 0 v) $ lft_new ! tt (λ α. move ! (0 ∷ 2 ∷ []) $
      use2 𝓛 (‵ (flft (α ∷ κ) s) ⊛ raw (Rest 𝓛 α s)) (within_token 𝓛 α κ s) $ split ! $ move ! (2 ∷ []) $
      use1 𝓛 (later (some (λ (γ : GName). ‵ ((MutRef ℓ (α ∷ κ) R).own_val (record { ref_ptr = (b, 0); ghost_name = γ; now = x }) (vptr b 0 ∷ [])) ⊛ ‵ (flent (α ∷ κ) (Body (mem R) b 0 γ)))))
      (lends_ref 𝓛 R ℓ (α ∷ κ) x b 0) $ await ! tt $ pick ! (λ γ. split ! $ now ! $ show ! (LoanWithin x) (α, γ) $ move ! (0 ∷ 2 ∷ 1 ∷ 3 ∷ []) $ done !))

  abbrev BackWithin : R.Denot → Val → SProp 𝓤
  BackWithin x v = sep 𝓤 (𝓛.H.at full_share (lone R.mir) b 0 v) (sep 𝓤 (sem 𝓛 (R.own_val x (v ∷ []))) (𝓛.A.lft κ s))

  pub back_within : (n : ℕ × GName) (x : R.Denot)
      → ent 𝓤 (sep 𝓤 (𝓛.A.lft (n.0 ∷ κ) s) (sep 𝓤 (KeptWithin n) (𝓛.A.res n.1 (R.coded.code x)))) (𝓛.H.⇛ (ex 𝓤 (BackWithin x)))
  back_within n x =
      qed 𝓛 (‵ (flft (n.0 ∷ κ) s) ∷ (‵ (flent (n.0 ∷ κ) (Body (mem R) b 0 n.1)) ⊛ raw (Rest 𝓛 n.0 s)) ∷ ‵ (fres n.1 (R.coded.code x)) ∷ []) ∵ updating ! $ move ! (1 ∷ []) $ split ! $ move ! (2 ∷ 1 ∷ []) $
      use2 𝓛 (later (‵ (fdead (n.0 ∷ κ)) ⊛ ‵ (flft κ s))) (within_end 𝓛 n.0 κ s) $ await ! tt $ split ! $ move ! (0 ∷ 2 ∷ 3 ∷ []) $
      use3 𝓛 (later (‵ (part_at R full_share x b 0))) (ref_back 𝓛 R (n.0 ∷ κ) n.1 x b 0) $ await ! tt $
      use1 𝓛 (some (λ (v : Val). ‵ (fat full_share (lone R.mir) b 0 v) ⊛ ‵ (R.own_val x (v ∷ [])))) (part_out 𝓛 R one full_share x b 0) $ pick ! (λ v. split ! $ now ! $ show ! (BackWithin x) v $ done !)

-- a `&mut` to a value of the type parameter i
abbrev pub Lent : (i : ℕ) → RattleType → Lft → RattleType
Lent i T κ = MutRef (named 0) κ (param i T)

pub lent_laws : (i : ℕ) (T : RattleType) → Laws T → (κ : Lft) → Laws (Lent i T κ)
lent_laws i T L κ =
    let name : NamedLft = record { mir = named 0; lft = κ } in
    of_field (mut_ref_field name (param i T) tt) (mut_ref_laws name (param i T) tt) refl (mut_ref_shared name (param i T) tt (row_shared (param i T) (param_laws i T L)))

abbrev pub pair_val : Val → Val → Val
pair_val u v = vstruct (vcons u (vcons v vnil))

pub pair_of : {M : Type 1} {𝓤 : Ura M} (𝓛 : Logic 𝓤) (R S : RattleType) (x : R.Denot) (y : S.Denot) (u v : Val)
    → ent 𝓤 (sep 𝓤 (sem 𝓛 (R.own_val x (u ∷ []))) (sem 𝓛 (S.own_val y (v ∷ [])))) (sem 𝓛 ((Tuple (R ∷ S ∷ [])).own_val (x, y) (pair_val u v ∷ [])))
pair_of 𝓛 R S x y u v =
    qed 𝓛 (‵ (R.own_val x (u ∷ [])) ∷ ‵ (S.own_val y (v ∷ [])) ∷ []) ∵ nothing ! $ move ! (2 ∷ 0 ∷ []) $ fjoin ! $ move ! (1 ∷ 0 ∷ []) $ fjoin ! $ feq_i ! (List Val) (pair_val u v ∷ []) (pair_val u v ∷ []) refl $ fjoin ! $
    fpack ! (Valss (R ∷ S ∷ [])) (within (struct.shape (tuple_type (R ∷ S ∷ []))) (x, (y, tt)) (pair_val u v ∷ [])) (u ∷ [], (v ∷ [], tt)) $ done !
