-- The machine values of a table's handle, and what it owns with a table and without. Assumes `Logic`.
use Rattle.std.proofs.Common.{◌≡◌, ℕ, List, [], ◌∷◌, ◌++◌, refl, subst}
use seplogic.Ra.Ura.{Ura}
use mir.Val.{Val, vptr, vnull, vstruct, of_list}
use types.Logic.{Logic}
use types.Kit.{Item, Goal, Seq, Step, step, ‵, ◌$◌, move, drop, fsplit, fjoin, fpick, fpack, feq_i, feq_l}
use denote.RattleType.{RattleType, Valss}
use denote.Builtin.{RawPtr}
use denote.RawPtr.{Ptr, block_ptr, null_ptr, ptr_val, Testable}
use denote.Steps.{nothing}
use denote.Param.{layout}
use denote.Struct.Struct.{within}
use denote.Struct.Owning.{shape, to}
use Rattle.core.proofs.cell.Inside.{Good}
use Rattle.core.specs.declared.option.Option.TheVariants.{None, Some}
use Rattle.std_alloc.specs.Box.Ownership.{box_owns}
use Rattle.std_heap.specs.contracts.GlobalAllocator.TheImpl.{ghosts}
use Rattle.core.proofs.alloc.Calls.{handle_tells}
use Rattle.prefix_trie_c.specs.contracts.handle.Handle as handle
use Rattle.prefix_trie_c.specs.contracts.tables.Tables as tables
use Rattle.prefix_trie_c.proofs.Pointers.{Z, al, held_out}
use Rattle.prefix_trie_c.proofs.Values.{both}

abbrev pub R : RattleType
R = tables.the_row

module _ {M : Type 1} {𝓤 : Ura M} {𝓛 : Logic 𝓤} {K : Type 0} {Γ : List (Item 𝓤)} {G : Goal 𝓤 𝓛.H} where
  pub handle_out : K → (d : (handle.the_row).Denot) (vs : List Val)
      → ((h : Val) → d.tables ≡ None → vs ≡ both vnull h ∷ [] → Good (layout Z) h → Seq K 𝓛 (‵ (Z.own_val d.alloc (h ∷ [])) ∷ Γ) G)
      → ((b o : ℕ) (y : R.Denot) (h : Val) → d.tables ≡ Some y → d.at ≡ block_ptr b o → Testable (block_ptr b o) → vs ≡ both (vptr b o) h ∷ [] → Good (layout Z) h → Seq K 𝓛 (‵ (box_owns (ghosts.dealloc_token d.alloc) R (block_ptr b o) y) ∷ ‵ (Z.own_val d.alloc (h ∷ [])) ∷ Γ) G)
      → Seq K 𝓛 (‵ ((handle.the_row).own_val d vs) ∷ Γ) G
  handle_out t d vs none some =
      fsplit t $ fpick t (λ vss. fsplit t $ feq_l t (λ ev. fsplit t $ feq_l t (λ ep. fsplit t $ handle_tells al t d.alloc vss.1.0 (λ h ea fits. move t (1 ∷ []) $ drop t $ move t (1 ∷ []) $
      let is : (p : Ptr) → d.at ≡ p → vs ≡ vstruct (of_list (ptr_val p ∷ h ∷ [])) ∷ [] = λ p e.
      (subst (λ (p' : Ptr). vs ≡ vstruct (of_list (ptr_val p' ∷ h ∷ [])) ∷ []) e
      (subst (λ (ws : List Val). vs ≡ vstruct (of_list (ptr_val d.at ∷ (ws ++ []))) ∷ []) ea (subst (λ (ps : List Val). vs ≡ vstruct (of_list (ps ++ (vss.1.0 ++ []))) ∷ []) ep ev))) in
      held_out t R d.alloc d.at d.tables (λ n e. none h n (is null_ptr e) fits) (λ b o y s e u. some b o y h s e u (is (block_ptr b o) e) fits)))))

  pub empty_in : K → (h : Val) (a : Z.Denot)
      → Step K 𝓛 (‵ ((handle.the_row).own_val (record { at = null_ptr; alloc = a; tables = None }) (both vnull h ∷ [])) ∷ Γ) G (‵ (Z.own_val a (h ∷ [])) ∷ Γ) G
  empty_in t h a = step (λ s. let v : Val = both vnull h in
      feq_i t Ptr null_ptr null_ptr refl $ nothing t $ move t (2 ∷ 0 ∷ []) $ fjoin t $ feq_i t (List Val) (vnull ∷ []) (vnull ∷ []) refl $ fjoin t $ feq_i t (List Val) (v ∷ []) (v ∷ []) refl $ fjoin t $
      fpack t (Valss (RawPtr ∷ Z ∷ [])) (within (shape handle.the_type) (to handle.the_type (record { at = null_ptr; alloc = a; tables = None })) (v ∷ [])) (vnull ∷ [], (h ∷ [], tt)) $ fjoin t $ s)

  pub full_in : K → (b o : ℕ) (h : Val) (a : Z.Denot) (x : R.Denot)
      → Step K 𝓛 (‵ ((handle.the_row).own_val (record { at = block_ptr b o; alloc = a; tables = Some x }) (both (vptr b o) h ∷ [])) ∷ Γ) G (‵ (box_owns (ghosts.dealloc_token a) R (block_ptr b o) x) ∷ ‵ (Z.own_val a (h ∷ [])) ∷ Γ) G
  full_in t b o h a x = step (λ s. let v : Val = both (vptr b o) h in
      nothing t $ move t (2 ∷ 0 ∷ []) $ fjoin t $ feq_i t (List Val) (vptr b o ∷ []) (vptr b o ∷ []) refl $ fjoin t $ feq_i t (List Val) (v ∷ []) (v ∷ []) refl $ fjoin t $
      fpack t (Valss (RawPtr ∷ Z ∷ [])) (within (shape handle.the_type) (to handle.the_type (record { at = block_ptr b o; alloc = a; tables = Some x })) (v ∷ [])) (vptr b o ∷ [], (h ∷ [], tt)) $ fjoin t $ s)
