-- `as_mut` lends the value behind a `Loose`, which follows it. Assumes `Logic`.
use mathlib.Core.Path.{◌≡◌, refl, sym, ap, subst}
use Prim.Native.Nat.{ℕ}
use mathlib.Core.List.{List, [], ◌∷◌, ◌++◌}
use seplogic.Ra.Ura.{Ura}
use base.Fraction.{full_share}
use mir.Syntax.{Fn, named}
use mir.MapTy.{inst_fn}
use mir.Val.{Val, vptr, vstruct, of_list}
use base.Logic.{SProp, ent, sep, emp, via, fst∗, never}
use base.Fml.{Lft, GName, Share, Fml, ftrue, flft, fsep, fbor, fobor, fobs, fauth}
use prog.Wp.{Env, Calls, Loops, WpFn, Tables}
use types.Logic.{Logic, sem}
use sound.WpLaws.{WpFn-mono}
use types.Kit.{rewrite, ‵, ◌⊛◌, some, at_ret, ◌$◌, ◌∵◌, !, qed, by, move, keep, use1, drop, split, join, pick, fsplit, fsplit3, fjoin, suffices, frame, done, raw, later, await, group, fpack, Goal, Soaks, Step, step, Seq, Item, fpick, feq_l, feq_i}
use types.Part.{whole, sub, look_in}
use types.Run.{stop, fld, load, of_opd, first, blocks, exec, returns, enter, addr}
use types.ByLocal.{alloc_all, pass_all, free_all, look_at, get, through, sets, env, sets_last}
use denote.RattleType.{owns, RattleType, Valss}
use denote.Memory.{part_at, mem, cell_at, part_of}
use denote.RawPtr.{block_ptr, Ptr, RawPtr, ptr_val, in_a_block, null_ptr}
use denote.Ref.{MutRef, mut_vals, mut_Tells}
use denote.Signature.{plain, mut_ref_to}
use denote.Steps.{nothing, opens}
use denote.Triple.Clauses.{closing, Clauses, Ended}
use denote.Triple.Entry.{on_entry}
use denote.Triple.Spec.{Meets, triple_of}
use denote.Triple.Walked.{says, Stays, stay_dropped, walk_of, ends_at, walked, walk_Meets, Goes-spent_ref}
use Rattle.core.proofs.alloc.Calls.{token, Fits, handle_tells}
use mir.Raw.{raw as bare}
use contract.Monad.{fact}
use denote.Exit.{no}
use denote.Builtin.{RefMutOf}
use denote.Follow.{follows, Part, lends_Part}
use Rattle.std_alloc.proofs.VecSteps.Shapes.{after}
use Rattle.std_alloc.proofs.BoxSteps.Form.{Bx, args, X, R, P, τ, word, handle}
use types.SemTy.{Body as Borrowed}
use denote.Struct.Owning.{Owning, shape}
use denote.Struct.Struct.{within}
use Rattle.std_alloc.specs.Box.Ownership.{box_owns}
use Rattle.prefix_trie_c.specs.Lent.{loose_with}
use Rattle.prefix_trie_c.specs.declared.loose.Loose.{Loose}
use Rattle.prefix_trie_c.specs.contracts.loose.Loose as loose
use Rattle.prefix_trie_c.proofs.loose.Loose.as_mut.Code as code
use contract.Running.{tables, tables_of}
use denote.Triple.Carry.{spared}
use denote.Triple.Table.{entered, run_framed}
use Rattle.prefix_trie_c.specs.contracts.loose.Loose.as_mut.Key.{name as #self}
use Rattle.prefix_trie_c.proofs.loose.Loose.as_mut.Statement as stated

module _ (E : Bx) where
  abbrev D : Type 0
  D = Loose (X E) E.al.row.Denot

  abbrev owning : Owning
  owning = loose.the_type (R E) (P E) E.al.g

  abbrev B : RattleType
  B = loose.the_row (R E) (P E) E.al.g

module _ (E : Bx) {M : Type 1} {𝓤 : Ura M} {𝓛 : Logic 𝓤} {K : Type 0} {Γ : List (Item 𝓤)} {G : Goal 𝓤 𝓛.H} where
  lend_out : K → (d : D E) (vs : List Val)
      → ((b o : ℕ) (hv : Val) → d.at ≡ block_ptr b o → vs ≡ word E hv b o ∷ [] → Fits E.al hv
      → Seq K 𝓛 (‵ (part_at (R E) full_share d.value b o) ∷ ‵ (token E.al d.alloc (bare (τ E)) (block_ptr b o)) ∷ ‵ (handle E d.alloc hv) ∷ Γ) G)
      → Seq K 𝓛 (‵ ((B E).own_val d vs) ∷ Γ) G
  lend_out t d vs k =
      fsplit t $ fpick t (λ vss. fsplit t $ feq_l t (λ ev. fsplit t $ feq_l t (λ ep. fsplit t $ handle_tells E.al t d.alloc vss.1.0 (λ hv ea fa. move t (1 ∷ []) $ drop t $ move t (1 ∷ []) $
      in_a_block t d.at (λ p. box_owns (token E.al d.alloc) (R E) p d.value) (fst∗ 𝓤 (never 𝓤) (sem 𝓛 (token E.al d.alloc (bare (τ E)) null_ptr))) (λ b o e. fsplit t $ k b o hv e
      (subst (λ (p : Ptr). vs ≡ vstruct (of_list (ptr_val p ∷ hv ∷ [])) ∷ []) e
      (subst (λ (ws : List Val). vs ≡ vstruct (of_list (ptr_val d.at ∷ (ws ++ []))) ∷ []) ea (subst (λ (ps : List Val). vs ≡ vstruct (of_list (ps ++ (vss.1.0 ++ []))) ∷ []) ep ev))) fa)))))

  lend_in : K → {hv : Val} (d : D E) (b o : ℕ) (x : X E) → d.at ≡ block_ptr b o → d.value ≡ x
      → Step K 𝓛 (‵ ((B E).own_val d (word E hv b o ∷ [])) ∷ Γ) G (‵ (part_at (R E) full_share x b o) ∷ ‵ (token E.al d.alloc (bare (τ E)) (block_ptr b o)) ∷ ‵ (handle E d.alloc hv) ∷ Γ) G
  lend_in t {hv} d b o x e f = step (λ s.
      fjoin t $ rewrite t 0 (λ (y : X E). ‵ (box_owns (token E.al d.alloc) (R E) (block_ptr b o) y)) (sym f) refl $ rewrite t 0 (λ (p : Ptr). ‵ (box_owns (token E.al d.alloc) (R E) p d.value)) (sym e) refl $
      nothing t $ move t (2 ∷ 0 ∷ []) $ fjoin t $ feq_i t (List Val) (vptr b o ∷ []) (ptr_val d.at ∷ []) (ap (λ (p : Ptr). ptr_val p ∷ []) (sym e)) $ fjoin t $
      feq_i t (List Val) (word E hv b o ∷ []) (word E hv b o ∷ []) refl $ fjoin t $
      fpack t (Valss (RawPtr ∷ P E ∷ [])) (within (shape (owning E)) (d.at, (d.alloc, tt)) (word E hv b o ∷ [])) (vptr b o ∷ [], (hv ∷ [], tt)) $ fjoin t $ s)

module _ (E : Bx) {M : Type 1} {𝓤 : Ura M} {𝓛 : Logic 𝓤} {K : Type 0} {Γ : List (Item 𝓤)} {G : Goal 𝓤 𝓛.H} where
  loose_opens : K → Soaks G → {κ : Lft} {q : Share} {γ : GName} (d : D E) (rb ro : ℕ)
      → ((b o : ℕ) (hv : Val) → d.at ≡ block_ptr b o → Seq K 𝓛 (‵ (part_at (R E) full_share d.value b o) ∷ ‵ (fsep (token E.al d.alloc (bare (τ E)) (block_ptr b o)) (handle E d.alloc hv)) ∷ ‵ (cell_at full_share (B E).mir (word E hv b o ∷ []) rb ro)
      ∷ ‵ (fobor κ q (Borrowed (mem (B E)) rb ro γ)) ∷ ‵ (fobs γ ((B E).coded.code d)) ∷ ‵ (fauth γ ((B E).coded.code d)) ∷ Γ) G)
      → Seq K 𝓛 (‵ (fobs γ ((B E).coded.code d)) ∷ ‵ (fbor κ (Borrowed (mem (B E)) rb ro γ)) ∷ ‵ (flft κ q) ∷ Γ) G
  loose_opens t z d rb ro k =
      opens t z (B E) {h = d} rb ro (λ vs. move t (1 ∷ []) $ lend_out E t d vs (λ b o hv e ws fa. move t (1 ∷ 2 ∷ []) $ fjoin t $ move t (1 ∷ []) $
      rewrite t 2 (λ (us : List Val). ‵ (cell_at full_share (B E).mir us rb ro)) ws refl $ k b o hv e))

module _ (E : Bx) where
  abbrev fn' : Fn
  fn' = inst_fn (args E) code.function

  abbrev ended : Ended
  ended = record { signature = record { lifetimes = 1; outlives = []; params = RefMutOf (0 ∷ []) tt (plain (λ _. B E)) (λ _. tt) ∷ []; result = RefMutOf (0 ∷ []) tt (plain (λ _. R E)) (λ _. tt) }; kept = (no, tt) }

  abbrev stayed : Stays ended.signature.params ended.kept
  stayed = (stay_dropped (mut_ref_to (0 ∷ []) tt (plain (λ _. B E))) no, tt)

  abbrev spec : {M : Type 1} {𝓤 : Ura M} (𝓛 : Logic 𝓤) → Clauses 𝓤 ended
  spec {𝓤 = 𝓤} 𝓛 κs a = record { ghost = Unit {0}; requires = λ _. emp 𝓤; ensures = λ _ r _. sep 𝓤 (sem 𝓛 (follows (B E) (R E) a.0.ghost_name r.ghost_name (loose_with a.0.now))) (fact 𝓤 (r.now ≡ a.0.now.value)) }

module _ (E : Bx) {M : Type 1} {𝓤 : Ura M} (𝓛 : Logic 𝓤) (κ : Lft) (q : Share) (rb ro : ℕ) (γ : GName) (h : D E) where
  open 𝓛 use {H, A}

  abbrev bound : (walk_of 𝓛 (ended E) (stayed E) (spec E 𝓛)).Ghost
  bound = (((κ, tt), (q, tt), tt, (record { ref_ptr = (rb, ro); ghost_name = γ; now = h }, tt), (vptr rb ro ∷ [], tt)), tt)

  abbrev Post : Val → SProp 𝓤
  Post = (walk_of 𝓛 (ended E) (stayed E) (spec E 𝓛)).post bound

  module _ (b o : ℕ) (hv : Val) where
    -- all of the Box but its value
    abbrev Rest : Fml
    Rest = fsep (fsep (token E.al h.alloc (bare (τ E)) (block_ptr b o)) (handle E h.alloc hv)) (cell_at full_share (B E).mir (word E hv b o ∷ []) rb ro)

    back : h.at ≡ block_ptr b o → (w : X E) → ent 𝓤 (sep 𝓤 (sem 𝓛 ((mem (R E)).own_at w b o)) (sem 𝓛 Rest)) (sem 𝓛 ((mem (B E)).own_at (loose_with h w) rb ro))
    unfolding part_of
    back at_b w =
        qed 𝓛 (‵ (part_at (R E) full_share w b o) ∷ ‵ Rest ∷ []) ∵ move ! (1 ∷ []) $ fsplit ! $ fsplit ! $ move ! (3 ∷ []) $
        lend_in E ! (loose_with h w) b o w at_b refl $ move ! (1 ∷ 0 ∷ []) $ fjoin ! $
        fpack ! (List Val) (λ us. fsep (cell_at full_share (B E).mir us rb ro) ((B E).own_val (loose_with h w) us)) (word E hv b o ∷ []) $ done !

    exits : (γ' : GName)
        → ent 𝓤 (sep 𝓤 (sem 𝓛 ((MutRef (named 0) κ (R E)).own_val (record { ref_ptr = (b, o); ghost_name = γ'; now = h.value }) (vptr b o ∷ []))) (sep 𝓤 (A.lft κ q) (sem 𝓛 (follows (B E) (R E) γ γ' (loose_with h))))) (Post (vptr b o))
    exits γ' =
        qed 𝓛 (‵ ((MutRef (named 0) κ (R E)).own_val (record { ref_ptr = (b, o); ghost_name = γ'; now = h.value }) (vptr b o ∷ [])) ∷ ‵ (flft κ q) ∷ ‵ (follows (B E) (R E) γ γ' (loose_with h)) ∷ []) ∵
        suffices ! _ (ends_at 𝓛 (ended E) (stayed E) (spec E 𝓛) bound (vptr b o) (record { ref_ptr = (b, o); ghost_name = γ'; now = h.value }) (tt, tt) (tt, tt)) $
        nothing ! $ nothing ! $ fjoin ! $ join ! $ nothing ! $ move ! (2 ∷ 0 ∷ []) $ join ! $ join ! $ frame ! $ says ! refl $ done !

  module _ (C : Calls 𝓤 H) (Λ : Loops 𝓤 H) where
    walk : ent 𝓤 (on_entry 𝓛 (ended E).signature (κ, tt) (q, tt) (record { ref_ptr = (rb, ro); ghost_name = γ; now = h }, tt) (vptr rb ro ∷ [], tt)) (WpFn 𝓤 H C Λ (fn' E) (vptr rb ro ∷ []) Post)
    walk =
        qed 𝓛 ((‵ (flft κ q) ⊛ ‵ ftrue) ∷ ‵ (owns (MutRef (named 0) κ (B E) ∷ []) (record { ref_ptr = (rb, ro); ghost_name = γ; now = h }, tt) (vptr rb ro ∷ [], tt)) ∷ []) ∵
        enter ! C Λ (fn' E) (vptr rb ro ∷ []) _ $
        alloc_all ! (λ l. pass_all ! refl ((tt, tt), tt) $
        let En : Env 𝓤 H = env (fn' E).locals l in
        move ! (1 ∷ []) $ fsplit ! $ fsplit3 ! $ drop ! $ move ! (3 ∷ []) $ split ! $ move ! (2 ∷ 3 ∷ 0 ∷ []) $
        loose_opens E ! tt h rb ro (λ b o hv at_b.
        sets ! (of_opd ! (load ! (through ! refl (fld ! refl (stop !))) (look_in ! 2 (sub ! 0 refl (whole !))))) refl (tt, tt) $
        first ! $ blocks ! $
        sets_last ! (addr ! (through ! refl (stop !))) refl (tt, tt) $
        exec ! C Λ En (after 2 (fn' E).body) (at_ret En Post) $
        sets ! (of_opd ! (get ! refl)) refl (tt, tt) $
        move ! (1 ∷ 2 ∷ []) $ fjoin ! $ move ! (2 ∷ 3 ∷ 4 ∷ 1 ∷ 0 ∷ []) $ group ! 5 $
        use1 𝓛 (later (some (λ (γ' : GName). raw (Part 𝓛 (B E) (R E) (loose_with h) (named 0) κ q rb ro b o γ (sem 𝓛 (Rest b o hv)) (back b o hv at_b) h.value γ'))))
        (lends_Part 𝓛 (B E) (R E) (loose_with h) (named 0) κ q rb ro b o γ (sem 𝓛 (Rest b o hv)) (back b o hv at_b) ((B E).coded.code h) ((B E).coded.code h) h.value) $ await ! tt $ pick ! (λ γ'.
        returns ! (look_at ! 0 refl) $ free_all ! refl $
        keep ! (0 ∷ []) $ by ! (exits b o hv γ'))))

meets : (E : Bx) {M : Type 1} {𝓤 : Ura M} (𝓛 : Logic 𝓤) (𝓣 : Tables 𝓤 𝓛.H)
    → Meets 𝓛 (ended E).signature (WpFn 𝓤 𝓛.H 𝓣.C 𝓣.Λ (fn' E)) (closing 𝓛 (ended E) (spec E 𝓛))
meets E {𝓤 = 𝓤} 𝓛 𝓣 =
    walk_Meets 𝓛 (ended E) (stayed E) (Goes-spent_ref 𝓛 1 (0 ∷ []) tt (plain (λ _. B E)), tt) (spec E 𝓛) (WpFn 𝓤 𝓛.H 𝓣.C 𝓣.Λ (fn' E)) (WpFn-mono 𝓤 𝓛.H 𝓛.laws 𝓣 (fn' E))
    (walked 𝓛 (ended E) (stayed E) (spec E 𝓛) (WpFn 𝓤 𝓛.H 𝓣.C 𝓣.Λ (fn' E)) (λ κs. (mut_vals, tt)) (λ κs. (mut_Tells (named 0) κs.0 (B E), tt))
    (λ κs qs bounds a g are. via 𝓤 _ (fst∗ 𝓤 _ (emp 𝓤)) (walk E 𝓛 κs.0 qs.0 a.0.ref_ptr.0 a.0.ref_ptr.1 a.0.ghost_name a.0.now 𝓣.C 𝓣.Λ)))

pub as_mut_spec : {M : Type 1} → stated.statement M
unfolding tables_of
as_mut_spec 𝓤 𝓛 𝓜 𝓡 wired Y Z L LZ g d dd met md y =
    let E : Bx = record { row = Y; laws = L; al = record { row = Z; laws = LZ; g = g; d = d; drops = dd } } in
    let A = 𝓛.A in
    let 𝓣 : Tables 𝓤 𝓛.H = tables_of 𝓤 𝓛.H 𝓜 (tables 𝓤 𝓛.H 𝓜 𝓡 𝓡.env) in
    spared 𝓛 (ended E).signature (𝓡.run (𝓡.env (#self (args E)))) (run_framed 𝓤 𝓛.H 𝓜 𝓡 (𝓡.env (#self (args E)))) 2 (Y.lives, (Z.lives, tt)) (closing 𝓛 (ended E) (spec E 𝓛))
    (entered 𝓤 𝓛.H (triple_of 𝓛 (ended E).signature (closing 𝓛 (ended E) (spec E 𝓛))) 𝓣.C 𝓣.Λ (#self (args E)) (fn' E) (code.unfolded 𝓤 𝓛.H 𝓜 𝓡 wired (Y, (Z, tt)) d dd) (meets E 𝓛 𝓣))
    ((y.0.0, y.0.1, tt, y.0.3, y.0.4), y.1)
