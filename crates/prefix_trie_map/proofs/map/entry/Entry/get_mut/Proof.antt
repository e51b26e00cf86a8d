-- `get_mut` lends what the occupied entry lends, and a vacant entry stays. Assumes `Logic`.
use Rattle.prefix_trie_map.proofs.Loans.{◌≡◌, ℕ, None, Some, Option, [], ◌∷◌, refl, sym, MutBor, proved, Args, named, a_type, dcons, dnil, Val, vptr, vcons, vnil, inst_fn, full_share, ent, emp, id⊢, Fml, GName, ftrue, fat, flft, fres, fact, fact_i, tables, ‵, raw, ◌⊛◌, some, later, ◌$◌, ◌∵◌, !, qed, done, move, keep, drop, use0, use1, use2, split, join, fjoin, pick, await, rewrite, suffices, frame, agg, enter, of_opd, lit, addr, stop, no_more, and_then, returns, alloc_all, pass_all, free_all, look_at, get, through, sets, lands_as, param, copied, bounded, Laws, no, lone, mem, part_at, RattleType, MutRef, mut_vals, mut_Tells, plain, mut_ref_to, nothing, heard, peeks, shows, calls_at, lasts, triple_of, framed, Stays, stay_dropped, walk_of, ends_at, Goes-spent_ref, option_laws, Lent, lent_laws}
use Rattle.prefix_trie_map.proofs.Prelude.{false, true≢false, ap, is_some}
use Rattle.std.proofs.RcSteps.{Some-of, none_of}
use Rattle.prefix_trie_map.proofs.Variants.{variants, opened, lends}
use native.Mathlib.Nat.{suc-ne-zero}
use Prim.Native.Nat.{◌+◌}
use mir.Syntax.{Ty, erased, ty_enum}
use prog.Memory.{up, align}
use prog.Wp.{WpFn}
use types.Kit.{at_ret, split3, fsplit3, group}
use types.Part.{whole}
use types.Run.{fld, load, first, exec}
use types.Match.{live, vrt, look_tag, by_variants}
use types.ByLocal.{sets_last, env}
use types.Mut.{open_ref, close_ref}
use denote.Follow.{follows, follows_by, follows_then}
use denote.Signature.{named_lft}
use denote.Ref.{NamedLft}
use denote.Steps.{only}
use borrow.Table.OneValue.{part_in_at, part_out_at}
use Rattle.std.proofs.VecSteps.Shapes.{after}
use Rattle.std.specs.contracts.option.Option as option
use Rattle.std.specs.FinMap.{get as lookup}
use Rattle.prefix_trie_map.specs.Entry.{Occupied, Vacant, entry_value, with_value_in}
use Rattle.prefix_trie_map.specs.contracts.map.entry.Entry as entry
use Rattle.prefix_trie_map.specs.contracts.map.entry.OccupiedEntry as occupied
use Rattle.prefix_trie_map.specs.contracts.map.entry.VacantEntry as vacant
use Rattle.prefix_trie_map.specs.contracts.map.entry.Entry.get_mut as f
use Rattle.prefix_trie_map.specs.contracts.map.entry.OccupiedEntry.get_mut as h
use Rattle.prefix_trie_map.proofs.map.entry.OccupiedEntry.get_mut.Met.{met as h_met}
use Rattle.prefix_trie_map.proofs.map.entry.Entry.get_mut.Statement.{statement}
use Rattle.prefix_trie_map.proofs.map.entry.Entry.get_mut.Code as code

-- nothing is found where no key is
missing : {X : Type 0} (o : Option X) → is_some o ≡ false → None ≡ o
missing None e = refl
missing (Some x) e = absurd (true≢false e)

pub get_mut_spec : {M : Type 1} → statement M
unfolding follows_by
get_mut_spec 𝓤 𝓛 𝓜 𝓡 wired P T A R lP lT lA lR cR p p' d d' k k' n n' e₁ e₁' s s' w₁ w₁' g g' xP xT xA mp md mk mn me ms mw mg gP gT gA =
    let En = f.ended P T A R p p' d d' k k' n n' e₁ e₁' s s' w₁ w₁' g g' xP xT xA in
    let c = f.clauses P T A R p p' d d' k k' n n' e₁ e₁' s s' w₁ w₁' g g' xP xT xA 𝓛 𝓜.mem 𝓡.returns in
    let args : Args = bounded (a_type ∷ a_type ∷ a_type ∷ a_type ∷ []) (P, (T, (A, (R, tt))))
    (dcons p' (dcons d' (dcons k' (dcons n' (dcons e₁' (dcons s' (dcons w₁' (dcons g' (dcons xP (dcons xT (dcons xA dnil))))))))))) in
    let fn = inst_fn args code.function in
    let Whole : NamedLft → RattleType = λ ℓ. entry.the_row ℓ (param 0 P) (param 1 T) (param 2 A) (copied 3 R) p d k s w₁ g in
    let Field : NamedLft → RattleType = λ ℓ. occupied.the_row ℓ (param 0 P) (param 1 T) (param 2 A) (copied 3 R) p d k s w₁ g in
    let Other : NamedLft → RattleType = λ ℓ. vacant.the_row ℓ (param 0 P) (param 1 T) (param 2 A) (copied 3 R) p d k s w₁ g in
    let bare : NamedLft = record { mir = erased; lft = [] } in
    let σ : Ty = lone (Other bare).mir in let τ : Ty = lone (Field bare).mir in
    let ν = (entry.the_type bare (param 0 P) (param 1 T) (param 2 A) (copied 3 R) p d k s w₁ g).name in
    let ω : Ty = ty_enum ν (variants σ τ) in
    let 𝓣 = tables 𝓤 𝓛.H 𝓜 𝓡 𝓡.env in
    let hs : Stays En.signature.params En.kept = (stay_dropped (mut_ref_to (0 ∷ []) tt (plain (λ κs. Whole (named_lft 6 1 tt κs)))) no, tt) in
    let W = walk_of 𝓛 En hs c in
    proved 𝓛 En hs c 𝓜 𝓡 (Goes-spent_ref 𝓛 6 (0 ∷ []) tt (plain (λ κs. Whole (named_lft 6 1 tt κs))), tt)
    (f.Key.name args) fn (code.unfolded 𝓤 𝓛.H 𝓜 𝓡 wired (P, (T, (A, (R, tt)))) p' d' k' n' e₁' s' w₁' g' xP xT xA)
    (λ κs. (mut_vals, tt)) (λ κs. (mut_Tells (named 0) κs.0 (Whole (named_lft 6 1 tt κs)), tt)) (λ κs qs bounds xs _ are.
    let ℓ : NamedLft = named_lft 6 1 tt κs in let G : RattleType = Whole ℓ in let F : RattleType = Field ℓ in
    let κ = κs.0 in let b = xs.0.ref_ptr.0 in let o = xs.0.ref_ptr.1 in let γ = xs.0.ghost_name in let vs = mut_vals xs.0 in
    let at : ℕ = o + up (align τ) 1 in
    let y : G.Denot → W.Ghost = λ e. ((κs, qs, bounds, (record xs.0 { now = e }, tt), (vs, tt)), tt) in
    let tok = ‵ (flft κ qs.0) in
    let others = ‵ (flft κs.1.0 qs.1.0) ⊛ ‵ (flft κs.1.1.0 qs.1.1.0) ⊛ ‵ (flft κs.1.1.1.0 qs.1.1.1.0) ⊛ ‵ (flft κs.1.1.1.1.0 qs.1.1.1.1.0) ⊛ ‵ (flft κs.1.1.1.1.1.0 qs.1.1.1.1.1.0) ⊛ ‵ ftrue in
    let Found : RattleType = option.the_row (Lent 1 T κ) in
    let found_laws : Laws Found = option_laws (Lent 1 T κ) (lent_laws 1 T lT κ) in
    let cell : Val → Fml = λ w. fat full_share ω b o w in
    elim xs.0.now as (λ e. ent 𝓤 (W.pre (y e)) (WpFn 𝓤 𝓛.H 𝓣.C 𝓣.Λ fn vs (W.post (y e)))) [
      | Vacant v ↦
          let e : G.Denot = Vacant v in let none : Val = live 0 vnil in
          let Value : Type 0 = None ≡ lookup v.map.now.entries (p.path v.key) in
          qed 𝓛 (((tok ⊛ others) ⊛ ‵ ((MutRef (named 0) κ G).own_val (record xs.0 { now = e }) vs) ⊛ ‵ ftrue) ∷ raw ((c κs (record xs.0 { now = e }, tt)).requires tt) ∷ []) ∵
          split ! $ split ! $ move ! (2 ∷ []) $ split ! $ fsplit3 ! $ keep ! (1 ∷ 2 ∷ 4 ∷ 5 ∷ []) $
          enter ! _ _ _ _ _ $ alloc_all ! (λ l. pass_all ! refl ((tt, tt), tt) $
          open_ref ! tt (mem G) $
          use1 𝓛 (some (λ (w : Val). ‵ (cell w) ⊛ ‵ (G.own_val e (w ∷ [])))) (part_out_at 𝓛 G refl full_share e b o ω refl) $ pick ! (λ w. split ! $
          move ! (1 ∷ []) $ peeks ! G _ (shows 𝓛 G) e (w ∷ []) (λ is.
          rewrite ! 1 (λ (u : Val). ‵ (cell u)) (ap only is.1.0) refl $
          -- [what the entry owns; its cell; the open borrow, in three entries; the other tokens]
          use0 𝓛 (‵ (Found.own_val None (none ∷ []))) (none_of 𝓛 (Lent 1 T κ)) $
          peeks ! Found _ (shows 𝓛 Found) None (none ∷ []) (λ is_none. let none_ok = ((found_laws.lawful 𝓛).typed None (none ∷ []) is_none).0 in
          first ! $ by_variants ! 2 (whole !) (load ! (through ! refl (vrt ! refl (fld ! refl (stop !)))) (look_tag ! 2 (whole !))) tt (
            (λ _. sets_last ! (agg ! (and_then ! (lit ! tt) (no_more !))) refl none_ok $
                exec ! 𝓣.C 𝓣.Λ (env fn.locals l) (after 1 fn.body) (at_ret _ (W.post (y e))) $ sets ! (of_opd ! (get ! refl)) refl none_ok $
                rewrite ! 2 (λ (u : Val). ‵ (cell u)) (sym (ap only is.1.0)) refl $ move ! (2 ∷ 1 ∷ []) $
                use2 𝓛 (‵ (part_at G full_share e b o)) (part_in_at 𝓛 G refl full_share e b o ω refl w) $ move ! (0 ∷ 2 ∷ 3 ∷ 4 ∷ []) $
                close_ref ! tt (mem G) e $ use1 𝓛 (‵ (fres γ (G.coded.code e))) (𝓛.names.obs-res γ (G.coded.code e)) $ move ! (1 ∷ []) $ drop ! $
                -- [the entry's last value; its token; what is returned; the other tokens]
                returns ! (look_at ! 0 refl) $ free_all ! refl $ move ! (2 ∷ []) $
                suffices ! _ (ends_at 𝓛 En hs c (y e) none None (tt, tt) (tt, tt)) $
                nothing ! $ nothing ! $ fjoin ! $ join ! $ move ! (2 ∷ 3 ∷ []) $ join ! $ join ! $ frame ! $ frame ! $
                use0 𝓛 (raw (fact 𝓤 Value)) (fact_i 𝓤 Value (emp 𝓤) (missing (lookup v.map.now.entries (p.path v.key)) v.absent)) $ done !),
            ((λ is_one. absurd (suc-ne-zero 0 (sym is_one))), tt),
          )))))
      | Occupied v ↦
          let e : G.Denot = Occupied v in
          qed 𝓛 (((tok ⊛ others) ⊛ ‵ ((MutRef (named 0) κ G).own_val (record xs.0 { now = e }) vs) ⊛ ‵ ftrue) ∷ raw ((c κs (record xs.0 { now = e }, tt)).requires tt) ∷ []) ∵
          split ! $ split ! $ move ! (2 ∷ []) $ split ! $ fsplit3 ! $ keep ! (1 ∷ 2 ∷ 4 ∷ 5 ∷ 6 ∷ []) $
          enter ! _ _ _ _ _ $ alloc_all ! (λ l. pass_all ! refl ((tt, tt), tt) $
          open_ref ! tt (mem G) $
          use1 𝓛 (some (λ (w : Val). ‵ (cell (live 1 (vcons w vnil))) ⊛ ‵ (F.own_val v (w ∷ [])))) (opened G F Occupied ν σ τ refl refl refl refl (λ y us. refl) 𝓛 b o v) $ pick ! (λ w. split ! $
          first ! $ by_variants ! 0 (whole !) (load ! (through ! refl (vrt ! refl (fld ! refl (stop !)))) (look_tag ! 0 (whole !))) tt (
            (λ is_none. absurd (suc-ne-zero 0 is_none)),
            (
              (λ _. sets ! (addr ! (through ! refl (vrt ! refl (fld ! refl (stop !))))) refl (tt, tt) $
                  sets ! (addr ! (through ! refl (stop !))) refl (tt, tt) $ group ! 5 $
                  use1 𝓛 (later (some (λ (δ : GName). ‵ ((MutRef (named 0) κ F).own_val (record { ref_ptr = (b, at); ghost_name = δ; now = v }) (vptr b at ∷ [])) ⊛ tok ⊛ ‵ (follows G F γ δ Occupied))))
                  (lends G F Occupied ν σ τ refl refl refl refl (λ y us. refl) 𝓛 b o κ qs.0 γ v w (G.coded.code e)) $ await ! tt $ pick ! (λ δ. split3 ! $
                  -- [the occupied entry, lent; its token; what the entry follows; the other tokens; what is required]
                  let lent : MutBor F.Denot = record { ref_ptr = (b, at); ghost_name = δ; now = v } in
                  let Q = triple_of 𝓛 (h.signature P T A R p p' d d' k k' n n' e₁ e₁' s s' w₁ w₁' g g' xP xT xA) (h.spec P T A R p p' d d' k k' n n' e₁ e₁' s s' w₁ w₁' g g' xP xT xA 𝓛 𝓜.mem 𝓡.returns) in
                  let z : Q.Ghost = ((κs, qs, bounds, (lent, tt), (mut_vals lent, tt)), tt) in
                  nothing ! $ move ! (1 ∷ 0 ∷ []) $ join ! $ move ! (1 ∷ 3 ∷ []) $ join ! $ join ! $ move ! (0 ∷ 2 ∷ []) $ use2 𝓛 (raw (Q.pre z)) (id⊢ 𝓤 _) $
                  calls_at ! (framed 𝓤 𝓛.H 𝓜 𝓣) Q (h_met 𝓤 𝓛 𝓜 𝓡 (code.calls-prefix_trie_map::map::entry::OccupiedEntry::get_mut 𝓡.env wired) P T A R lP lT lA lR cR p p' d d' k k' n n' e₁ e₁' s s' w₁ w₁' g g' xP xT xA mp md mk mn me ms mw mg gP gT gA) z
                  (and_then ! (get ! refl) (no_more !)) (λ u.
                  let Value : MutBor T.Denot → Type 0 = λ r. entry_value (Occupied v) ≡ Some r.now in
                  let Written : T.Denot → F.Denot = with_value_in v in
                  use1 𝓛 (later (some (λ (r : MutBor T.Denot). ((tok ⊛ others) ⊛ ‵ ((Lent 1 T κ).own_val r (u ∷ [])))
                  ⊛ some (λ (es : Unit {0} × Unit {0}). ‵ (lasts (h.ended P T A R p p' d d' k k' n n' e₁ e₁' s s' w₁ w₁' g g' xP xT xA) z.0.0 z.0.3 es) ⊛ ‵ (follows F (param 1 T) δ r.ghost_name Written) ⊛ raw (fact 𝓤 (Value r)))))) (id⊢ 𝓤 _) $
                  await ! tt $ pick ! (λ r. split ! $ move ! (1 ∷ []) $ pick ! (λ es. split ! $ drop ! $ split ! $ move ! (1 ∷ []) $ heard ! (Value r) (λ value.
                  move ! (2 ∷ 0 ∷ []) $ use2 𝓛 (‵ (follows G (param 1 T) γ r.ghost_name (λ t. Occupied (Written t)))) (follows_then 𝓛 G F (param 1 T) Occupied Written γ δ r.ghost_name) $
                  move ! (1 ∷ []) $ split ! $ move ! (1 ∷ []) $
                  -- [the value, lent; the tokens; what the entry follows]
                  peeks ! (Lent 1 T κ) _ (shows 𝓛 (Lent 1 T κ)) r (u ∷ []) (λ is_lent.
                  lands_as ! refl refl (((lent_laws 1 T lT κ).lawful 𝓛).typed r (u ∷ []) is_lent).0 $
                  let found : Val = live 1 (vcons u vnil) in
                  use1 𝓛 (‵ (Found.own_val (Some r) (found ∷ []))) (Some-of 𝓛 (Lent 1 T κ) r u) $
                  peeks ! Found _ (shows 𝓛 Found) (Some r) (found ∷ []) (λ is_found. let found_ok = ((found_laws.lawful 𝓛).typed (Some r) (found ∷ []) is_found).0 in
                  sets_last ! (agg ! (and_then ! (lit ! tt) (and_then ! (get ! refl) (no_more !)))) refl found_ok $
                  exec ! 𝓣.C 𝓣.Λ (env fn.locals l) (after 1 fn.body) (at_ret _ (W.post (y e))) $ sets ! (of_opd ! (get ! refl)) refl found_ok $
                  returns ! (look_at ! 0 refl) $ free_all ! refl $
                  suffices ! _ (ends_at 𝓛 En hs c (y e) found (Some r) (tt, tt) (tt, tt)) $
                  nothing ! $ nothing ! $ fjoin ! $ join ! $ move ! (1 ∷ 0 ∷ []) $ join ! $ frame ! $ frame ! $
                  use0 𝓛 (raw (fact 𝓤 (Some r.now ≡ entry_value (Occupied v)))) (fact_i 𝓤 (Some r.now ≡ entry_value (Occupied v)) (emp 𝓤) (sym value)) $ done !)))))))),
              tt,
            ),
          )))
    ])
