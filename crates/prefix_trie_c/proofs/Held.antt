-- A call on what a handle holds, once it is known what it held and what it holds then.
use Rattle.std.proofs.Common.{◌≡◌, ℕ, Option, Some, subst, sym}
use Rattle.prefix_trie_c.specs.Calls.{OnHeld}

pub on_held : {X : Type 0} {old new : Option X} {t u : X} {P : Type 0} (code : ℕ) (F : X → X → Type 0)
    → old ≡ Some t → new ≡ Some u → F t u → P → OnHeld old new P code F
on_held {X} {old} {new} {t} {u} {P} code F was is done stays =
    subst (λ x. OnHeld x new P code F) (sym was) (subst (λ y. OnHeld (Some t) y P code F) (sym is) (done, stays))
