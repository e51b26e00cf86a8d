-- One range alone starts at 0, and has a value or none.
use Rattle.std.proofs.Common.{◌≡◌, ◌∙◌, Bool, true, false, not, None, Option, Some, IsTrue, ap, arith, get_or, is_some, refl, rules, sym, ℕ}
use Rattle.prefix_trie_fib.proofs.RangeValues.{single}
use Rattle.prefix_trie_fib.proofs.fib.Fib.is_empty.Goals as goal

-- what `is_none` returns
none_or_some : {T : Type 0} (o : Option T) (b : Bool) → is_some o ≡ not b → (IsTrue b → None ≡ o) × (o ≡ None → IsTrue b)
none_or_some None true h = (λ _. refl, λ _. search rules)
none_or_some None false h = (λ _. refl, λ _. absurd (let e : false ≡ true = h in cc))
none_or_some (Some x) true h = (λ _. absurd (let e : true ≡ false = h in cc), λ _. search rules)
none_or_some (Some x) false h = (λ t. absurd (search rules), λ e. absurd (cc))

pub returns-then-len-eq1 : goal.returns-then-len-eq1
returns-then-len-eq1 g c =
    let test = none_or_some c.value.result c.is_none.result c.is_none.ensures in
    let is : c.args.self.now ≡ c.self.inside.ranges = sym c.self.view_is in (
      λ t. is ∙ single c.self.inside.ranges None c.self.invariant.0 (omega (arith, c.len.ensures, c.if-len-eq1.true)) (λ d. test.0 t ∙ c.value.ensures d),
      λ e. test.1 (c.value.ensures (0, None) ∙ ap (λ rs. (get_or {A = ℕ × Option g.row.T.Denot} rs 0 (0, None)).1) (sym is ∙ e)),
    )
