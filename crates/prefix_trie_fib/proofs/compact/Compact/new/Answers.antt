-- Ranges by the upper 64 bits of their first addresses are the same ranges, and as many.
use Rattle.std.proofs.Common.{◌≡◌, ◌^◌, ◌<◌, ◌≤◌, arith, length, subst, sym}
use Rattle.std.specs.Prelude.{IfSome}
use Rattle.prefix_trie_fib.specs.Layouts.{ranges_in, widened}
use Rattle.prefix_trie_fib.specs.Line.{IsDivision}
use Rattle.prefix_trie_fib.proofs.Layouts.{upper_division, widened_length}
use Rattle.prefix_trie_fib.proofs.compact.Compact.new.Goals as goal
use Rattle.prefix_trie_fib.proofs.compact.Compact.new.Goals.{in-Some+in_ok-new-in-Some, in-None+in_ok-new-in-None}

pub new-requires : goal.new-requires
new-requires g c =
    let w = g.K.Key.bit_width in
    let made : (64 ≤ w) × (widened w c.in-Some.upper ≡ c.args.line) = subst (λ o. IfSome o (λ upper. (64 ≤ w) × (widened w upper ≡ c.args.line))) c.in-Some.is c.in-Ok.ensures in
    upper_division w c.in-Some.upper (subst IsDivision (sym made.1) c.requires)

pub returns-clause-few : goal.returns-clause-few
returns-clause-few g c =
    let w = g.K.Key.bit_width in
    elim c.match-upper.branch [
      | in-Some+in_ok-new-in-Some upper ↦
          subst (λ layout. length (ranges_in w layout) < 2 ^ 32) (sym upper.layout-is)
          (let long = widened_length w upper.in_ok-new-in-Some.field-0 in let few = upper.in_ok-new-in-Some.ensures.few in omega (arith, long, few))
      | in-None+in_ok-new-in-None whole ↦ subst (λ layout. length (ranges_in w layout) < 2 ^ 32) (sym whole.layout-is) whole.in_ok-new-in-None.ensures.few
    ]
