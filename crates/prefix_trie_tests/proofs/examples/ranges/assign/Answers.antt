-- Two numbers share their first bits exactly if dividing them by a power of two gives the same, by `narrow_laws`.
use Rattle.prefix_trie_tests.proofs.Prelude.{rules, ◌<◌, ◌≤◌, ◌^◌, ℕ, List, Bool, length, take, sym, ◌∙◌, subst, eq-eqb, IfSome, longest_match}
use Rattle.prefix_trie.specs.Terms.{digits, narrow_width}
use Rattle.prefix_trie_tests.proofs.examples.ranges.assign.Goals as goal

pub returns-clause-owned : goal.returns-clause-owned
returns-clause-owned g c number below same shorter =
    let w = narrow_width g.row.W in
    let first = c.args.first in
    let known = longest_match c.args.plan.now.entries (digits w number) in
    let small : first < 2 ^ w = search rules in
    let within = c.narrow_laws.ensures.contains first number c.args.len small below c.requires ∙ eq-eqb _ _ (sym same) in
    let fits = subst (λ n. IfSome known (λ (e : List Bool × ℕ). length e.0 ≤ n)) (sym (c.narrow_laws.ensures.as_long first c.args.len c.requires)) shorter in
    let set = c.lookup_laws.ensures.set c.args.plan.now.entries (digits w number) (take c.args.len (digits w first)) c.args.owner within fits in
    search rules
