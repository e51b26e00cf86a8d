-- If the last prefix of a chain contains another, so do all before it, and otherwise popping it loses no cover.
use Rattle.std.proofs.Common.{rules, ◌≡◌, ◌∙◌, ◌-◌, ◌++◌, [], ◌∷◌, true, false, sym, length, Some, subst, All}
use Rattle.std.specs.List.{slice_get}
use Rattle.prefix_trie.specs.Terms.{begins}
use Rattle.prefix_trie_ops.specs.Values.{IsChain}
use Rattle.prefix_trie_ops.proofs.Chains.{last-get, all-contain, popped, popped_item, chain-first, All-first}
use Rattle.prefix_trie_ops.proofs.map.aggregation.pop_apart.Goals as goal

pub returns-then-contains : goal.returns-then-contains
returns-then-contains g c =
    let h : slice_get c.loop-covering.above.items (length c.loop-covering.above.items - 1) ≡ Some c.in-Some.field-0.now = search rules in
    let b : begins (g.P.Prefix.path c.in-Some.field-0.now.0) (g.P.Prefix.path c.args.prefix.now) ≡ true = search rules in
    sym (all-contain g.P.Prefix.path (g.P.Prefix.path c.args.prefix.now) c.loop-covering.above.items c.in-Some.field-0.now c.loop-covering.invariant.1 (sym (last-get c.loop-covering.above.items) ∙ h) b)
    ∙ c.loop-covering.invariant.0

pub loop-covering-preserved-else-contains : goal.loop-covering-preserved-else-contains
loop-covering-preserved-else-contains g c =
    let h : slice_get c.loop-covering.above.items (length c.loop-covering.above.items - 1) ≡ Some c.in-Some.field-0.now = search rules in
    let b : begins (g.P.Prefix.path c.in-Some.field-0.now.0) (g.P.Prefix.path c.args.prefix.now) ≡ false = search rules in
    let is : c.loop-covering.above.items ≡ c.pop.new.self.items ++ c.in-Some.field-0.now ∷ [] =
    popped_item c.loop-covering.above.items c.pop.new.self.items c.pop.result c.in-Some.field-0.now c.pop.ensures.items (sym (last-get c.loop-covering.above.items) ∙ h) (λ n. search (rules, n)) in (
      popped g.P.Prefix.path (g.P.Prefix.path c.args.prefix.now) c.loop-covering.above.items c.pop.new.self.items c.in-Some.field-0.now is b ∙ c.loop-covering.invariant.0,
      chain-first g.P.Prefix.path c.pop.new.self.items _ (subst (IsChain g.P.Prefix.path) is c.loop-covering.invariant.1),
      All-first (λ e. g.P.Prefix.IsFitting e.0) c.pop.new.self.items _ (subst (All (λ e. g.P.Prefix.IsFitting e.0)) is c.loop-covering.invariant.2),
    )
