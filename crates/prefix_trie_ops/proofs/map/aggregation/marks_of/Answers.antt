-- The loop that marks the entries to keep: the stack has the covers of the last entry read.
use Rattle.std.proofs.Common.{rules, ◌≡◌, ◌∙◌, ◌++◌, [], ◌∷◌, not, map, All, ap, sym, subst, is_some}
use Rattle.std.proofs.lemmas.List.Elements.{All-nil, All-head, All-rest}
use Rattle.prefix_trie.specs.Terms.{begins, lent_item}
use Rattle.prefix_trie_ops.specs.Values.{IsChain}
use Rattle.prefix_trie_ops.proofs.Chains.{filter_lent, push_lent, chain-next, fits-next}
use Rattle.prefix_trie_ops.proofs.PrefixStacks.{walks_start, walks_on}
use Rattle.prefix_trie_ops.proofs.map.aggregation.marks_of.Goals as goal

pub loop-prefix-init : goal.loop-prefix-init
loop-prefix-init g c =
    let m = c.args.table.now.entries in
    let all = c.into_iter-prefix-iterator.ensures.into_iter_gives ∙ c.iter-prefix-items.ensures.items in (
      tt,
      tt,
      walks_start g.P.Prefix.path g.P.Prefix.back g.T.PartialEq.eq m _ _ _ all (ap (map lent_item) c.new-above.ensures.items) c.new-marks.ensures.items,
      subst (IsChain g.P.Prefix.path) (sym c.new-above.ensures.items) tt,
      subst (All (λ e. g.P.Prefix.IsFitting e.0)) (sym c.new-above.ensures.items) (All-nil (λ e. g.P.Prefix.IsFitting e.0)),
      subst (All (λ e. g.P.Prefix.IsFitting e.0)) (sym all) (c.listed_laws.ensures.listed_fit m c.iter-prefix-items.ensures.whole.is_map.keys_within),
    )

pub pop_apart-requires-clause-fits : goal.pop_apart-requires-clause-fits
pop_apart-requires-clause-fits g c =
    All-head (λ e. g.P.Prefix.IsFitting e.0) (c.in-Some.prefix, c.in-Some.value.now) c.next.new.self (subst (All (λ e. g.P.Prefix.IsFitting e.0)) c.in-Some.ensures.steps c.loop-prefix.invariant.5)

pub loop-prefix-preserved : goal.loop-prefix-preserved
loop-prefix-preserved g c =
    let m = c.args.table.now.entries in
    let path = g.P.Prefix.path in
    let pushed : c.push-in-loop-prefix.new.self.items ≡ c.pop_apart.new.above.items ++ (c.in-Some.prefix, c.in-Some.value) ∷ [] = search rules in
    let marked : c.push.new.self.items ≡ c.loop-prefix.marks.items ++ not c.is_top_equal.result ∷ [] = search rules in (
      tt,
      tt,
      walks_on path g.P.Prefix.back g.T.PartialEq.eq m c.loop-prefix.prefix-iterator c.next.new.self (c.in-Some.prefix, c.in-Some.value.now)
          (map lent_item c.loop-prefix.above.items) (map lent_item c.pop_apart.new.above.items) (map lent_item c.push-in-loop-prefix.new.self.items)
          c.loop-prefix.marks.items c.push.new.self.items c.is_top_equal.result
          (λ e at. let got = (c.listing_laws.ensures.has_each m e.0 e.1).1 at in (c.listed_laws.ensures.key_is m c.iter-prefix-items.ensures.whole.is_map.keys_within e.0 (ap is_some got), got))
          c.in-Some.ensures.steps
          (ap (map lent_item) c.pop_apart.ensures ∙ filter_lent (λ p. begins (path p) (path c.in-Some.prefix)) c.loop-prefix.above.items)
          c.is_top_equal.ensures
          (ap (map lent_item) pushed ∙ push_lent c.pop_apart.new.above.items (c.in-Some.prefix, c.in-Some.value))
          marked c.loop-prefix.invariant.2,
      chain-next path c.loop-prefix.above.items c.pop_apart.new.above.items c.push-in-loop-prefix.new.self.items (c.in-Some.prefix, c.in-Some.value) c.pop_apart.ensures pushed c.loop-prefix.invariant.3,
      fits-next path g.P.Prefix.IsFitting c.loop-prefix.above.items c.pop_apart.new.above.items c.push-in-loop-prefix.new.self.items (c.in-Some.prefix, c.in-Some.value) c.pop_apart.ensures pushed
          (All-head (λ e. g.P.Prefix.IsFitting e.0) (c.in-Some.prefix, c.in-Some.value.now) c.next.new.self (subst (All (λ e. g.P.Prefix.IsFitting e.0)) c.in-Some.ensures.steps c.loop-prefix.invariant.5)) c.loop-prefix.invariant.4,
      All-rest (λ e. g.P.Prefix.IsFitting e.0) (c.in-Some.prefix, c.in-Some.value.now) c.next.new.self c.loop-prefix.prefix-iterator c.in-Some.ensures.steps c.loop-prefix.invariant.5,
    )
