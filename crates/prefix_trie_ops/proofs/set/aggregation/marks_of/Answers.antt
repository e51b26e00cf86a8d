-- The loop that marks the keys to keep: the remembered prefix is the shortest cover of the last key read.
use Rattle.std.proofs.Common.{rules, ◌≡◌, ◌∙◌, ◌++◌, [], ◌∷◌, true, false, not, cond, Some, map, All, ap, sym, subst, is_some}
use Rattle.std.proofs.lemmas.List.Elements.{All-head, All-rest}
use Rattle.prefix_trie.specs.Terms.{listing}
use Rattle.prefix_trie_ops.proofs.SelectedItems.{keys_fit}
use Rattle.prefix_trie_ops.proofs.Uppermost.{uppermost_on, uppermost_start}
use Rattle.prefix_trie_ops.proofs.set.aggregation.marks_of.Goals as goal

pub loop-prefix-init : goal.loop-prefix-init
loop-prefix-init g c =
    let m = c.args.set.now.entries in
    let all : c.into_iter-prefix-iterator.result ≡ map (λ e. g.P.Prefix.back e.0) (listing m) = c.into_iter-prefix-iterator.ensures.into_iter_gives ∙ c.iter-prefix-items.ensures.items in (
      tt,
      tt,
      uppermost_start g.P.Prefix.path g.P.Prefix.back m c.into_iter-prefix-iterator.result c.new-marks.result.items all c.new-marks.ensures.items,
      tt,
      subst (All g.P.Prefix.IsFitting) (sym all) (keys_fit g.P.Prefix.IsFitting g.P.Prefix.back (listing m) (c.listed_laws.ensures.listed_fit m c.iter-prefix-items.ensures.whole.is_map.keys_within)),
    )

pub does_contain-is_covered-requires-clause-fits : goal.does_contain-is_covered-requires-clause-fits
does_contain-is_covered-requires-clause-fits g c =
    All-head g.P.Prefix.IsFitting c.in-Some.prefix c.next.new.self (subst (All g.P.Prefix.IsFitting) c.in-Some.ensures.steps c.loop-prefix.invariant.4)

pub loop-prefix-preserved-then-not-is_covered : goal.loop-prefix-preserved-then-not-is_covered
loop-prefix-preserved-then-not-is_covered g c =
    let m = c.args.set.now.entries in
    let uncovered : c.does_contain-is_covered.result ≡ false = search rules in
    let marked : c.push.new.self.items ≡ c.loop-prefix.marks.items ++ not c.does_contain-is_covered.result ∷ [] = search rules in (
      tt,
      tt,
      uppermost_on g.P.Prefix.path g.P.Prefix.back c.match_laws.ensures m c.loop-prefix.prefix-iterator c.next.new.self c.in-Some.prefix c.loop-prefix.uppermost (Some c.in-Some.prefix)
          c.loop-prefix.marks.items c.push.new.self.items c.does_contain-is_covered.result
          (λ e at. c.listed_laws.ensures.key_is m c.iter-prefix-items.ensures.whole.is_map.keys_within e.0 (ap is_some ((c.listing_laws.ensures.has_each m e.0 e.1).1 at)))
          c.in-Some.ensures.steps c.does_contain-is_covered.ensures marked
          (sym (ap (λ b. cond b c.loop-prefix.uppermost (Some c.in-Some.prefix)) uncovered)) c.loop-prefix.invariant.2,
      All-head g.P.Prefix.IsFitting c.in-Some.prefix c.next.new.self (subst (All g.P.Prefix.IsFitting) c.in-Some.ensures.steps c.loop-prefix.invariant.4),
      All-rest g.P.Prefix.IsFitting c.in-Some.prefix c.next.new.self c.loop-prefix.prefix-iterator c.in-Some.ensures.steps c.loop-prefix.invariant.4,
    )

pub loop-prefix-preserved : goal.loop-prefix-preserved
loop-prefix-preserved g c =
    let m = c.args.set.now.entries in
    let covered : c.does_contain-is_covered.result ≡ true = search rules in
    let marked : c.push.new.self.items ≡ c.loop-prefix.marks.items ++ not c.does_contain-is_covered.result ∷ [] = search rules in (
      tt,
      tt,
      uppermost_on g.P.Prefix.path g.P.Prefix.back c.match_laws.ensures m c.loop-prefix.prefix-iterator c.next.new.self c.in-Some.prefix c.loop-prefix.uppermost c.loop-prefix.uppermost
          c.loop-prefix.marks.items c.push.new.self.items c.does_contain-is_covered.result
          (λ e at. c.listed_laws.ensures.key_is m c.iter-prefix-items.ensures.whole.is_map.keys_within e.0 (ap is_some ((c.listing_laws.ensures.has_each m e.0 e.1).1 at)))
          c.in-Some.ensures.steps c.does_contain-is_covered.ensures marked
          (sym (ap (λ b. cond b c.loop-prefix.uppermost (Some c.in-Some.prefix)) covered)) c.loop-prefix.invariant.2,
      c.loop-prefix.invariant.3,
      All-rest g.P.Prefix.IsFitting c.in-Some.prefix c.next.new.self c.loop-prefix.prefix-iterator c.in-Some.ensures.steps c.loop-prefix.invariant.4,
    )
