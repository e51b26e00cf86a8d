-- The range that is appended is marked if it has no value, and the marks before it stay.
use Rattle.std.proofs.Common.{◌≡◌, ◌∙◌, ◌++◌, ◌∷◌, [], ◌≢◌, false, None, Some, true, ap, arith, cond, length}
use Rattle.std.proofs.lemmas.List.{with_items_is}
use Rattle.std.specs.Vec.{with_items}
use Rattle.prefix_trie_bits.specs.Model.Bits.{number}
use Rattle.prefix_trie_fib.specs.Gaps.{is_marked}
use Rattle.prefix_trie_fib.proofs.Gaps.{range_pushed, value_kept}
use Rattle.prefix_trie_fib.proofs.ranges.line.Line.push.Goals as goal

pub returns-then-is_none-clause-pushed : goal.returns-then-is_none-clause-pushed
returns-then-is_none-clause-pushed g c =
    let pairs = c.self.inside.pairs.items in
    let gaps = c.self.inside.gaps.items in
    let place : length pairs ≡ c.len-place.result = omega (arith, c.len-place.ensures, c.self.inside.pairs.ok.0) in
    let words = (with_items c.reach.new.words c.mark.new.words).items in
    let words_are : words ≡ c.mark.new.words = with_items_is c.reach.new.words c.mark.new.words (c.mark.ensures.len ∙ c.deref_mut.ensures.len) in
    let gap : is_marked words (length pairs) ≡ true = ap (λ ws. is_marked ws (length pairs)) words_are ∙ ap (is_marked c.mark.new.words) place ∙ c.mark.ensures.marks.present in
    range_pushed (λ k. number (g.K.Key.bits k)) (is_marked gaps) (is_marked words) pairs c.push.new.self.items (c.args.start, c.unwrap_or.result) c.args.value c.in_ok-push.ensures.items
    (λ k lt.
    let other : k ≢ c.len-place.result = omega (arith, lt, place) in
    ap (λ ws. is_marked ws k) words_are ∙ c.mark.ensures.marks.others k other ∙ ap (λ ws. is_marked ws k) c.deref_mut.ensures.value ∙ c.reach.ensures.unchanged k)
    (ap (λ b. cond b None (Some c.unwrap_or.result)) gap ∙ ap (λ v. cond true None (Some v)) c.unwrap_or.ensures ∙ value_kept c.args.value c.self.inside.placeholder true c.if-is_none.ensures)
    ∙ ap (λ rs. rs ++ (number (g.K.Key.bits c.args.start), c.args.value) ∷ []) c.self.view_is

pub returns-else-is_none-clause-pushed : goal.returns-else-is_none-clause-pushed
returns-else-is_none-clause-pushed g c =
    let pairs = c.self.inside.pairs.items in
    let gaps = c.self.inside.gaps.items in
    let words = c.reach.new.words.items in
    let place : length pairs ≡ c.len-place.result = omega (arith, c.len-place.ensures, c.self.inside.pairs.ok.0) in
    let no_gap : is_marked words (length pairs) ≡ false = c.reach.ensures.marks.clear (length pairs) (omega (arith, place)) in
    range_pushed (λ k. number (g.K.Key.bits k)) (is_marked gaps) (is_marked words) pairs c.push.new.self.items (c.args.start, c.unwrap_or.result) c.args.value c.in_ok-push.ensures.items
    (λ k lt. c.reach.ensures.unchanged k)
    (ap (λ b. cond b None (Some c.unwrap_or.result)) no_gap ∙ ap (λ v. cond false None (Some v)) c.unwrap_or.ensures ∙ value_kept c.args.value c.self.inside.placeholder false c.if-is_none.ensures)
    ∙ ap (λ rs. rs ++ (number (g.K.Key.bits c.args.start), c.args.value) ∷ []) c.self.view_is
