-- One more address has its entry: that of a part, or that of its chunk, which is not split.
use Rattle.std.proofs.Common.{◌≡◌, ◌≢◌, ◌∙◌, ◌<◌, arith, get_or, inl, inr, length, subst, sym}
use Rattle.std.proofs.lemmas.Bool.{cases_lt}
use Rattle.std.proofs.lemmas.List.{get_or-set_other}
use Rattle.prefix_trie_fib.specs.declared.index.chunk.Chunk.TheVariants.{Split}
use Rattle.prefix_trie_fib.specs.Index.{IsEntryAt, IsWhole}
use Rattle.prefix_trie_fib.proofs.Groups.{each_set, of_none}
use Rattle.prefix_trie_fib.proofs.RangeValues.{get_or-any}
use Rattle.prefix_trie_fib.proofs.indexed.Indexed.read_parts.Goals.{then-is_some, else-is_some}
use Rattle.prefix_trie_fib.proofs.indexed.Indexed.read_parts.Goals as goal

pub loop-i-init : goal.loop-i-init
loop-i-init g c = record {
  first = λ k a d lt. absurd (omega (arith, lt));
  others = λ k a d le in_it whole. c.requires.read k a d in_it whole;
}

pub loop-i-preserved : goal.loop-i-preserved
loop-i-preserved g c =
    let b = g.K.Key.bits in
    let rs = c.args.self.now in
    let all = c.args.addresses.now in
    let i = c.loop-i.i in
    let old = c.loop-i.entries in
    let inside : i < length old = omega (arith, c.loop-i-test.true, c.requires.space, c.loop-i.auto.entries) in
    elim c.if-is_some.branch [
      | then-is_some w ↦ record {
        first = λ k a d lt. subst (λ es. IsEntryAt rs (b (get_or all k a)) (get_or es k d)) (sym w.entries-is)
            (each_set (λ j y. (e : _) → IsEntryAt rs (b (get_or all j e)) y) old i w.chunk.result.now inside
            (λ e. subst (λ q. IsEntryAt rs (b q) w.chunk.result.now) (w.index-addresses-i.is ∙ get_or-any all i w.index-addresses-i.result e c.loop-i-test.true) w.chunk.ensures)
            (λ j y older e. c.loop-i.invariant.first j e y older) k d lt a);
        others = λ k a d le in_it whole.
            let other : k ≢ i = omega (arith, le) in
            let same = get_or-set_other old i k w.chunk.result.now d other in
            let was = c.loop-i.invariant.others k a d (omega (arith, le)) in_it in
            subst (λ es. IsEntryAt rs (b (get_or all k a)) (get_or es k d)) (sym w.entries-is)
            (subst (IsEntryAt rs (b (get_or all k a))) (sym same) (was (subst IsWhole same (subst (λ es. IsWhole (get_or es k d)) w.entries-is whole))));
      }
      | else-is_some w ↦
          let whole_at = of_none (IsWhole c.index-entries-i.result) (λ parts. c.index-entries-i.result ≡ Split parts.0 parts.1) c.parts.result (sym c.is_some.ensures ∙ w.if-is_some.false) c.parts.ensures in record {
            first = λ k a d lt. subst (λ es. IsEntryAt rs (b (get_or all k a)) (get_or es k d)) (sym w.entries-is)
                (elim (cases_lt k i) [
                  | inl less ↦ c.loop-i.invariant.first k a d less
                  | inr at ↦
                      let e : i ≡ k = omega (arith, lt, at) in
                      subst (λ j. IsEntryAt rs (b (get_or all j a)) (get_or old j d)) e
                      (c.loop-i.invariant.others i a d (omega arith) c.loop-i-test.true (subst IsWhole (c.index-entries-i.is ∙ get_or-any old i c.index-entries-i.result d inside) whole_at))
                ]);
            others = λ k a d le in_it whole. subst (λ es. IsEntryAt rs (b (get_or all k a)) (get_or es k d)) (sym w.entries-is)
                (c.loop-i.invariant.others k a d (omega (arith, le)) in_it (subst (λ es. IsWhole (get_or es k d)) w.entries-is whole));
          }
    ]
