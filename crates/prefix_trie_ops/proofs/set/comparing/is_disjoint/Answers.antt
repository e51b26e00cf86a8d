-- Two sets have no key in common exactly if the walk over their intersection has no first key.
use Rattle.std.proofs.Common.{◌≡◌, ◌∙◌, Bool, true, false, true≢false, not, is_some, sym, refl}
use Rattle.std.specs.FinMap.{contains_key}
use Rattle.prefix_trie_ops.proofs.Comparing.{none_passes, some_passes}
use Rattle.prefix_trie_ops.proofs.set.comparing.is_disjoint.Goals as goal

turned : (r b : Bool) → r ≡ not b → b ≡ true → r ≡ false
turned r true e h = e
turned r false e h = absurd (true≢false (sym h))

only : (r b : Bool) → r ≡ not b → (r ≡ true → true ≡ false) → b ≡ true
only r true e h = refl
only r false e h = absurd (true≢false (h e))

pub returns : goal.returns
returns g c =
    let m = c.args.left.now.entries in
    let n = c.args.right.now.entries in (
      λ yes s there. none_passes g.P.Prefix.back m (contains_key n) c.intersection.result c.next.new.self c.next.result c.intersection.ensures.items c.next.ensures.steps
          (turned (is_some c.next.result) c.is_none.result c.is_none.ensures yes) s there,
      λ all. only (is_some c.next.result) c.is_none.result c.is_none.ensures (λ some.
          let k = some_passes g.P.Prefix.back m (contains_key n) c.intersection.result c.next.new.self c.next.result c.intersection.ensures.items c.next.ensures.steps some in
          sym k.2 ∙ all k.0 k.1),
    )
