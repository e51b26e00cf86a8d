-- A set is a subset exactly if the walk over the difference gives no key.
use Rattle.std.proofs.Common.{◌≡◌, Bool, true, false, true≢false, not, List, is_some, sym, refl}
use Rattle.std.specs.FinMap.{contains_key}
use Rattle.prefix_trie_ops.proofs.Comparing.{none_passes, some_passes}
use Rattle.prefix_trie_ops.proofs.set.comparing.is_subset.Goals as goal

has_all : (b : Bool) → not b ≡ false → b ≡ true
has_all true h = refl
has_all false h = absurd (true≢false h)

has_none : (b : Bool) → not b ≡ true → b ≡ true → Unit {0} × (true ≡ false)
has_none true h k = (tt, sym h)
has_none false h k = (tt, sym k)

turned : (r b : Bool) → r ≡ not b → b ≡ true → r ≡ false
turned r true e h = e
turned r false e h = absurd (true≢false (sym h))

pub returns : goal.returns
returns g c =
    let m = c.args.left.now.entries in
    let p : List Bool → Bool = λ s. not (contains_key c.args.right.now.entries s) in (
      λ yes s there. has_all (contains_key c.args.right.now.entries s)
          (none_passes g.P.Prefix.back m p c.difference.result c.next.new.self c.next.result c.difference.ensures.items c.next.ensures.steps
          (turned (is_some c.next.result) c.is_none.result c.is_none.ensures yes) s there),
      λ all. only (is_some c.next.result) c.is_none.result c.is_none.ensures (λ some.
          let k = some_passes g.P.Prefix.back m p c.difference.result c.next.new.self c.next.result c.difference.ensures.items c.next.ensures.steps some in
          (has_none (contains_key c.args.right.now.entries k.0) k.2 (all k.0 k.1)).1),
    )
  where
    only : (r b : Bool) → r ≡ not b → (r ≡ true → true ≡ false) → b ≡ true
    only r true e h = refl
    only r false e h = absurd (true≢false (h e))
