-- Two sets have a key in common exactly if the walk over their intersection has a first key.
use Rattle.std.proofs.Common.{◌≡◌, ◌∙◌, Bool, true, false, true≢false, is_some, sym, refl}
use Rattle.std.specs.FinMap.{contains_key}
use Rattle.prefix_trie_ops.proofs.Comparing.{none_passes, some_passes}
use Rattle.prefix_trie_ops.proofs.set.comparing.intersects.Goals as goal

only : (r b : Bool) → r ≡ b → (r ≡ false → true ≡ false) → b ≡ true
only r true e h = refl
only r false e h = absurd (true≢false (h e))

pub returns : goal.returns
returns g c =
    let m = c.args.left.now.entries in
    let n = c.args.right.now.entries in (
      λ yes. some_passes g.P.Prefix.back m (contains_key n) c.intersection.result c.next.new.self c.next.result c.intersection.ensures.items c.next.ensures.steps (sym c.is_some.ensures ∙ yes),
      λ k. only (is_some c.next.result) c.is_some.result (sym c.is_some.ensures) (λ none.
          sym k.2 ∙ none_passes g.P.Prefix.back m (contains_key n) c.intersection.result c.next.new.self c.next.result c.intersection.ensures.items c.next.ensures.steps none k.0 k.1),
    )
