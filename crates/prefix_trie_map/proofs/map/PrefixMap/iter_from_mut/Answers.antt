-- Writing from a prefix, in two cases: its own entry comes first, or is left out.
use Rattle.prefix_trie_map.proofs.Prelude.{◌≡◌, cond, sym, ap, subst, ◌∙◌, listing_from, listing_after, selected, StartsIn}
use Rattle.prefix_trie_map.proofs.map.PrefixMap.iter_from_mut.Goals as goal
use Rattle.prefix_trie_map.proofs.map.PrefixMap.iter_from_mut.Goals.{then-inclusive, else-inclusive}

pub returns-clause-starts : goal.returns-clause-starts
returns-clause-starts g c =
    let m = c.args.self.now.entries in
    let q = g.P.Prefix.path c.args.prefix.now in
    let same : selected c.if-inclusive.from m q ≡ cond c.args.inclusive (listing_from m q) (listing_after m q) =
    (elim c.if-inclusive.branch [
      | then-inclusive w ↦ ap (λ x. selected x m q) w.from-is ∙ sym (ap (λ b. cond b (listing_from m q) (listing_after m q)) w.if-inclusive.true)
      | else-inclusive w ↦ ap (λ x. selected x m q) w.from-is ∙ sym (ap (λ b. cond b (listing_from m q) (listing_after m q)) w.if-inclusive.false)
    ]) in
    subst (λ es. StartsIn c.args.self es c.write_from.result.source) (ap (selected c.if-inclusive.from m) c.path.ensures.path ∙ same) c.write_from.ensures.starts
