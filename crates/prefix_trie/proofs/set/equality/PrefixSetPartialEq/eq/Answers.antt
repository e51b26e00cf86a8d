-- Two sets are equal exactly if their walks give the same prefixes, by number and length.
use Rattle.prefix_trie.proofs.Prelude.{◌≡◌, ◌∙◌, sym, pointwise, same_keys, same_parts}
use Rattle.prefix_trie.proofs.SameKeys.{walks_alike, same_entries}
use Rattle.prefix_trie.proofs.set.equality.PrefixSetPartialEq.eq.Given as given
use Rattle.prefix_trie.proofs.set.equality.PrefixSetPartialEq.eq.Goals as goal

-- the items of the walks decide whether the sets are equal
compared : (g : given.Over) (c : goal.After-yield_same g) → c.yield_same.result ≡ same_keys c.args.self.now.entries c.args.other.now.entries
compared g c =
    c.yield_same.ensures
    ∙ (λ i. pointwise (same_parts g.P.R.PartialEq.eq g.P.Prefix.repr_of g.P.Prefix.len_of) (c.iter.ensures.items i) (c.iter-2.ensures.items i))
    ∙ walks_alike g.met.P.Prefix.prefix_laws g.P.R.PartialEq.eq g.met.P.R.Eq.laws.refl g.met.P.R.Key.same_if_equal c.args.self.now.entries c.args.other.now.entries
    c.iter.ensures.whole.is_map.keys_within c.iter-2.ensures.whole.is_map.keys_within

pub returns-clause-eq : goal.returns-clause-eq
returns-clause-eq g c = compared g c

pub returns-clause-same : goal.returns-clause-same
returns-clause-same g c =
    let decides = same_entries c.args.self.now.entries c.args.other.now.entries in
    (λ h. decides.0 (sym (compared g c) ∙ h), λ e. compared g c ∙ decides.1 e)
