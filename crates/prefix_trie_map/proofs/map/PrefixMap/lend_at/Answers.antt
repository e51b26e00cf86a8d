-- Overwriting a stored value adds no key, so the map keeps its invariant after the loan.
use Rattle.prefix_trie_map.proofs.Prelude.{is_some, ap}
use Rattle.prefix_trie_map.proofs.Lending.{set_again}
use Rattle.prefix_trie_map.proofs.map.PrefixMap.lend_at.Goals as goal

pub invariant_of-self-lent : goal.invariant_of-self-lent
invariant_of-self-lent g c = λ x.
    set_again g.P.R.Key.bit_width c.self.inside.table c.self.invariant _ x (ap is_some c.at_mut.ensures.value)
