-- A slot array can hold the vacant item, so `append` accepts it.
use Rattle.prefix_trie_table.proofs.Prelude.{sym, subst}
use Rattle.prefix_trie_table.proofs.allocator.slots.push_vacant.Goals as goal

pub append-requires-clause-value : goal.append-requires-clause-value
append-requires-clause-value g c = subst g.R.SlotArray.can_hold (sym c.vacant.ensures) g.met.R.SlotArray.holds_vacant
