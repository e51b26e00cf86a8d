-- A map under the largest limit is refused only for memory, since that limit is not 0.
use Rattle.prefix_trie_map.proofs.Refusals.{refused_for_memory}
use Rattle.prefix_trie_map.proofs.map.PrefixMap.new.Goals as goal

pub returns-clause-only_memory : goal.returns-clause-only_memory
returns-clause-only_memory g c = refused_for_memory c.with_slot_limit.result 4294967294 c.with_slot_limit.ensures.range

pub returns-clause-space : goal.returns-clause-space
returns-clause-space g c = c.with_slot_limit.ensures.space
