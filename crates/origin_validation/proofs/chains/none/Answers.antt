-- A new map has few slots.
use Rattle.std.proofs.lemmas.Result.{IfOk-weaker}
use Rattle.prefix_trie_joint.proofs.CollectedItems.{new_after}
use Rattle.prefix_trie_joint.specs.Changes.{maps_of}
use Rattle.origin_validation.proofs.chains.none.Goals as goal

pub returns-clause-after : goal.returns-clause-after
returns-clause-after g c = IfOk-weaker c.new.result _ _ (λ map new. (new_after (maps_of map).0 new.0, new_after (maps_of map).1 new.1)) c.new.ensures.new
