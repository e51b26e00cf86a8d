-- An insertion into the map of one family leaves that of the other.
use Rattle.std.proofs.Common.{subst}
use Rattle.std.proofs.lemmas.Result.{err_from_is_err_and}
use Rattle.prefix_trie_bits.specs.Model.Step.{Insert, Refused}
use Rattle.prefix_trie_table.specs.Steps.{insert_reply}
use Rattle.prefix_trie_joint.specs.Changes.{maps_of, StepOnFamily}
use Rattle.prefix_trie_joint.proofs.CollectedItems.{many_pass, more_after}
use Rattle.prefix_trie_joint.proofs.map.collecting.put.Goals as goal

pub returns-clause-after : goal.returns-clause-after
returns-clause-after g c = more_after c.args.prefix c.args.value (insert_reply c.insert.result) (maps_of c.args.map.now) (maps_of c.insert.new.self) c.len.ensures.whole c.insert.ensures.step

pub returns-in_err-insert : goal.returns-in_err-insert
returns-in_err-insert g c =
    let p = err_from_is_err_and c.from_residual.result c.from_residual.ensures.1 in
    let old = maps_of c.args.map.now in
    let new = maps_of c.insert.new.self in
    rw (p.1, p.2) (record {
      entries = tt;
      after = tt;
      range = λ range. many_pass c.args.prefix c.args.value old new (subst (λ cause. StepOnFamily c.args.prefix (λ q. Insert q c.args.value) (Refused cause) old new) range c.in_err-insert.ensures.step);
    })
