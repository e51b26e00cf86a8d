-- One more index of a path, and few more slots.
use Rattle.std.proofs.Common.{◌+◌, subst, sym}
use Rattle.std.proofs.lemmas.Result.{err_from_is_err_and}
use Rattle.prefix_trie_bits.specs.Model.Step.{Insert, Refused}
use Rattle.prefix_trie_table.specs.Steps.{insert_reply}
use Rattle.prefix_trie_joint.proofs.CollectedItems.{many_pass, more_after}
use Rattle.prefix_trie_joint.specs.Changes.{maps_of, StepOnFamily}
use Rattle.prefix_trie_joint.specs.Joined.{entries_of}
use Rattle.prefix_trie_joint.specs.Networks.{ip_path}
use Rattle.origin_validation.specs.Chains.{AreLatest}
use Rattle.origin_validation.proofs.Latest.{latest_more}
use Rattle.origin_validation.proofs.chains.append.Goals as goal

pub returns-in_err-insert-clause-range : goal.returns-in_err-insert-clause-range
returns-in_err-insert-clause-range g c =
    let p = err_from_is_err_and c.from_residual.result c.from_residual.ensures.1 in
    let old = maps_of c.args.latest.now in
    let new = maps_of c.insert.new.self in
    rw (p.1, p.2) (λ range. many_pass c.args.prefix c.args.index old new (subst (λ cause. StepOnFamily c.args.prefix (λ q. Insert q c.args.index) (Refused cause) old new) range c.in_err-insert.ensures.step))

pub returns-clause-chained : goal.returns-clause-chained
returns-clause-chained g c = λ paths at are.
    subst (AreLatest paths (c.args.index + 1)) (sym c.in_ok-insert.ensures.entries)
    (latest_more paths c.stored_laws.ensures c.args.index (ip_path c.args.prefix) (entries_of c.args.latest.now) at are)

pub returns-clause-after : goal.returns-clause-after
returns-clause-after g c = more_after c.args.prefix c.args.index (insert_reply c.insert.result) (maps_of c.args.latest.now) (maps_of c.insert.new.self) c.len.ensures.whole c.insert.ensures.step
