-- An insertion is a step of the model in the map of one family, and makes few slots.
use Rattle.std.proofs.Common.{inr}
use Rattle.std.proofs.lemmas.Result.{err_from_is_err_and}
use Rattle.prefix_trie_table.specs.Steps.{insert_reply}
use Rattle.prefix_trie_joint.specs.Changes.{maps_of}
use Rattle.prefix_trie_joint.proofs.CollectedItems.{more_after}
use Rattle.route_tables.proofs.NeededMemory.{refused_new}
use Rattle.route_tables.proofs.load.set_value.Goals as goal

pub returns-in-Some-clause-slots : goal.returns-in-Some-clause-slots
returns-in-Some-clause-slots c =
    more_after c.args.network c.in_ok-added.added (insert_reply c.insert.result) (maps_of c.args.table.now) (maps_of c.insert.new.self) c.len.ensures.whole c.insert.ensures.step

pub returns-in-None-clause-slots : goal.returns-in-None-clause-slots
returns-in-None-clause-slots c =
    more_after c.args.network c.in_ok-added.added (insert_reply c.insert.result) (maps_of c.args.table.now) (maps_of c.insert.new.self) c.len.ensures.whole c.insert.ensures.step

pub returns-in_err-previous-clause-memory : goal.returns-in_err-previous-clause-memory
returns-in_err-previous-clause-memory c =
    let p = err_from_is_err_and c.from_residual-in_err-previous.result c.from_residual-in_err-previous.ensures.1 in
    rw (p.1, p.2)
    (λ memory. inr (refused_new c.args.network c.in_ok-added.added c.args.value.now c.in_err-previous.field-0.0.cause (maps_of c.args.table.now) (maps_of c.insert.new.self)
    c.in_err-previous.ensures.step))
