-- A reply to `Insert` is a step of the model with storage, in two cases: a previous value, or a refusal.
use Rattle.prefix_trie.proofs.Prelude.{Ok, Err}
use Rattle.prefix_trie.proofs.ByPrefix.{insert_step_as}
use Rattle.prefix_trie.proofs.replay.insert.Goals as goal

pub returns-in-Ok : goal.returns-in-Ok
returns-in-Ok g c =
    insert_step_as g.P.Prefix.path g.P.Prefix.back g.P.R.Key.bit_width _ _ c.args.prefix.now c.same_path.result c.args.value c.insert.result (Ok c.in-Ok.before)
    c.same_path.ensures.path c.in-Ok.is c.insert.ensures.step

pub returns-in-Err : goal.returns-in-Err
returns-in-Err g c =
    insert_step_as g.P.Prefix.path g.P.Prefix.back g.P.R.Key.bit_width _ _ c.args.prefix.now c.same_path.result c.args.value c.insert.result (Err c.in-Err.refused)
    c.same_path.ensures.path c.in-Err.is c.insert.ensures.step
