-- An insertion is a step of the model, for which `slot_laws` bounds the slots that are made.
use Rattle.prefix_trie_tests.proofs.Prelude.{arith, path_within, stored_state, insert_reply}
use Rattle.prefix_trie.proofs.Callers.{insert_step}
use Rattle.prefix_trie_tests.proofs.any_map.insert_within_bound.Goals as goal

pub returns : goal.returns
returns g c =
    let whole = c.len.ensures.whole in
    let short = path_within g.met.P.Prefix.prefix_laws c.args.prefix c.requires in
    let width = g.met.P.Prefix.prefix_laws.keys.at_most_128 in
    c.slot_laws.ensures.inserted g.P.Prefix.path g.P.Prefix.back g.P.R.Key.bit_width (stored_state c.args.map.now) c.args.prefix c.args.value
    (insert_reply c.insert.result) (stored_state c.insert.new.self) whole.is_map whole.have_blocks (omega (arith, short, width))
    (insert_step g.P.Prefix.path g.P.Prefix.back g.P.R.Key.bit_width _ _ c.args.prefix c.args.value c.insert.result c.insert.ensures.step)
