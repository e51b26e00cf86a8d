-- Inserting the split-off entries again gives the table as it was, by `split_laws` and `put_laws`.
use Rattle.prefix_trie_tests.proofs.Prelude.{◌∙◌}
use Rattle.prefix_trie_tests.proofs.examples.splitting.split_and_merge.Goals as goal

pub loop-key-init : goal.loop-key-init
loop-key-init g c =
    let gives = c.into_iter-key-iterator.ensures.into_iter_gives in
    let leads = c.put_laws.ensures.starts c.in_ok-part.part.entries c.remove_children.new.self.entries gives.3.is_map.keys_within _ gives.0 in
    let again = c.put_laws.ensures.listed c.in_ok-part.part.entries c.remove_children.new.self.entries gives.3.is_map.keys_within in
    (tt, tt, (leads.0, leads.1 ∙ again ∙ (c.split_laws.ensures.splits _ _ _ _ c.in_ok-part.ensures.step.splits_off).merged))

pub insert-requires : goal.insert-requires
insert-requires g c = c.put_laws.ensures.next_fits c.loop-key.table.entries _ (c.in-Some.key, c.in-Some.value) _ _ c.in-Some.ensures.steps c.loop-key.invariant.2

pub loop-key-preserved-in_ok-insert : goal.loop-key-preserved-in_ok-insert
loop-key-preserved-in_ok-insert g c =
    (tt, tt, c.put_laws.ensures.goes_on c.loop-key.table.entries _ _ (c.in-Some.key, c.in-Some.value) _ _ c.in-Some.ensures.steps c.in_ok-insert.ensures.entries c.loop-key.invariant.2)

-- One path through the loop drops the previous value. The other has none.
pub loop-key-preserved : goal.loop-key-preserved
loop-key-preserved g c =
    (tt, tt, c.put_laws.ensures.goes_on c.loop-key.table.entries _ _ (c.in-Some.key, c.in-Some.value) _ _ c.in-Some.ensures.steps c.in_ok-insert.ensures.entries c.loop-key.invariant.2)
