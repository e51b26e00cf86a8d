-- What is filled, or refused, in the map of one family is so in the joint map.
use Rattle.std.proofs.Common.{refl}
use Rattle.std.specs.Option.{UnwrapsOrElse}
use Rattle.prefix_trie_joint.proofs.Filled.{filled, refused}
use Rattle.prefix_trie_joint.proofs.map.entry.filling.fill_with.Goals as goal

pub returns-in-V4-clause-filled : goal.returns-in-V4-clause-filled
returns-in-V4-clause-filled g c =
    filled c.args.map.now _ (λ o x. UnwrapsOrElse o (goal.F-post g c.args.f) x) _ _ c.in-V4.ensures c.fill_one_with.result (c.fill_one_with.ensures.filled, refl)

pub returns-in-V4-clause-refused : goal.returns-in-V4-clause-refused
returns-in-V4-clause-refused g c = refused c.args.map.now _ (λ cause. cause) _ _ c.in-V4.ensures c.fill_one_with.result (c.fill_one_with.ensures.refused, refl)

pub returns-in-V6-clause-filled : goal.returns-in-V6-clause-filled
returns-in-V6-clause-filled g c =
    filled c.args.map.now _ (λ o x. UnwrapsOrElse o (goal.F-post g c.args.f) x) _ _ c.in-V6.ensures c.fill_one_with-in-V6.result (c.fill_one_with-in-V6.ensures.filled, refl)

pub returns-in-V6-clause-refused : goal.returns-in-V6-clause-refused
returns-in-V6-clause-refused g c = refused c.args.map.now _ (λ cause. cause) _ _ c.in-V6.ensures c.fill_one_with-in-V6.result (c.fill_one_with-in-V6.ensures.refused, refl)
