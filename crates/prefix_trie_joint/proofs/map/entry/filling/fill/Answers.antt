-- What is filled, or refused, in the map of one family is so in the joint map.
use Rattle.std.proofs.Common.{◌≡◌, refl}
use Rattle.std.specs.Option.{unwrap_or}
use Rattle.prefix_trie_joint.proofs.Filled.{filled, refused}
use Rattle.prefix_trie_joint.proofs.map.entry.filling.fill.Goals as goal

pub returns-in-V4-clause-filled : goal.returns-in-V4-clause-filled
returns-in-V4-clause-filled g c =
    filled c.args.map.now _ (λ o x. x ≡ unwrap_or o c.args.value) _ _ c.in-V4.ensures c.fill_one.result (c.fill_one.ensures.filled, refl)

pub returns-in-V4-clause-refused : goal.returns-in-V4-clause-refused
returns-in-V4-clause-refused g c = refused c.args.map.now _ (λ e. e.cause) _ _ c.in-V4.ensures c.fill_one.result (c.fill_one.ensures.refused, refl)

pub returns-in-V6-clause-filled : goal.returns-in-V6-clause-filled
returns-in-V6-clause-filled g c =
    filled c.args.map.now _ (λ o x. x ≡ unwrap_or o c.args.value) _ _ c.in-V6.ensures c.fill_one-in-V6.result (c.fill_one-in-V6.ensures.filled, refl)

pub returns-in-V6-clause-refused : goal.returns-in-V6-clause-refused
returns-in-V6-clause-refused g c = refused c.args.map.now _ (λ e. e.cause) _ _ c.in-V6.ensures c.fill_one-in-V6.result (c.fill_one-in-V6.ensures.refused, refl)
