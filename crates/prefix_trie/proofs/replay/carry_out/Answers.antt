-- Each call of a run is a counted step of the model: one answer for each kind of call.
use Rattle.prefix_trie.proofs.Prelude.{refl, ap, call_of, stored_state, reply_of}
use Rattle.prefix_trie.proofs.CountedSteps.{answered, carried_out, listed}
use Rattle.prefix_trie.proofs.replay.carry_out.Goals as goal

pub returns-in-Insert : goal.returns-in-Insert
returns-in-Insert g c = carried_out g.P.Prefix.path g.P.Prefix.back g.P.R.Key.bit_width (ap call_of c.in-Insert.is) (stored_state c.args.map.now) (stored_state c.insert.new.map) (reply_of g.P.R.Key.bits c.insert.result) refl c.insert.ensures

pub returns-in-Remove : goal.returns-in-Remove
returns-in-Remove g c = carried_out g.P.Prefix.path g.P.Prefix.back g.P.R.Key.bit_width (ap call_of c.in-Remove.is) (stored_state c.args.map.now) (stored_state c.remove.new.map) (reply_of g.P.R.Key.bits c.remove.result) refl c.remove.ensures

pub returns-in-RemoveKeepTree : goal.returns-in-RemoveKeepTree
returns-in-RemoveKeepTree g c = carried_out g.P.Prefix.path g.P.Prefix.back g.P.R.Key.bit_width (ap call_of c.in-RemoveKeepTree.is) (stored_state c.args.map.now) (stored_state c.remove_keep_tree.new.map) (reply_of g.P.R.Key.bits c.remove_keep_tree.result) refl c.remove_keep_tree.ensures

pub returns-in-RemoveChildren : goal.returns-in-RemoveChildren
returns-in-RemoveChildren g c = carried_out g.P.Prefix.path g.P.Prefix.back g.P.R.Key.bit_width (ap call_of c.in-RemoveChildren.is) (stored_state c.args.map.now) (stored_state c.drop_children.new.map) (reply_of g.P.R.Key.bits c.drop_children.result) refl c.drop_children.ensures

pub returns-in-RetainAtLeast : goal.returns-in-RetainAtLeast
returns-in-RetainAtLeast g c = carried_out g.P.Prefix.path g.P.Prefix.back g.P.R.Key.bit_width (ap call_of c.in-RetainAtLeast.is) (stored_state c.args.map.now) (stored_state c.retain_at_least.new.map) (reply_of g.P.R.Key.bits c.retain_at_least.result) refl c.retain_at_least.ensures

pub returns-in-Clear : goal.returns-in-Clear
returns-in-Clear g c = carried_out g.P.Prefix.path g.P.Prefix.back g.P.R.Key.bit_width (ap call_of c.in-Clear.is) (stored_state c.args.map.now) (stored_state c.clear.new.map) (reply_of g.P.R.Key.bits c.clear.result) refl c.clear.ensures

pub returns-in-Get : goal.returns-in-Get
returns-in-Get g c =
    answered g.P.Prefix.path g.P.Prefix.back g.P.R.Key.bit_width (ap call_of c.in-Get.is) c.args.map.now c.len.ensures.whole (reply_of g.P.R.Key.bits c.value_at.result.0) c.value_at.result.1 refl c.value_at.ensures.reads _ c.value_at.ensures.reply refl (c.value_at.ensures.reply, refl)

pub returns-in-Lpm : goal.returns-in-Lpm
returns-in-Lpm g c =
    answered g.P.Prefix.path g.P.Prefix.back g.P.R.Key.bit_width (ap call_of c.in-Lpm.is) c.args.map.now c.len.ensures.whole (reply_of g.P.R.Key.bits c.longest.result.0) c.longest.result.1 refl c.longest.ensures.reads _ c.longest.ensures.reply refl (c.longest.ensures.reply, refl)

pub returns-in-Spm : goal.returns-in-Spm
returns-in-Spm g c =
    answered g.P.Prefix.path g.P.Prefix.back g.P.R.Key.bit_width (ap call_of c.in-Spm.is) c.args.map.now c.len.ensures.whole (reply_of g.P.R.Key.bits c.shortest.result.0) c.shortest.result.1 refl c.shortest.ensures.reads _ c.shortest.ensures.reply refl (c.shortest.ensures.reply, refl)

pub returns-in-Len : goal.returns-in-Len
returns-in-Len g c = answered g.P.Prefix.path g.P.Prefix.back g.P.R.Key.bit_width (ap call_of c.in-Len.is) c.args.map.now c.len.ensures.whole (reply_of g.P.R.Key.bits c.count_entries.result) _ refl refl _ c.count_entries.ensures refl (c.count_entries.ensures, refl)

pub returns-in-NodeCount : goal.returns-in-NodeCount
returns-in-NodeCount g c = answered g.P.Prefix.path g.P.Prefix.back g.P.R.Key.bit_width (ap call_of c.in-NodeCount.is) c.args.map.now c.len.ensures.whole (reply_of g.P.R.Key.bits c.count_nodes.result) _ refl refl _ c.count_nodes.ensures refl (c.count_nodes.ensures, refl)

pub returns-in-AddressCount : goal.returns-in-AddressCount
returns-in-AddressCount g c = answered g.P.Prefix.path g.P.Prefix.back g.P.R.Key.bit_width (ap call_of c.in-AddressCount.is) c.args.map.now c.len.ensures.whole (reply_of g.P.R.Key.bits c.count_addresses.result) _ refl refl _ c.count_addresses.ensures refl (c.count_addresses.ensures, refl)

pub returns-in-List : goal.returns-in-List
returns-in-List g c =
    listed g.P.Prefix.path g.P.Prefix.back g.P.R.Key.bit_width (ap call_of c.in-List.is) c.args.map.now c.len.ensures.whole (reply_of g.P.R.Key.bits c.list_reply.result) _ refl refl (λ entries. entries.items) c.listed.result _ c.list_reply.ensures c.listed.ensures (λ lists. lists)

pub returns-in-ListFrom : goal.returns-in-ListFrom
returns-in-ListFrom g c =
    listed g.P.Prefix.path g.P.Prefix.back g.P.R.Key.bit_width (ap call_of c.in-ListFrom.is) c.args.map.now c.len.ensures.whole (reply_of g.P.R.Key.bits c.list_reply-in-ListFrom.result) _ refl refl (λ entries. entries.items) c.listed_from-entries.result _ c.list_reply-in-ListFrom.ensures c.listed_from-entries.ensures (λ lists. lists)

pub returns-in-Children : goal.returns-in-Children
returns-in-Children g c =
    listed g.P.Prefix.path g.P.Prefix.back g.P.R.Key.bit_width (ap call_of c.in-Children.is) c.args.map.now c.len.ensures.whole (reply_of g.P.R.Key.bits c.list_reply-in-Children.result) _ refl refl (λ entries. entries.items) c.children.result _ c.list_reply-in-Children.ensures c.children.ensures (λ lists. lists)

pub returns-in-Cover : goal.returns-in-Cover
returns-in-Cover g c =
    listed g.P.Prefix.path g.P.Prefix.back g.P.R.Key.bit_width (ap call_of c.in-Cover.is) c.args.map.now c.len.ensures.whole (reply_of g.P.R.Key.bits c.list_reply-in-Cover.result) _ refl refl (λ entries. entries.items) c.covered.result _ c.list_reply-in-Cover.ensures c.covered.ensures (λ lists. lists)
