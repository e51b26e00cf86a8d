-- The messages for all items of the union change the old table at each key into the new one.
use Rattle.std.proofs.Common.{◌∙◌, ap, is_some}
use Rattle.prefix_trie.specs.Terms.{listing, prefix_pairs}
use Rattle.prefix_trie_ops.specs.Merging.{union_of}
use Rattle.prefix_trie_ops.proofs.Bounds.{union_within}
use Rattle.prefix_trie_ops_tests.proofs.Updating.{all_messages, finished, message_of}
use Rattle.prefix_trie_ops_tests.specs.Updates.{with_messages}
use Rattle.prefix_trie_ops_tests.proofs.examples.updates.updates.Goals as goal

pub returns : goal.returns
returns g c =
    let m = c.args.old.now.entries in
    let n = c.args.new.now.entries in
    let path = g.P.Prefix.path in
    let back = g.P.Prefix.back in
    let within = union_within g.P.R.Key.bit_width m n c.len.ensures.whole.is_map.keys_within c.len-2.ensures.whole.is_map.keys_within in
    ap (λ ms. with_messages path ms m) (finished message_of c.loop-prefix.messages.items c.loop-prefix.prefix-iterator (prefix_pairs back (listing (union_of m n))) c.in-None.ensures.steps.0 c.loop-prefix.invariant.2)
    ∙ all_messages c.stored_laws.ensures path back m n (c.combining_laws.ensures.union_at m n)
    (λ e at. c.listed_laws.ensures.key_is (union_of m n) within e.0 (ap is_some ((c.listing_laws.ensures.has_each (union_of m n) e.0 e.1).1 at)))
