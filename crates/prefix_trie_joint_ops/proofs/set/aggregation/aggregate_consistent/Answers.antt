-- The marked keys are the uppermost ones, so the same prefixes are covered and no key that is left covers another.
use Rattle.std.proofs.Common.{◌∙◌, ap₂}
use Rattle.prefix_trie_ops.specs.Covered.{is_uppermost}
use Rattle.prefix_trie_ops.proofs.Uppermost.{none_covered, same_covered}
use Rattle.prefix_trie_joint.specs.Joined.{keys_of}
use Rattle.prefix_trie_joint_ops.proofs.Reduced.{uppermost}
use Rattle.prefix_trie_joint_ops.proofs.set.aggregation.aggregate_consistent.Goals as goal

pub returns-clause-entries : goal.returns-clause-entries
returns-clause-entries g c =
    uppermost _ _ _ _
    (c.keep_marked.ensures.kept (is_uppermost c.args.set.now.ipv4.entries) (c.as_slice.ensures.value ∙ c.in_ok-ipv4.ensures))
    (c.keep_marked-2.ensures.kept (is_uppermost c.args.set.now.ipv6.entries) (c.as_slice-2.ensures.value ∙ c.in_ok-ipv6.ensures))

pub returns-clause-covered : goal.returns-clause-covered
returns-clause-covered g c q = same_covered c.lookup_laws.ensures (keys_of c.args.set.now) _ (returns-clause-entries g c) q

pub returns-clause-uncovered : goal.returns-clause-uncovered
returns-clause-uncovered g c s there = none_covered c.lookup_laws.ensures (keys_of c.args.set.now) _ (returns-clause-entries g c) s there

pub returns-clause-limit : goal.returns-clause-limit
returns-clause-limit g c = ap₂ (λ a b. (a, b)) c.keep_marked.ensures.limit c.keep_marked-2.ensures.limit
