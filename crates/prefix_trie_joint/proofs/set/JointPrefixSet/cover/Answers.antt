-- The networks are the first parts of the items of a walk over both maps of units, so there are as many.
use Rattle.std.proofs.Common.{◌∙◌, ◌≤◌, ap₂, length, subst}
use Rattle.prefix_trie.specs.Terms.{covers, prefix_pairs}
use Rattle.prefix_trie_table.specs.Model.Contents.{Contents}
use Rattle.prefix_trie_map.proofs.Runs.{parts_are, parts_count}
use Rattle.prefix_trie_joint.specs.Joined.{joined}
use Rattle.prefix_trie_joint.specs.Networks.{ip_back, ip_path}
use Rattle.prefix_trie_joint.proofs.set.JointPrefixSet.cover.Goals as goal

pub returns-clause-items : goal.returns-clause-items
returns-clause-items g c =
    parts_are (λ e. e.0) c.new.ensures _ _
    (c.of.ensures.items ∙ ap₂ (λ (m n : Contents (Unit {0})). prefix_pairs ip_back (covers (joined m.entries n.entries) (ip_path c.args.prefix.now))) c.as_map.ensures c.as_map-2.ensures)

pub returns-clause-counted : goal.returns-clause-counted
returns-clause-counted g c =
    parts_count (λ e. e.0) _ c.new.ensures
    (c.of.ensures.counted ∙ ap₂ (λ (m n : Contents (Unit {0})). length (covers (joined m.entries n.entries) (ip_path c.args.prefix.now))) c.as_map.ensures c.as_map-2.ensures)

pub returns-clause-fits : goal.returns-clause-fits
returns-clause-fits g c =
    subst (λ n. n ≤ 129) (ap₂ (λ (m n : Contents (Unit {0})). length (covers (joined m.entries n.entries) (ip_path c.args.prefix.now))) c.as_map.ensures c.as_map-2.ensures) c.of.ensures.fits
