-- The networks are the first parts of the items of a walk over both maps of units.
use Rattle.std.proofs.Common.{◌∙◌, arith, refl, ap₂}
use Rattle.prefix_trie.specs.Terms.{listing_below, prefix_pairs}
use Rattle.prefix_trie_table.specs.Model.Contents.{Contents}
use Rattle.prefix_trie_map.proofs.Runs.{parts_are, parts_count}
use Rattle.prefix_trie_joint.specs.Joined.{joined}
use Rattle.prefix_trie_joint.specs.Networks.{ip_back, ip_path}
use Rattle.prefix_trie_joint.proofs.set.JointPrefixSet.children.Goals as goal

pub returns-clause-items : goal.returns-clause-items
returns-clause-items g c =
    parts_are (λ e. e.0) c.networks.ensures _ _
    (c.below.ensures.items ∙ ap₂ (λ (m n : Contents (Unit {0})). prefix_pairs ip_back (listing_below (joined m.entries n.entries) (ip_path c.args.prefix.now))) c.as_map.ensures c.as_map-2.ensures)

pub returns-clause-fits : goal.returns-clause-fits
returns-clause-fits g c = omega (arith, parts_count (λ e. e.0) _ c.networks.ensures refl, c.below.ensures.fits)
