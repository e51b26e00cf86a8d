-- Counting each of the seven tiers gives the counts of the list of tiers.
use Rattle.prefix_trie_table.proofs.Prelude.{[], ◌∷◌, map, ap, ◌∙◌, tier_count}
use Rattle.prefix_trie_table.proofs.Counts.BlockCounts.{seven_tiers}
use Rattle.prefix_trie_table.proofs.allocator.blocks.Blocks.counts.Goals as goal

pub returns-clause-counts : goal.returns-clause-counts
returns-clause-counts g c =
    (λ i.
    c.count_of.ensures i ∷ c.count_of-2.ensures i ∷ c.count_of-3.ensures i ∷ c.count_of-4.ensures i ∷ c.count_of-5.ensures i ∷ c.count_of-6.ensures i ∷ c.count_of-7.ensures i
    ∷ [])
    ∙ ap (map tier_count) (seven_tiers c.args.self.now.tiers c.requires)
