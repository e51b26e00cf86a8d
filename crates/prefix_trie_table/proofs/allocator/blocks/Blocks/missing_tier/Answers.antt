-- The block that an insertion needs, in three cases: a first item, a block with a vacant slot, and a full block.
use Rattle.prefix_trie_table.proofs.Prelude.{Some, sym, ap, ◌∙◌, arith}
use Rattle.prefix_trie_table.proofs.Blocks.BySize.{first_size, need_first, need_none, need_full}
use Rattle.prefix_trie_table.proofs.allocator.blocks.Blocks.missing_tier.Goals as goal

pub returns-then-count-eq0-clause-within : goal.returns-then-count-eq0-clause-within
returns-then-count-eq0-clause-within g c = (first_size c.args.self.now.tiers c.requires.sizes).2

pub returns-then-count-eq0-clause-size : goal.returns-then-count-eq0-clause-size
returns-then-count-eq0-clause-size g c =
    let one = first_size c.args.self.now.tiers c.requires.sizes in
    need_first c.args.self.now.tiers c.args.k c.args.count c.if-count-eq0.true ∙ one.0 ∙ ap Some (sym one.1)

pub returns-then-count-size_of-clause-size : goal.returns-then-count-size_of-clause-size
returns-then-count-size_of-clause-size g c = need_none c.args.self.now.tiers c.args.k c.args.count (omega (arith, c.if-count-eq0.false)) (omega (arith, c.if-count-size_of.true, c.size_of.ensures))

pub returns-clause-size : goal.returns-clause-size
returns-clause-size g c =
    need_full c.args.self.now.tiers c.args.k c.args.count (omega (arith, c.if-count-eq0.false)) (omega (arith, c.if-count-size_of.false, c.size_of.ensures))
    ∙ c.tier_holding.ensures.size
