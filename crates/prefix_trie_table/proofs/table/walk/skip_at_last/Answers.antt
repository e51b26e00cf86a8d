-- Only the last spot changes, and the bit string ends at its node, as `skip_below` requires.
use Rattle.prefix_trie_table.proofs.Prelude.{◌+◌, ◌<◌, ◌≤◌, ◌∙◌, [], ◌∷◌, sym, ap, subst, length, length-append, arith, false≢true, Spot}
use Rattle.prefix_trie_table.proofs.Strings.Paths.{snoc_inj}
use Rattle.prefix_trie_table.proofs.table.walk.skip_at_last.Goals as goal

pub skip_below-requires-clause-whole : goal.skip_below-requires-clause-whole
skip_below-requires-clause-whole g c =
    let at = c.requires.last.1 in
    subst (λ (p : Spot). p.depth ≤ length c.args.path.now) (snoc_inj at.below c.pop.new.self.items at.spot c.in-Some.spot (sym at.is ∙ c.in-Some.ensures.items)).1 at.ends.whole

pub skip_below-requires-clause-last : goal.skip_below-requires-clause-last
skip_below-requires-clause-last g c =
    let at = c.requires.last.1 in
    subst (λ (p : Spot). length c.args.path.now < p.depth + 5) (snoc_inj at.below c.pop.new.self.items at.spot c.in-Some.spot (sym at.is ∙ c.in-Some.ensures.items)).1 at.ends.last

pub push-requires : goal.push-requires
push-requires g c = (omega arith, let space = c.requires.space in let less = c.in-Some.ensures.len in omega (arith, space, less))

pub returns-in-Some : goal.returns-in-Some
returns-in-Some g c = record {
  below = c.pop.new.self.items;
  was = c.in-Some.spot;
  now = c.skip_below.new.spot;
  before = c.in-Some.ensures.items;
  after = c.push.ensures.items;
  skips = c.skip_below.ensures;
}

pub returns-in_default : goal.returns-in_default
returns-in_default g c =
    let at = c.requires.last.1 in
    absurd (false≢true (c.in_default.ensures.variant.1 (omega (arith, ap length at.is, length-append at.below (at.spot ∷ [])))))
