-- Two joint sets have a common network exactly if they have one in some family.
use Rattle.std.proofs.Common.{◌∙◌, inl, inr, true, false, true≢false, sym}
use Rattle.prefix_trie_joint_ops.proofs.Compared.{common_in, common_of}
use Rattle.prefix_trie_joint_ops.proofs.set.comparing.intersects.Goals as goal

pub returns-then-intersects : goal.returns-then-intersects
returns-then-intersects g c = (λ yes. common_in _ _ _ _ false (c.intersects.ensures.0 yes), λ _. c.if-intersects.true)

pub returns-else-intersects : goal.returns-else-intersects
returns-else-intersects g c = (
  λ yes. common_in _ _ _ _ true (c.intersects-else-intersects.ensures.0 yes),
  λ k. elim (common_of _ _ _ _ k) [
    | inl ipv4 ↦ absurd (true≢false (sym (c.intersects.ensures.1 ipv4) ∙ c.if-intersects.false))
    | inr ipv6 ↦ c.intersects-else-intersects.ensures.1 ipv6
  ],
)
