-- The walk over IPv6 networks returns the first one left, and leaves the others.
use Rattle.std.proofs.Common.{◌-◌, ◌∷◌, Some, length, sym, ap, ◌∙◌, arith}
use Rattle.prefix_trie_bits.specs.Networks.{networks_left}
use Rattle.prefix_trie_bits.proofs.Networks.Subnets.{last_left, next_left, after_it}
use Rattle.prefix_trie_bits.proofs.prefix.networks.subnets.Ipv6SubnetsIterator.next.Goals as goal

pub returns-then-self-eq0-clause-steps : goal.returns-then-self-eq0-clause-steps
returns-then-self-eq0-clause-steps c =
    sym c.self.view_is ∙ ap (λ o. networks_left 128 c.self.inside.len o c.self.inside.more) c.in-Some.is
    ∙ last_left 128 c.self.inside.len c.in-Some.addr c.self.inside.more c.if-self-eq0.true

pub returns-then-self-eq0-clause-goes : goal.returns-then-self-eq0-clause-goes
returns-then-self-eq0-clause-goes c = record {
  on = λ h. (tt, tt, omega (arith, ap length (returns-then-self-eq0-clause-steps c)));
  keeps = tt;
  rests = λ h. tt;
}

pub returns-clause-steps : goal.returns-clause-steps
returns-clause-steps c =
    sym c.self.view_is ∙ ap (λ o. networks_left 128 c.self.inside.len o c.self.inside.more) c.in-Some.is
    ∙ next_left 128 c.self.inside.len c.in-Some.addr c.self.inside.more (omega (arith, c.if-self-eq0.false))
    ∙ ap (λ a. (c.in-Some.addr, c.self.inside.len) ∷ networks_left 128 c.self.inside.len (Some a) (c.self.inside.more - 1)) (after_it 128 c.self.inside.len c.in-Some.addr c.host_u128.result c.host_u128.ensures)

pub returns-clause-goes : goal.returns-clause-goes
returns-clause-goes c = record {
  on = λ h. (tt, tt, omega (arith, ap length (returns-clause-steps c)));
  keeps = tt;
  rests = λ h. tt;
}
