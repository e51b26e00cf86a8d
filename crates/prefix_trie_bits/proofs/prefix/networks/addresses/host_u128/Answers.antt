-- The host ones of an IPv6 address are a power of two less one, since shifting 1 gives a power of two.
use Rattle.std.proofs.Common.{◌-◌, ap, arith}
use Rattle.std.proofs.lemmas.Nat.{one_shl}
use Rattle.prefix_trie_bits.proofs.prefix.networks.addresses.host_u128.Goals as goal

pub returns : goal.returns
returns c = ap (λ x. x - 1) (one_shl (128 - c.args.len) 128 (omega arith))
