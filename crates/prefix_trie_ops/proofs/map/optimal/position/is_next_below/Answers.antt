-- An entry that the prefix contains and whose prefix is longer shows that the prefix is shorter than the width.
use Rattle.std.proofs.Common.{rules, ◌≤◌, arith}
use Rattle.prefix_trie_ops.proofs.map.optimal.position.is_next_below.Goals as goal

pub returns-then-prefix_len-clause-short : goal.returns-then-prefix_len-clause-short
returns-then-prefix_len-clause-short g c _ =
    let fits : g.P.Prefix.IsFitting c.in-Some.field-0.now.0 = search rules in
    let within : g.P.Prefix.len_of c.in-Some.field-0.now.0 ≤ g.P.R.Key.bit_width = ((g.met.P.Prefix.prefix_laws.fits_is c.in-Some.field-0.now.0).0 fits).1 in
    omega (arith, within, c.prefix_len.ensures, c.prefix_len-in-Some.ensures, c.if-prefix_len.true)
