-- The parts are written from the last to the first, so the text is theirs one after another.
use Rattle.std.proofs.Common.{◌≡◌, decimal, drop, [], get_or, append-nil, arith}
use Rattle.std.proofs.lemmas.List.{drop_all}
use Rattle.prefix_trie_bits.proofs.Texts.Octets.{grouped}
use Rattle.prefix_trie_bits.proofs.prefix.networks.text.put_network.Goals as goal

pub returns-clause-value : goal.returns-clause-value
returns-clause-value c =
    let octets = c.args.octets in
    let len = decimal c.args.len in
    let none : drop 19 c.args.text.now ≡ [] = drop_all 19 c.args.text.now (omega (arith, c.told-text)) in
    let e1 = c.put_number-end.ensures.value in
    let e2 = c.put_byte-end.ensures.value in
    let e3 = c.put_number-end-2.ensures.value in
    let e4 = c.put_byte-end-2.ensures.value in
    let e5 = c.put_number-end-3.ensures.value in
    let e6 = c.put_byte-end-3.ensures.value in
    let e7 = c.put_number-end-4.ensures.value in
    let e8 = c.put_byte-end-4.ensures.value in
    let e9 = c.put_number.ensures.value in
    let whole = append-nil len in
    let e = grouped (decimal (get_or octets 0 0)) (decimal (get_or octets 1 0)) (decimal (get_or octets 2 0)) (decimal (get_or octets 3 0)) len in
    cc
