-- What `pad` writes is the text of the value as a whole, since the buffer has it unchanged.
use Rattle.std.proofs.Common.{ℕ, List, subst}
use Rattle.std.specs.Fmt.{WritesOnOk, WritesStyledOnOk, formatter_spec, padded}
use Rattle.prefix_trie_bits.proofs.Texts.Inline.{of_text, of_styled}
use Rattle.prefix_trie_bits.proofs.prefix.networks.text.pad.Goals as goal

pub returns-clause-writes : goal.returns-clause-writes
returns-clause-writes g c =
    let P : List ℕ → Type 0 = λ t. WritesOnOk g.F.Write.write_str_gives c.args.f.now c.pad.result t c.pad.new.self in
    of_text c.new-text.result c.write.new.self c.new-text.ensures.intact c.new-text.ensures.text P (g.D.Display.output c.args.value) c.in_ok-write.ensures.writes (subst P c.as_str.ensures.value c.pad.ensures.writes)

pub returns-clause-styled : goal.returns-clause-styled
returns-clause-styled g c =
    let P : List ℕ → Type 0 = λ t. WritesStyledOnOk g.F.Write.write_str_gives c.args.f.now c.pad.result t c.pad.new.self in
    of_styled c.new-text.result c.write.new.self c.new-text.ensures.intact c.new-text.ensures.text P (padded (formatter_spec c.args.f.now)) (g.D.Display.output c.args.value) c.in_ok-write.ensures.writes (subst (λ (t : List ℕ). P (padded (formatter_spec c.args.f.now) t)) c.as_str.ensures.value c.pad.ensures.styled)
