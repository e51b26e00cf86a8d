-- The invariant of the loop over groups: the groups so far are written in full, with colons between them.
use Rattle.std.proofs.Common.{◌∷◌, get_or, take}
use Rattle.std.specs.Fmt.{HasWritten, IsPlainFormatter}
use Rattle.prefix_trie_bits.specs.Texts.{full_groups}
use Rattle.prefix_trie_bits.proofs.prefix.networks.text.GroupsDisplay.fmt.Given as goal

abbrev pub invariant-loop-segment : goal.invariant-loop-segment
invariant-loop-segment g l =
    IsPlainFormatter l.fn.f → HasWritten g.F.Write.write_str_gives l.fn.f (full_groups (get_or l.self.0.now 0 0 ∷ take l.segment-index l.rest)) l.f
