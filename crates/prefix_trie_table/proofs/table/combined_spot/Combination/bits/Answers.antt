-- Each bit of the result is chosen from the two bits.
use Rattle.prefix_trie_table.proofs.Prelude.{◌∙◌, sym, ap, has, has-and}
use Rattle.std.proofs.lemmas.Nat.{or_lt}
use Rattle.prefix_trie_bits.proofs.Bitmaps.{has-or}
use Rattle.prefix_trie_table.specs.Walking.Combined.{is_chosen}
use Rattle.prefix_trie_table.proofs.table.combined_spot.Combination.bits.Goals as goal

pub returns-in-Union-clause-bits : goal.returns-in-Union-clause-bits
returns-in-Union-clause-bits c = λ k.
    has-or c.args.left c.args.right k ∙ sym (ap (λ m. is_chosen m (has c.args.left k) (has c.args.right k)) c.in-Union.is)

pub returns-in-Union-clause-small : goal.returns-in-Union-clause-small
returns-in-Union-clause-small c = or_lt 31 c.args.left c.args.right

pub returns-in-Intersection-clause-bits : goal.returns-in-Intersection-clause-bits
returns-in-Intersection-clause-bits c = λ k.
    has-and c.args.left c.args.right k ∙ sym (ap (λ m. is_chosen m (has c.args.left k) (has c.args.right k)) c.in-Intersection.is)
