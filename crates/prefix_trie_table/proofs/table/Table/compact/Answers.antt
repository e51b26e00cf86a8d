-- Splitting off what the empty string begins moves all entries, so the new table has them and just the nodes that they need.
use Rattle.prefix_trie_table.proofs.Prelude.{◌≡◌, cond, [], None, get, ap, ◌∙◌, begins-nil, get-part_below, needed, same_entries}
use Rattle.prefix_trie_bits.specs.Model.Entries.{Entries}
use Rattle.prefix_trie_bits.specs.Calls.Entries.{part_below}
use Rattle.prefix_trie_table.proofs.table.Table.compact.Goals as goal

-- the empty string begins each key
all_below : {T : Type 0} (m : Entries T) → part_below m [] ≡ m
all_below m = same_entries (part_below m []) m (λ t. get-part_below m [] t ∙ ap (λ b. cond b (get m t) None) (begins-nil t))

pub returns-clause-entries : goal.returns-clause-entries
returns-clause-entries g c = c.in_ok-compacted.ensures.split_off.splits_off.split_off ∙ ap (part_below c.args.self.now.entries) c.new.ensures ∙ all_below c.args.self.now.entries

pub returns-clause-nodes : goal.returns-clause-nodes
returns-clause-nodes g c =
    let split_off = c.in_ok-compacted.ensures.split_off.splits_off in
    split_off.split_nodes ∙ ap needed (split_off.split_off ∙ ap (part_below c.args.self.now.entries) c.new.ensures ∙ all_below c.args.self.now.entries)
