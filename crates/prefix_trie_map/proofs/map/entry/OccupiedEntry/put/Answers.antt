-- Replacing the value at an occupied entry's seat returns the stored value and sets the new one.
use Rattle.prefix_trie_map.proofs.Prelude.{rules, Ok, Some, ap, sym, ◌∙◌, get}
use Rattle.prefix_trie_map.proofs.map.entry.OccupiedEntry.put.Goals as goal

pub returns-clause-before : goal.returns-clause-before
returns-clause-before g c =
    ap (λ before. Ok (Some before)) c.replace-before.ensures.value
    ∙ ap Ok (sym c.lend_at.ensures.value ∙ ap (get c.args.self.map.now.entries) c.path.ensures.path)

pub returns-clause-after : goal.returns-clause-after
returns-clause-after g c = search rules
