-- The key of an occupied entry fits and is stored, so `take` removes its value.
use Rattle.prefix_trie_map.proofs.Prelude.{Some, sym, ap, ◌∙◌, subst, get, contains_key, RemoveKeepTree, Value, StepByPath, stored_state}
use Rattle.prefix_trie_bits.specs.Model.Entries.{without_entry}
use Rattle.prefix_trie_map.proofs.map.entry.OccupiedEntry.remove.Goals as goal

pub take-requires-clause-fits : goal.take-requires-clause-fits
take-requires-clause-fits g c = c.prefix.ensures.fits

pub take-requires-clause-stored : goal.take-requires-clause-stored
take-requires-clause-stored g c = ap (λ k. contains_key c.args.self.map.now.entries (g.P.Prefix.path k)) c.prefix.ensures.value ∙ c.args.self.stored

pub returns : goal.returns
returns g c =
    let is = c.prefix.ensures.value in
    let m = c.args.self.map.now in
    let taken = c.take.ensures in
    record {
      value = ap (λ k. get m.entries (g.P.Prefix.path k)) (sym is) ∙ taken.value;
      entries = taken.entries ∙ ap (λ k. without_entry m.entries (g.P.Prefix.path k)) is;
      nodes = taken.nodes;
      step = subst (λ k. StepByPath g.P.R.Key.bit_width (stored_state m) (RemoveKeepTree (g.P.Prefix.path k)) (Value (Some c.take.result)) (stored_state c.take.new.self)) is taken.step;
    }
