-- The laws of filling an entry are parts of the step that filling is: in place, inserted, or refused.
use Rattle.prefix_trie_map.proofs.Prelude.{refl, entry_value}
use Rattle.prefix_trie_map.proofs.laws.fill_laws.Goals as goal

pub returns : goal.returns
returns g c = record {
  in_place = λ e new value fills. fills.step.storage.0;
  inserted = λ e new value fills fresh. fills.step.storage.1 (entry_value e) fresh refl;
  refused = λ e cause new value refuses. (refuses.step value).storage.2 cause refl;
}
