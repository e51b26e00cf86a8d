-- A new key that is set in a tidy map and removed again leaves entries and nodes as they were.
use Rattle.prefix_trie_tests.proofs.Prelude.{◌≡◌, path_within, state}
use Rattle.prefix_trie_tests.proofs.AnyMap.{as_before}
use Rattle.prefix_trie_tests.proofs.any_map.insert_and_remove_again.Given as given
use Rattle.prefix_trie_tests.proofs.any_map.insert_and_remove_again.Goals as goal

before : (g : given.Over) (c : goal.Joined-insert-2 g) → (c.remove.new.self.entries ≡ c.args.map.now.entries) × (c.remove.new.self.nodes ≡ c.args.map.now.nodes)
before g c =
    as_before g.P.R.Key.bit_width (state c.args.map.now) (state c.insert.new.self) (state c.remove.new.self) (g.P.Prefix.path c.args.prefix) (g.P.Prefix.path c.args.same.now) c.args.value
    c.len.ensures.whole.is_map c.requires.tidy (path_within g.met.P.Prefix.prefix_laws c.args.prefix c.requires.fits) c.requires.new_key c.requires.same_path
    c.in-Ok.ensures.entries c.in-Ok.ensures.nodes c.remove.ensures.entries c.remove.ensures.nodes

pub returns-in-Ok-clause-entries : goal.returns-in-Ok-clause-entries
returns-in-Ok-clause-entries g c = (before g c).0

pub returns-in-Ok-clause-nodes : goal.returns-in-Ok-clause-nodes
returns-in-Ok-clause-nodes g c = (before g c).1
