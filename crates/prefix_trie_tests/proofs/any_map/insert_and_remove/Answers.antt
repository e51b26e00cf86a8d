-- An insertion and a removal are steps that leave a tidy map tidy, so its nodes are the needed ones.
use Rattle.prefix_trie_tests.proofs.Prelude.{ap, ◌∙◌, len, path_within, IsTidy, state, insert_reply}
use Rattle.prefix_trie_tests.proofs.AnyMap.{tidy_again}
use Rattle.prefix_trie_tests.proofs.any_map.insert_and_remove.Given as given
use Rattle.prefix_trie_tests.proofs.any_map.insert_and_remove.Goals as goal

tidy : (g : given.Over) (c : goal.After-node_count g) → IsTidy c.remove.new.self.entries c.remove.new.self.nodes
tidy g c =
    let width = g.P.R.Key.bit_width in
    tidy_again width (state c.args.map.now) (state c.insert.new.self) (state c.remove.new.self)
    (g.P.Prefix.path c.args.prefix) c.args.value (insert_reply c.insert.result) (g.P.Prefix.path c.args.out.now) c.remove.result c.len.ensures.whole.is_map c.requires.tidy
    (path_within g.met.P.Prefix.prefix_laws c.args.prefix c.requires.fits) c.insert.ensures.step.step c.remove.ensures.step.step

pub returns-clause-tidy : goal.returns-clause-tidy
returns-clause-tidy g c = tidy g c

pub returns-clause-counted : goal.returns-clause-counted
returns-clause-counted g c = c.node_count.ensures.count ∙ ap len (tidy g c)
