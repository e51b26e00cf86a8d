-- Two tables are equal by `==` exactly if they have the same entries, since networks and numbers compare as they are.
use Rattle.prefix_trie_tests.proofs.Prelude.{sym, ◌∙◌}
use Rattle.prefix_trie.proofs.Callers.{networks_same, numbers_same}
use Rattle.prefix_trie_tests.proofs.examples.rerouting.are_same.Goals as goal

pub returns : goal.returns
returns g c =
    let same = c.equal_laws.ensures.same _ _ networks_same numbers_same c.args.routes.now.entries c.args.others.now.entries c.len.ensures.whole.is_map.keys_within c.len-2.ensures.whole.is_map.keys_within in
    (λ h. same.0 (sym c.eq.ensures ∙ h), λ e. c.eq.ensures ∙ same.1 e)
