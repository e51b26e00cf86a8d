-- The walk after the last item read gives the rest of the listing, by `page_laws`.
use Rattle.prefix_trie_tests.proofs.Prelude.{rules, ◌++◌, sym, ap, ◌∙◌}
use Rattle.prefix_trie_tests.proofs.examples.pages.walk_after.Goals as goal

pub returns-in-Some : goal.returns-in-Some
returns-in-Some g c =
    let law = c.page_laws.ensures.behind_last c.args.map.now.entries c.len.ensures.whole.is_map.keys_within c.args.read.now c.requires.0 c.in-Some.field-0.now c.requires.1 (search rules) in
    c.requires.1 ∙ ap (λ xs. c.args.read.now ++ xs) (sym (c.iter_from.ensures.items ∙ law))
