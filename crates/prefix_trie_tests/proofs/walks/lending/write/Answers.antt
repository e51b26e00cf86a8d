-- Writing a stored value sets it at its path and changes no other path.
use Rattle.prefix_trie_tests.proofs.Prelude.{cond, Some, refl, ap, ◌∙◌, get, get-insert, listing_total, is-same_string}
use Rattle.prefix_trie_tests.proofs.walks.lending.write.Goals as goal

pub returns-in-Some-clause-there : goal.returns-in-Some-clause-there
returns-in-Some-clause-there g c = λ _.
    let path = g.P.Prefix.path c.args.prefix.now in
    get-insert listing_total c.args.map.now.entries path c.args.value path
    ∙ ap (λ same. cond same (Some c.args.value) (get c.args.map.now.entries path)) (is-same_string path path refl)

pub returns-in-Some-clause-others : goal.returns-in-Some-clause-others
returns-in-Some-clause-others g c = λ q apart.
    get-insert listing_total c.args.map.now.entries (g.P.Prefix.path c.args.prefix.now) c.args.value q
    ∙ ap (λ same. cond same (Some c.args.value) (get c.args.map.now.entries q)) apart
