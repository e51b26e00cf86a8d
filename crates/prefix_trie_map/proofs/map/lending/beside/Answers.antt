-- The prefix beside a lent value is rebuilt from the first bits of the path, as many as were found.
use Rattle.prefix_trie_map.proofs.Prelude.{◌≤◌, length, take, IfSome, sym, ap, ◌∙◌, subst}
use Rattle.prefix_trie_map.proofs.map.lending.beside.Goals as goal

pub first-requires : goal.first-requires
first-requires g c =
    subst (λ q. c.args.found ≤ length q) (sym c.path.ensures.path)
    (subst (λ v. IfSome v (λ _. c.args.found ≤ length (g.P.Prefix.path c.args.prefix.now))) c.in-Some.is c.requires.within)

pub returns-in-Some : goal.returns-in-Some
returns-in-Some g c = record { lent = sym c.in-Some.is; prefix = c.rebuilt.ensures ∙ ap g.P.Prefix.back (c.first.ensures ∙ ap (take c.args.found) c.path.ensures.path) }

pub returns-in-None : goal.returns-in-None
returns-in-None g c = record { lent = sym c.in-None.is; prefix = tt }
