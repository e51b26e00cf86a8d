-- The set that is taken is the first of those to come.
use Rattle.std.proofs.Common.{◌≡◌, ◌∙◌, ◌+◌, ◌∷◌, drop, ap, sym, subst}
use Rattle.std.specs.List.{AllZip}
use Rattle.prefix_trie_ops.specs.ValueSets.{Holds}
use Rattle.prefix_trie_ops.proofs.Smallest.Ranges.{drop_first, read_at}
use Rattle.prefix_trie_ops.proofs.map.optimal.choosing.Choices.take.Goals as goal

pub returns-clause-best : goal.returns-clause-best
returns-clause-best g c xs rest come exact =
    let sets = c.args.self.now.sets.items in
    let values = c.args.self.now.values.items in
    let next = c.args.self.now.next in
    let set = c.in-Some.set in
    let all = c.deref.result.now in
    let at = read_at c.get.result all next set (sym c.copied.ensures ∙ c.in-Some.is) c.get.ensures.lookup.0 c.get.ensures.lookup.1 in
    let split : drop next sets ≡ set ∷ drop (next + 1) sets =
    ap (drop next) (sym c.deref.ensures.value) ∙ drop_first all next set at.0 at.1 ∙ ap (λ zs. set ∷ drop (next + 1) zs) c.deref.ensures.value in
    let first = subst (λ zs. AllZip (Holds values) zs (xs ∷ rest)) split come in
    c.best.ensures xs (subst (λ vs. Holds vs set xs) (sym c.as_slice.ensures.value) first.0) exact

pub returns-clause-rest : goal.returns-clause-rest
returns-clause-rest g c xs rest come =
    let sets = c.args.self.now.sets.items in
    let values = c.args.self.now.values.items in
    let next = c.args.self.now.next in
    let set = c.in-Some.set in
    let all = c.deref.result.now in
    let at = read_at c.get.result all next set (sym c.copied.ensures ∙ c.in-Some.is) c.get.ensures.lookup.0 c.get.ensures.lookup.1 in
    let split : drop next sets ≡ set ∷ drop (next + 1) sets =
    ap (drop next) (sym c.deref.ensures.value) ∙ drop_first all next set at.0 at.1 ∙ ap (λ zs. set ∷ drop (next + 1) zs) c.deref.ensures.value in
    (subst (λ zs. AllZip (Holds values) zs (xs ∷ rest)) split come).1
