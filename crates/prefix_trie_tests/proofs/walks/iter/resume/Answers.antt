-- A prefix that was read fits, and `iter_from` after it gives the rest of the walk, by `resume_laws`.
use Rattle.prefix_trie_tests.proofs.Prelude.{◌≡◌, ◌++◌, ◌∷◌, sym, ap, ◌∙◌, All-head, All-same, listing, prefix_pairs, All-append_right, listed_fit}
use Rattle.prefix_trie_tests.proofs.walks.iter.resume.Goals as goal

pub iter_from-requires : goal.iter_from-requires
iter_from-requires g c =
    let entries = c.args.m.now.entries in
    let item : g.row.P.Denot × g.row.T.Denot = (c.in-Some.last, c.in-Some.field-0-1.now) in
    let read = c.requires.0 in
    let left = item ∷ c.next.new.self in
    let steps : c.args.walk ≡ left = c.in-Some.ensures.steps in
    let IsFit : g.row.P.Denot × g.row.T.Denot → Type 0 = λ e. g.P.Prefix.IsFitting e.0 in
    let whole : prefix_pairs g.P.Prefix.back (listing entries) ≡ read ++ left = c.requires.1 ∙ ap (λ xs. read ++ xs) steps in
    All-head IsFit item c.next.new.self
    (All-append_right IsFit read left
    (All-same IsFit (read ++ left) (prefix_pairs g.P.Prefix.back (listing entries)) (sym whole) (listed_fit g.met.P.Prefix.prefix_laws entries c.len.ensures.whole.is_map.keys_within)))

pub returns : goal.returns
returns g c =
    let entries = c.args.m.now.entries in
    let item : g.row.P.Denot × g.row.T.Denot = (c.in-Some.last, c.in-Some.field-0-1.now) in
    let read = c.requires.0 in
    let rest = c.next.new.self in
    let steps : c.args.walk ≡ item ∷ rest = c.in-Some.ensures.steps in
    let whole : prefix_pairs g.P.Prefix.back (listing entries) ≡ read ++ item ∷ rest = c.requires.1 ∙ ap (λ xs. read ++ xs) steps in
    let law = c.resume_laws.ensures.after_iter entries c.len.ensures.whole.is_map.keys_within read item rest whole in
    (item, steps ∙ ap (λ xs. item ∷ xs) (sym (c.iter_from.ensures.items ∙ law)))
