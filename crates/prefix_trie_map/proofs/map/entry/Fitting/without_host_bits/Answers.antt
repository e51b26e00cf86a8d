-- The prefix rebuilt from a path fits and has the same path, by the laws of `Prefix`.
use Rattle.prefix_trie_map.proofs.Prelude.{ap, sym, ◌∙◌, subst, fits_back, path_back}
use Rattle.prefix_trie_map.proofs.map.entry.Fitting.without_host_bits.Goals as goal

pub new-requires : goal.new-requires
new-requires g c =
    subst g.P.Prefix.IsFitting (sym (c.rebuilt.ensures ∙ ap g.P.Prefix.back c.path.ensures.path))
    (fits_back g.met.P.Prefix.prefix_laws (g.P.Prefix.path c.args.self.now) c.path.ensures.short)

pub returns-clause-path : goal.returns-clause-path
returns-clause-path g c =
    ap g.P.Prefix.path (c.new.ensures ∙ c.rebuilt.ensures ∙ ap g.P.Prefix.back c.path.ensures.path)
    ∙ path_back g.met.P.Prefix.prefix_laws (g.P.Prefix.path c.args.self.now) c.path.ensures.short
