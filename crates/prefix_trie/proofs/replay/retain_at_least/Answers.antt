-- A test of the length keeps exactly the entries that the step `RetainAtLeast` keeps, since `back` keeps the length.
use Rattle.prefix_trie.proofs.Prelude.{rules, of_calls, len_back, at_least_step}
use Rattle.prefix_trie.proofs.replay.retain_at_least.Goals as goal

pub returns : goal.returns
returns g c =
    at_least_step g.P.Prefix.path g.P.Prefix.back g.P.R.Key.bit_width _ _ c.args.least (λ k. g.P.Prefix.len_of (g.P.Prefix.back k)) _ _
    c.keep_where.ensures.whole.is_map.keys_within (len_back g.met.P.Prefix.prefix_laws)
    (λ e b f' h. (search (rules, of_calls, h.called, h.shows), search (rules, of_calls, h.called))) c.keep_where.ensures.step
