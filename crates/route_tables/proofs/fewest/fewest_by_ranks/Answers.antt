-- The smallest map of ranks, with the texts of the ranks, is the smallest table.
use Rattle.std.proofs.Common.{◌∙◌, ap, map}
use Rattle.std.proofs.lemmas.Bool.{eqb-true}
use Rattle.std.proofs.lemmas.Result.{err_from_is_err_and}
use Rattle.std.specs.FinMap.{len}
use Rattle.prefix_trie.specs.Terms.{lent_item}
use Rattle.route_tables.specs.Fewest.{named_pairs, texts_of}
use Rattle.route_tables.proofs.RankSlots.{ranks_exceed}
use Rattle.route_tables.proofs.Ranks.{fewest_by_ranks}
use Rattle.route_tables.proofs.fewest.fewest_by_ranks.Goals as goal

pub returns-clause-fewest : goal.returns-clause-fewest
returns-clause-fewest g c =
    fewest_by_ranks c.lookup_laws.ensures g.P.R.Key.bit_width (texts_of c.in_ok-ranked.ranked.texts.keys) c.in_ok-ranked.ranked.ranks.entries c.aggregate.new.table.entries c.args.table.now.entries c.in_ok-ranked.ensures.ranks
    g.P.Prefix.back (map lent_item c.in_ok-named.field-0.items) (c.in_ok-named.ensures ∙ ap (λ keys. named_pairs g.P.Prefix.back (texts_of keys) c.aggregate.new.table.entries) c.as_slice.ensures.keys)
    (c.in_ok-aggregate.ensures.values eqb-true) (c.in_ok-aggregate.ensures.smallest eqb-true)

pub returns-in_err-aggregate-clause-full : goal.returns-in_err-aggregate-clause-full
returns-in_err-aggregate-clause-full g c =
    let p = err_from_is_err_and c.from_residual-in_err-aggregate.result c.from_residual-in_err-aggregate.ensures.1 in
    let few = c.in_ok-ranked.ensures.few in
    rw (p.1, p.2)
    (λ range. ranks_exceed g.P.R.Key.bit_width c.in_ok-ranked.ranked.ranks.space.limit c.in_ok-ranked.ranked.ranks.entries (len c.args.table.now.entries) few.0 few.1
    (c.in_err-aggregate.ensures.range range eqb-true))
