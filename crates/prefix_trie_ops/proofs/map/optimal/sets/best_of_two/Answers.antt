-- The combined values of two values are one of them, or both in order.
use Rattle.std.proofs.Common.{[], sym, subst, append-nil}
use Rattle.std.specs.Result.{IfOk}
use Rattle.prefix_trie_ops.specs.ValueSets.{Appends}
use Rattle.prefix_trie_ops.proofs.Smallest.JoinedLists.{pair_equal, pair_greater, pair_less}
use Rattle.prefix_trie_ops.proofs.map.optimal.sets.best_of_two.Goals as goal

pub returns-in-Equal : goal.returns-in-Equal
returns-in-Equal g c = record {
  added = [];
  grows = sym (append-nil c.args.values.now.items);
  holds = pair_equal g.T.PartialEq.eq g.T.Ord.cmp g.met.T.Eq.laws g.met.T.Ord.total g.met.T.Ord.matches_eq c.args.x c.args.y (sym c.in-Equal.ensures);
}

pub returns-in-Less : goal.returns-in-Less
returns-in-Less g c = subst (λ zs. IfOk c.push_pair.result (λ set. Appends c.args.values.now.items c.push_pair.new.values.items set zs))
    (sym (pair_less g.T.PartialEq.eq g.T.Ord.cmp g.met.T.Eq.laws g.met.T.Ord.total g.met.T.Ord.matches_eq c.args.x c.args.y (sym c.in-Less.ensures))) c.push_pair.ensures

pub returns-in-Greater : goal.returns-in-Greater
returns-in-Greater g c = subst (λ zs. IfOk c.push_pair-in-Greater.result (λ set. Appends c.args.values.now.items c.push_pair-in-Greater.new.values.items set zs))
    (sym (pair_greater g.T.PartialEq.eq g.T.Ord.cmp g.met.T.Eq.laws g.met.T.Ord.total g.met.T.Ord.matches_eq c.args.x c.args.y (sym c.in-Greater.ensures))) c.push_pair-in-Greater.ensures
