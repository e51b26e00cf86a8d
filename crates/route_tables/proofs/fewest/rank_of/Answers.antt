-- The set of texts gives a text its rank: the index that it has or gets.
use Rattle.route_tables.proofs.Ranking.{ranks_text}
use Rattle.route_tables.proofs.fewest.rank_of.Goals as goal

pub returns : goal.returns
returns c = ranks_text c.args.texts.now.keys c.insert_full.new.self.keys c.args.text c.in_ok-rank.rank c.in_ok-rank.ensures.keys c.in_ok-rank.ensures.unique c.in_ok-rank.ensures.within c.in_ok-rank.ensures.stored
