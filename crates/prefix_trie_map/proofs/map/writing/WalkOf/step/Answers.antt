-- A walk with a source advances as the source does.
use Rattle.prefix_trie_map.proofs.Writing.{stepped}
use Rattle.prefix_trie_map.proofs.map.writing.WalkOf.step.Goals as goal

pub returns-in-Some : goal.returns-in-Some
returns-in-Some g c =
    stepped g.C.Source.IsAt g.C.Source.Holds g.C.Source.with g.C.Source.First g.C.Source.Passes g.C.Source.Ends c.args.self.now.source _ c.step.new.self c.in-Some.is c.step.result c.step.ensures
