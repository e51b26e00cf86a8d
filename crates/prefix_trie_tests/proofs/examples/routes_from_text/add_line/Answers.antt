-- The route that a line names is the one that is set in the table.
use Rattle.prefix_trie_tests.proofs.examples.routes_from_text.add_line.Goals as goal

pub returns-in-Ok-clause-added : goal.returns-in-Ok-clause-added
returns-in-Ok-clause-added g c = ((c.in_ok-network.network, c.in_ok-network.hop), c.in_ok-network.ensures, c.in-Ok.ensures.entries)
