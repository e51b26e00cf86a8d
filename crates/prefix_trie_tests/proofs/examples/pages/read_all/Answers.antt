-- Each page reads at least one more entry, so the loop ends with the whole listing.
use Rattle.prefix_trie_tests.proofs.Prelude.{rules, ◌++◌, sym, ap}
use Rattle.prefix_trie.specs.Terms.{listing, prefix_pairs}
use Rattle.prefix_trie.proofs.Callers.{all_read, page_begins, page_goes_on}
use Rattle.prefix_trie_tests.proofs.examples.pages.read_all.Goals as goal

pub loop-read-init : goal.loop-read-init
loop-read-init g c = (prefix_pairs g.P.Prefix.back (listing c.args.map.now.entries), ap (λ xs. xs ++ prefix_pairs g.P.Prefix.back (listing c.args.map.now.entries)) (sym c.new-read.ensures.items))

pub loop-read-smaller : goal.loop-read-smaller
loop-read-smaller g c = page_goes_on g.P.Prefix.back c.args.map.now.entries c.loop-read.read.items _ c.args.size c.in_ok-read_page.ensures c.requires (search rules)

pub loop-read-preserved : goal.loop-read-preserved
loop-read-preserved g c = (_, page_begins _ _ _ c.in_ok-read_page.ensures)

pub returns : goal.returns
returns g c = all_read g.P.Prefix.back c.args.map.now.entries _ _ c.loop-read.invariant.1 (search rules)
