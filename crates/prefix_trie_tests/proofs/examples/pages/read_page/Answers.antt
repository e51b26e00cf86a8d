-- A page ends after `size` more entries or at the end of the map, and what is read begins the listing in both cases.
use Rattle.prefix_trie_tests.proofs.Prelude.{rules, ◌+◌, ◌++◌, length, ap, ◌∙◌, arith}
use Rattle.prefix_trie.proofs.Callers.{read_more, read_so_far, read_to_end}
use Rattle.prefix_trie_tests.proofs.examples.pages.read_page.Goals as goal

pub loop-i-init : goal.loop-i-init
loop-i-init g c = (c.walk_after-walk.ensures ∙ ap (λ xs. xs ++ c.walk_after-walk.result) c.deref.ensures.value, omega arith)

pub returns-in_default : goal.returns-in_default
returns-in_default g c =
    read_to_end _ c.loop-i.read.items c.loop-i.walk c.loop-i.invariant.0 (length c.args.read.now.items + c.args.size) c.in_default.ensures.steps.0 (omega (arith, c.loop-i.invariant.1, c.loop-i-test.true))

pub loop-i-preserved : goal.loop-i-preserved
loop-i-preserved g c =
    (read_more _ c.loop-i.read.items c.loop-i.walk c.loop-i.invariant.0 (c.in-Some.prefix, c.in-Some.value.now) c.next.new.self c.push.new.self.items c.in-Some.ensures.steps c.in_ok-push.ensures.items, search rules)

pub returns : goal.returns
returns g c = read_so_far _ c.loop-i.read.items c.loop-i.walk c.loop-i.invariant.0 (length c.args.read.now.items + c.args.size) (search rules)
