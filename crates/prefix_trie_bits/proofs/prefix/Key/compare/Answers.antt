-- The first windows that differ decide the order of two keys.
use Rattle.prefix_trie_bits.proofs.Prelude.{◌≡◌, ◌+◌, ◌≤◌, ◌∙◌, length, sym, arith, order-here, order-later}
use Rattle.prefix_trie_bits.proofs.prefix.Key.compare.Goals as goal
use Rattle.prefix_trie_bits.proofs.prefix.Key.compare.Goals.{After-window}
use Rattle.prefix_trie_bits.proofs.prefix.Key.compare.Given.{Over}

wide : (g : Over) (c : After-window g) → length (g.Self.Key.bits c.args.self) ≡ g.Self.Key.bit_width
wide g c = g.met.Self.Key.key_laws.bits_length c.args.self c.is_key.ensures.key

as_wide : (g : Over) (c : After-window g) → length (g.Self.Key.bits c.args.self) ≡ length (g.Self.Key.bits c.args.other)
as_wide g c = wide g c ∙ sym (g.met.Self.Key.key_laws.bits_length c.args.other c.is_key-2.ensures.key)

inside : (g : Over) (c : After-window g) → c.loop-depth.depth + c.min-len.result ≤ c.width-width.result
inside g c =
    let len = c.min-len.ensures in
    let left = c.loop-depth-test.true in
    omega arith

within : (g : Over) (c : After-window g) → c.loop-depth.depth + c.min-len.result ≤ length (g.Self.Key.bits c.args.self)
within g c =
    let i = inside g c in
    let long = wide g c in
    let width = c.width-width.ensures in
    omega (arith, i, long, width)

pub returns-then-is_ne : goal.returns-then-is_ne
returns-then-is_ne g c =
    let w = (goal.at.returns-then-is_ne g c).After-window in
    sym (c.loop-depth.invariant.same
    ∙ order-here (g.Self.Key.bits c.args.self) (g.Self.Key.bits c.args.other) c.loop-depth.depth c.min-len.result c.window.result c.window-in-loop-depth.result c.cmp-order.result
    (as_wide g w) (within g w) c.window.ensures c.window-in-loop-depth.ensures c.cmp-order.ensures (sym c.is_ne.ensures ∙ c.if-is_ne.true))

pub loop-depth-preserved : goal.loop-depth-preserved
loop-depth-preserved g c =
    let w = (goal.at.loop-depth-preserved g c).After-window in
    record {
      wide = c.width-width.ensures;
      within = inside g w;
      same = c.loop-depth.invariant.same
          ∙ order-later (g.Self.Key.bits c.args.self) (g.Self.Key.bits c.args.other) c.loop-depth.depth c.min-len.result c.window.result c.window-in-loop-depth.result c.cmp-order.result
          (as_wide g w) (within g w) c.window.ensures c.window-in-loop-depth.ensures c.cmp-order.ensures (sym c.is_ne.ensures ∙ c.if-is_ne.false);
    }
