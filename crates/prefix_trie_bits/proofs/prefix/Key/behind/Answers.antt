-- The loop of `behind` copies the bits after the first n, five at a time.
use Rattle.prefix_trie_bits.proofs.Prelude.{◌≡◌, ◌+◌, ◌≤◌, length, arith, zeros, window_small, window_joined}
use Rattle.prefix_trie_bits.proofs.prefix.Key.behind.Goals as goal
use Rattle.prefix_trie_bits.proofs.prefix.Key.behind.Goals.{After-window}
use Rattle.prefix_trie_bits.proofs.prefix.Key.behind.Given.{Over}

wide : (g : Over) (c : After-window g) → length (g.Self.Key.bits c.args.self) ≡ g.Self.Key.bit_width
wide g c = g.met.Self.Key.key_laws.bits_length c.args.self c.is_key.ensures.key

inside : (g : Over) (c : After-window g) → c.args.n + c.loop-depth.depth + c.min-len.result ≤ g.Self.Key.bit_width
inside g c =
    let len = c.min-len.ensures in
    let left = c.loop-depth-test.true in
    let width = c.width-width.ensures in
    omega arith

pub extend-rest-requires-clause-fits : goal.extend-rest-requires-clause-fits
extend-rest-requires-clause-fits g c =
    let w = wide g c in
    window_small (g.Self.Key.bits c.args.self) (zeros 5) (c.args.n + c.loop-depth.depth) c.min-len.result c.window.result (omega (arith, inside g c)) c.window.ensures

pub loop-depth-preserved : goal.loop-depth-preserved
loop-depth-preserved g c =
    let w = (goal.at.loop-depth-preserved g c).After-window in
    let width = c.width-width.ensures in
    record {
      wide = width;
      within = omega (arith, inside g w);
      key = c.extend-rest.ensures.key;
      bits = window_joined (g.Self.Key.bits c.args.self) (g.Self.Key.bits c.loop-depth.rest) (g.Self.Key.bits c.extend-rest.result) g.Self.Key.bit_width c.args.n c.loop-depth.depth c.min-len.result c.window.result (wide g w) (inside g w) c.loop-depth.invariant.bits c.window.ensures c.extend-rest.ensures.value;
    }
