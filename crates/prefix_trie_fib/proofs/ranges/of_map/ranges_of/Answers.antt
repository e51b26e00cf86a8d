-- Each network read adds its interval, and at the end the line has the value of each longest match.
use Rattle.std.proofs.Common.{◌≡◌, ◌∙◌, ◌^◌, ◌≤◌, [], ◌∷◌, ◌++◌, filter, is_some, ap, sym, subst, arith, refl, pow_pos}
use Rattle.std.specs.Option.{MatchOption, option_map}
use Rattle.prefix_trie_bits.specs.BitStrings.{bits-number, number-below}
use Rattle.prefix_trie_bits.specs.Keys.{path_back}
use Rattle.prefix_trie_bits.specs.Model.Bits.{begins, digits, number}
use Rattle.prefix_trie_bits.specs.Model.Matches.{last_item}
use Rattle.prefix_trie_bits.specs.Model.Selections.{listing}
use Rattle.prefix_trie_fib.specs.Line.{end_of, first_address, past_address}
use Rattle.prefix_trie_fib.specs.Sweep.{with_interval}
use Rattle.prefix_trie_fib.proofs.MergedRanges.{alike_to}
use Rattle.prefix_trie_fib.proofs.Sweeps.{IsReading, read_all, read_is, read_next, swept_as, value_read}
use Rattle.prefix_trie_fib.proofs.ranges.of_map.ranges_of.Goals as goal

pub loop-prefix-init : goal.loop-prefix-init
loop-prefix-init g c = (
  tt,
  tt,
  (
    [],
    listing c.args.map.now.entries,
    record {
      all = refl;
      to_come = c.into_iter-prefix-iterator.ensures.into_iter_gives ∙ c.iter-prefix-items.ensures.items;
      later = λ k d lt. omega (arith, c.new-sweep.ensures.at_zero);
    },
    c.new-sweep.ensures.nothing,
  ),
)

pub add-requires : goal.add-requires
add-requires g c =
    let w = g.P.R.Key.bit_width in
    let m = c.args.map.now.entries in
    let (read, rest, reading, swept) = c.loop-prefix.invariant.2 in
    let next = read_next w g.P.Prefix.back m
    (λ e at. c.iter-prefix-items.ensures.whole.is_map.keys_within e.0 (ap is_some ((c.listing_laws.ensures.has_each m e.0 e.1).1 at))) (λ front back e is. c.listing_laws.ensures.all_after m front back e is)
    read rest c.loop-prefix.prefix-iterator (number (g.P.R.Key.bits c.loop-prefix.sweep.at)) (c.in-Some.prefix, c.in-Some.value.now) c.next.new.self c.in-Some.ensures.steps reading in
    let first = c.ends_of-first.ensures.first ∙ ap (first_address w) (sym (ap (λ x. g.P.Prefix.path x.0) next.is) ∙ path_back g.met.P.Prefix.prefix_laws next.entry.0 next.fits) in
    let later = next.later in
    omega (arith, first, later)

pub loop-prefix-preserved : goal.loop-prefix-preserved
loop-prefix-preserved g c =
    let w = g.P.R.Key.bit_width in
    let m = c.args.map.now.entries in
    let (read, rest, reading, swept) = c.loop-prefix.invariant.2 in
    let next = read_next w g.P.Prefix.back m
    (λ e at. c.iter-prefix-items.ensures.whole.is_map.keys_within e.0 (ap is_some ((c.listing_laws.ensures.has_each m e.0 e.1).1 at))) (λ front back e is. c.listing_laws.ensures.all_after m front back e is)
    read rest c.loop-prefix.prefix-iterator (number (g.P.R.Key.bits c.loop-prefix.sweep.at)) (c.in-Some.prefix, c.in-Some.value.now) c.next.new.self c.in-Some.ensures.steps reading in
    let path : g.P.Prefix.path c.in-Some.prefix ≡ next.entry.0 = sym (ap (λ x. g.P.Prefix.path x.0) next.is) ∙ path_back g.met.P.Prefix.prefix_laws next.entry.0 next.fits in
    let first = c.ends_of-first.ensures.first ∙ ap (first_address w) path in (
      tt,
      tt,
      (
        read ++ next.entry ∷ [],
        next.rest,
        subst (IsReading w g.P.Prefix.back m (read ++ next.entry ∷ []) next.rest c.next.new.self) (sym (c.in_ok-add.ensures.there ∙ first)) next.reading,
        swept_as (2 ^ w) g.T.PartialEq.eq (with_interval (number (g.P.R.Key.bits c.ends_of-first.result.0)) (end_of w g.P.R.Key.bits c.ends_of-first.result.1) c.in-Some.value.now (λ n. value_read read (digits w n))) (λ n. value_read (read ++ next.entry ∷ []) (digits w n))
            c.add.new.self.line (number (g.P.R.Key.bits c.add.new.self.at)) _
            (λ n low.
            read_is w g.P.R.Key.bits read next.entry (number (g.P.R.Key.bits c.ends_of-first.result.0)) c.ends_of-first.result.1 next.fits first
            (subst (λ s. MatchOption c.ends_of-first.result.1 (2 ^ w ≤ past_address w s) (λ k. number (g.P.R.Key.bits k) ≡ past_address w s)) path c.ends_of-first.ensures.past) n low
            ∙ ap (λ v. with_interval (number (g.P.R.Key.bits c.ends_of-first.result.0)) (end_of w g.P.R.Key.bits c.ends_of-first.result.1) v (λ n. value_read read (digits w n)) n) (ap (λ x. x.1) next.is))
            (c.in_ok-add.ensures.swept (λ n. value_read read (digits w n)) swept),
      ),
    )

pub returns : goal.returns
returns g c =
    let w = g.P.R.Key.bit_width in
    let m = c.args.map.now.entries in
    let (read, rest, reading, swept) = c.loop-prefix.invariant.2 in
    let all : read ≡ listing m = read_all w g.P.Prefix.back m read rest c.loop-prefix.prefix-iterator (number (g.P.R.Key.bits c.loop-prefix.sweep.at)) c.in-None.ensures.steps.0 reading in
    let done = c.in_ok-finish.ensures (λ n. value_read read (digits w n)) swept in
    let some = done.some (pow_pos w) in
    record {
      division = record { some = some; first = λ d. done.first d some; rising = done.rising };
      merged = done.merged;
      below = done.below;
      values = λ q long.
          let low = number-below w q long in
          alike_to g.T.PartialEq.eq _ _ _ (ap (value_read read) (bits-number w q long) ∙ ap (λ es. option_map (λ e. e.1) (last_item (filter (λ e. begins e.0 q) es))) all) (done.right (number q) low low);
    }
