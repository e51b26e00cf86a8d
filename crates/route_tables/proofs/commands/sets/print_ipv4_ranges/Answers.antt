-- The line of each range is printed after those before.
use Rattle.std.proofs.Common.{◌<◌, ◌^◌, ◌∙◌, ap, flat_map, rules, subst}
use Rattle.std.specs.Io.KnownBytes.{Appends}
use Rattle.prefix_trie_bits.specs.Model.Bits.{digits, number}
use Rattle.route_tables.specs.Printed.{ipv4_range_line}
use Rattle.route_tables.proofs.Printing.{so_far_end, so_far_more, so_far_start}
use Rattle.route_tables.proofs.RangeLines.{ipv4_range}
use Rattle.route_tables.proofs.commands.sets.print_ipv4_ranges.Goals as goal

pub loop-first-init : goal.loop-first-init
loop-first-init g c =
    (tt, tt, so_far_start c.args.out.now _ _ (ap (flat_map ipv4_range_line) (c.into_iter-first-iterator.ensures.into_iter_gives ∙ c.ranges-first-items.ensures)))

pub loop-first-preserved : goal.loop-first-preserved
loop-first-preserved g c =
    let first : c.in-Some.first < 2 ^ 32 = search rules in
    let last : c.in-Some.last < 2 ^ 32 = search rules in (
      tt,
      tt,
      so_far_more c.args.out.now c.loop-first.out c.range.new.self (ipv4_range_line (number (digits 32 c.in-Some.first), number (digits 32 c.in-Some.last))) (flat_map ipv4_range_line c.next.new.self)
          (flat_map ipv4_range_line c.loop-first.first-iterator) _ (ap (flat_map ipv4_range_line) c.in-Some.ensures.steps)
          (subst (Appends c.loop-first.out c.range.new.self) (ipv4_range c.in-Some.first c.in-Some.last c.from-first.result c.from-last.result first last c.from-first.ensures c.from-last.ensures) c.in_ok-range.ensures)
          c.loop-first.invariant.2,
    )

pub returns : goal.returns
returns g c =
    so_far_end c.args.out.now c.loop-first.out (flat_map ipv4_range_line c.loop-first.first-iterator) _ (ap (flat_map ipv4_range_line) c.in-None.ensures.steps.0) c.loop-first.invariant.2
