-- Each entry is that of a key, and is kept if all its addresses are in the set.
use Rattle.std.proofs.Common.{◌∙◌, ap, map, subst, sym}
use Rattle.prefix_trie.specs.Terms.{lent_item}
use Rattle.prefix_trie_bits.specs.Keys.{fits_back, path_back}
use Rattle.address_ranges.specs.Breaks.{has_address}
use Rattle.route_tables.proofs.CoveredEntries.{are_covered, has_all, has_all_same, KeptSoFar, kept_end, kept_next, kept_start, push_lent}
use Rattle.route_tables.proofs.address_sets.covered.Goals as goal

pub loop-network-init : goal.loop-network-init
loop-network-init g c = (
  tt,
  tt,
  kept_start g.P.R.Key.bit_width g.P.Prefix.path g.P.Prefix.back (has_all g.P.R.Key.bit_width (has_address c.args.set.now)) c.args.table.now.entries c.listing_laws.ensures c.into_iter-network-iterator.ensures.into_iter_gives.3.is_map.keys_within
      _ _ c.into_iter-network-iterator.ensures.into_iter_gives.0 (ap (map lent_item) c.new-entries.ensures.items),
)

pub covers-requires : goal.covers-requires
covers-requires g c =
    let next = kept_next g.P.R.Key.bit_width g.P.Prefix.path g.P.Prefix.back (has_all g.P.R.Key.bit_width (has_address c.args.set.now)) c.args.table.now.entries (path_back g.met.P.Prefix.prefix_laws) _ _ _ _ c.in-Some.ensures.steps c.loop-network.invariant.2 in
    subst g.P.Prefix.IsFitting (sym (ap (λ e. e.0) next.is)) (fits_back g.met.P.Prefix.prefix_laws next.key next.short)

pub loop-network-preserved-in-Continue-1 : goal.loop-network-preserved-in-Continue-1
loop-network-preserved-in-Continue-1 g c =
    let next = kept_next g.P.R.Key.bit_width g.P.Prefix.path g.P.Prefix.back (has_all g.P.R.Key.bit_width (has_address c.args.set.now)) c.args.table.now.entries (path_back g.met.P.Prefix.prefix_laws) _ _ _ _ c.in-Some.ensures.steps c.loop-network.invariant.2 in
    let more = ap (map lent_item) c.in_ok-push.ensures.items ∙ push_lent c.loop-network.entries.items (c.in-Some.network, c.in-Some.value) in (
      tt,
      tt,
      subst (KeptSoFar g.P.R.Key.bit_width g.P.Prefix.path g.P.Prefix.back (has_all g.P.R.Key.bit_width (has_address c.args.set.now)) c.args.table.now.entries c.next.new.self) (sym more)
          (next.taken (has_all_same g.P.R.Key.bit_width (has_address c.args.set.now) (g.P.Prefix.path c.in-Some.network) c.covers.result c.covers.ensures ∙ c.if-covers.true)),
    )

pub loop-network-preserved : goal.loop-network-preserved
loop-network-preserved g c =
    let next = kept_next g.P.R.Key.bit_width g.P.Prefix.path g.P.Prefix.back (has_all g.P.R.Key.bit_width (has_address c.args.set.now)) c.args.table.now.entries (path_back g.met.P.Prefix.prefix_laws) _ _ _ _ c.in-Some.ensures.steps c.loop-network.invariant.2 in
    (tt, tt, next.left_out (has_all_same g.P.R.Key.bit_width (has_address c.args.set.now) (g.P.Prefix.path c.in-Some.network) c.covers.result c.covers.ensures ∙ c.if-covers.false))

pub returns : goal.returns
returns g c =
    are_covered g.P.R.Key.bit_width (has_address c.args.set.now) g.P.Prefix.back c.args.table.now.entries _
    (kept_end g.P.R.Key.bit_width g.P.Prefix.path g.P.Prefix.back (has_all g.P.R.Key.bit_width (has_address c.args.set.now)) c.args.table.now.entries _ _ c.in-None.ensures.steps.0 c.loop-network.invariant.2)
