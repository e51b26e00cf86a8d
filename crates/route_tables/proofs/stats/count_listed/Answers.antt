-- The loop that counts networks by length: each count is right for the networks so far, and none overflows.
use Rattle.std.proofs.Common.{rules, arith, ◌≡◌, ◌<◌, ◌≤◌, ◌+◌, ◌^◌, ◌∙◌, All, eqb, filter, get_or, length, subst}
use Rattle.std.proofs.Math.ListN.{length-set}
use Rattle.std.proofs.lemmas.List.{get_or_read}
use Rattle.std.proofs.lemmas.List.Elements.{All-head, All-rest}
use Rattle.prefix_trie.specs.Terms.{listing, prefix_pairs}
use Rattle.route_tables.proofs.SizeCounts.{count_fits, counted_on}
use Rattle.route_tables.proofs.stats.count_listed.Goals as goal

pub overflow_add-index_mut : goal.overflow_add-index_mut
overflow_add-index_mut g c =
    let w = c.loop-network.invariant in
    let fits = All-head (λ e. g.P.Prefix.IsFitting e.0) (c.in-Some.network, c.in-Some.value.now) c.next.new.self (subst (All (λ e. g.P.Prefix.IsFitting e.0)) c.in-Some.ensures.steps w.2) in
    let is : c.from.result ≡ g.P.Prefix.len_of c.in-Some.network = search rules in
    let within : c.from.result ≤ g.P.R.Key.bit_width = omega (arith, is, ((g.met.P.Prefix.prefix_laws.fits_is c.in-Some.network).0 fits).1) in
    let more = count_fits (λ e. g.P.Prefix.len_of e.0) c.loop-network.by_length.items (c.in-Some.network, c.in-Some.value.now) c.loop-network.network-iterator c.next.new.self
    (prefix_pairs g.P.Prefix.back (listing c.args.table.now.entries)) c.from.result c.in-Some.ensures.steps is w.4 (w.3 c.from.result within) in
    let less : c.from.result < length c.loop-network.by_length.items = omega (arith, w.5) in
    let read : c.index_mut.result.now ≡ get_or c.loop-network.by_length.items c.from.result 0 = get_or_read c.loop-network.by_length.items c.from.result _ less c.index_mut.ensures.value 0 in
    let fits : c.index_mut.result.now + 1 < 2 ^ 64 = rw read more in
    search rules

pub loop-network-preserved : goal.loop-network-preserved
loop-network-preserved g c =
    let w = c.loop-network.invariant in
    let fits = All-head (λ e. g.P.Prefix.IsFitting e.0) (c.in-Some.network, c.in-Some.value.now) c.next.new.self (subst (All (λ e. g.P.Prefix.IsFitting e.0)) c.in-Some.ensures.steps w.2) in
    let is : c.from.result ≡ g.P.Prefix.len_of c.in-Some.network = search rules in
    let within : c.from.result < length c.loop-network.by_length.items = omega (arith, is, w.5, ((g.met.P.Prefix.prefix_laws.fits_is c.in-Some.network).0 fits).1) in
    let read : c.index_mut.result.now ≡ get_or c.loop-network.by_length.items c.from.result 0 = get_or_read c.loop-network.by_length.items c.from.result _ within c.index_mut.ensures.value 0 in (
      tt,
      tt,
      All-rest (λ e. g.P.Prefix.IsFitting e.0) (c.in-Some.network, c.in-Some.value.now) c.next.new.self c.loop-network.network-iterator c.in-Some.ensures.steps w.2,
      λ k less. rw read (counted_on (λ e. g.P.Prefix.len_of e.0) c.loop-network.by_length.items (c.in-Some.network, c.in-Some.value.now) c.loop-network.network-iterator c.next.new.self
          c.from.result (λ j. length (filter (λ e. eqb (g.P.Prefix.len_of e.0) j) (prefix_pairs g.P.Prefix.back (listing c.args.table.now.entries)))) c.in-Some.ensures.steps is within k (w.3 k less)),
      w.4,
      length-set c.loop-network.by_length.items c.from.result (c.index_mut.result.now + 1) ∙ w.5,
    )

pub index_mut-requires : goal.index_mut-requires
index_mut-requires g c =
    let w = c.loop-network.invariant in
    let fits = All-head (λ e. g.P.Prefix.IsFitting e.0) (c.in-Some.network, c.in-Some.value.now) c.next.new.self (subst (All (λ e. g.P.Prefix.IsFitting e.0)) c.in-Some.ensures.steps w.2) in
    let is : c.from.result ≡ g.P.Prefix.len_of c.in-Some.network = search rules in
    let within : c.from.result < length c.loop-network.by_length.items = omega (arith, is, w.5, ((g.met.P.Prefix.prefix_laws.fits_is c.in-Some.network).0 fits).1) in
    search rules
