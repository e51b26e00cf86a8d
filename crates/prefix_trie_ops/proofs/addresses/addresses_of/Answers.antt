-- Each network read is that of a key, and the builder has its addresses.
use Rattle.std.proofs.Common.{◌≡◌, ◌∙◌, ◌||◌, ℕ, ◌<◌, ◌^◌, ap, length, subst, sym}
use Rattle.std.proofs.lemmas.Result.{IfOk-weaker}
use Rattle.prefix_trie.specs.Terms.{number}
use Rattle.prefix_trie_bits.specs.BitStrings.{number-lt}
use Rattle.prefix_trie_bits.specs.Keys.{fits_back, path_back}
use Rattle.address_ranges.specs.Appends.{is_inside}
use Rattle.address_ranges.specs.Builders.{gathered}
use Rattle.address_ranges.specs.Networks.{first_address, past_address}
use Rattle.prefix_trie_ops.proofs.Gathering.{all_read, next_read, none_read}
use Rattle.prefix_trie_ops.proofs.addresses.addresses_of.Goals as goal

pub loop-network-init : goal.loop-network-init
loop-network-init g c = (
  tt,
  tt,
  none_read g.P.R.Key.bit_width g.P.Prefix.back c.args.map.now.entries _ _ c.into_iter-network-iterator.ensures.into_iter_gives.0
      (λ n. ap (λ builder. gathered builder n) c.in_ok-builder.ensures),
)

pub add_network-requires : goal.add_network-requires
add_network-requires g c =
    let next = next_read g.P.R.Key.bit_width g.P.Prefix.back c.args.map.now.entries c.listing_laws.ensures c.into_iter-network-iterator.ensures.into_iter_gives.3.is_map.keys_within
    _ _ _ _ c.in-Some.ensures.steps c.loop-network.invariant.2 in
    subst g.P.Prefix.IsFitting (sym (ap (λ e. e.0) next.is)) (fits_back g.met.P.Prefix.prefix_laws next.key next.short)

pub loop-network-preserved : goal.loop-network-preserved
loop-network-preserved g c =
    let next = next_read g.P.R.Key.bit_width g.P.Prefix.back c.args.map.now.entries c.listing_laws.ensures c.into_iter-network-iterator.ensures.into_iter_gives.3.is_map.keys_within
    _ _ _ _ c.in-Some.ensures.steps c.loop-network.invariant.2 in
    let key : g.P.Prefix.path c.in-Some.network ≡ next.key = ap (λ e. g.P.Prefix.path e.0) next.is ∙ path_back g.met.P.Prefix.prefix_laws next.key next.short in (
      tt,
      tt,
      next.goes_on (gathered c.add_network.new.self)
          (subst (λ s. (n : ℕ) → n < 2 ^ g.P.R.Key.bit_width → gathered c.add_network.new.self n ≡ (gathered c.loop-network.builder n || is_inside (first_address g.P.R.Key.bit_width s) (past_address g.P.R.Key.bit_width s) n))
          key c.in_ok-add_network.ensures.added),
    )

pub returns : goal.returns
returns g c =
    IfOk-weaker c.finish.result _ _ (λ set has q long.
    has (number q) (subst (λ k. number q < 2 ^ k) long (number-lt q))
    ∙ all_read g.P.R.Key.bit_width g.P.Prefix.back c.args.map.now.entries c.match_laws.ensures _ _ c.in-None.ensures.steps.0 c.loop-network.invariant.2 q long) c.finish.ensures
