-- The items that a map lists fit, so each prefix may be passed to `cover_keys`.
use Rattle.prefix_trie_map.proofs.Prelude.{◌∷◌, sym, All-head, All-tail, All-same, listing, prefix_pairs}
use Rattle.prefix_trie_map.proofs.Listed.{listed_fit}
use Rattle.prefix_trie_map.proofs.fmt.write_entries.Goals as goal

pub loop-prefix-init : goal.loop-prefix-init
loop-prefix-init g c =
    let gives = c.into_iter-prefix-iterator.ensures.into_iter_gives in
    All-same (λ e. g.P.Prefix.IsFitting e.0) c.into_iter-prefix-iterator.result (prefix_pairs g.P.Prefix.back (listing c.args.map.now.entries)) gives.0
    (listed_fit g.met.P.Prefix.prefix_laws c.args.map.now.entries gives.3.is_map.keys_within)

pub cover_keys-requires : goal.cover_keys-requires
cover_keys-requires g c =
    All-head (λ e. g.P.Prefix.IsFitting e.0) (c.in-Some.prefix, c.in-Some.value.now) c.next.new.self
    (All-same (λ e. g.P.Prefix.IsFitting e.0) ((c.in-Some.prefix, c.in-Some.value.now) ∷ c.next.new.self) c.loop-prefix.prefix-iterator (sym c.in-Some.ensures.steps) c.loop-prefix.invariant)

pub loop-prefix-preserved : goal.loop-prefix-preserved
loop-prefix-preserved g c =
    All-tail (λ e. g.P.Prefix.IsFitting e.0) (c.in-Some.prefix, c.in-Some.value.now) c.next.new.self
    (All-same (λ e. g.P.Prefix.IsFitting e.0) ((c.in-Some.prefix, c.in-Some.value.now) ∷ c.next.new.self) c.loop-prefix.prefix-iterator (sym c.in-Some.ensures.steps) c.loop-prefix.invariant)
