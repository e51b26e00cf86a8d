-- If the walk ends, all values are the first one.
use Rattle.std.proofs.Common.{◌≡◌, All, subst, sym}
use Rattle.std.proofs.lemmas.List.Elements.{All-contains, All-nil}
use Rattle.prefix_trie.specs.Terms.{listing}
use Rattle.route_tables.proofs.Lists.{in_map}
use Rattle.route_tables.proofs.fewest.only_value.Goals as goal

pub returns : goal.returns
returns g c s v is =
    All-contains (λ v. v ≡ c.as_str-first.result.now) _ v
    (c.loop-value.invariant.2 (subst (All (λ v. v ≡ c.as_str-first.result.now)) (sym c.in-None.ensures.steps.0) (All-nil (λ v. v ≡ c.as_str-first.result.now))))
    (in_map (λ e. e.1) (listing c.args.table.now.entries) (s, v) ((c.listing_laws.ensures.has_each c.args.table.now.entries s v).0 is))
