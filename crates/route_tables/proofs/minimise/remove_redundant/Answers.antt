-- An entry that is kept is one of the listing before, so it is an entry of the old table.
use Rattle.std.proofs.Common.{◌≡◌, ◌∙◌, not, Bool, List, bytes_eq, filter, subst, ap}
use Rattle.std.specs.List.{Contains}
use Rattle.prefix_trie.specs.Terms.{listing}
use Rattle.prefix_trie_ops.specs.Values.{is_redundant}
use Rattle.route_tables.proofs.Lists.{from_filter}
use Rattle.route_tables.proofs.minimise.remove_redundant.Goals as goal

pub returns-clause-part : goal.returns-clause-part
returns-clause-part g c = λ s v here.
    let m = c.args.table.now.entries in
    let test : List Bool → Bool = λ t. not (is_redundant bytes_eq m t) in
    let listed : Contains (listing c.aggregate_consistent.new.table.entries) (s, v) = (c.listing_laws.ensures.has_each c.aggregate_consistent.new.table.entries s v).0 here in
    let kept : listing c.aggregate_consistent.new.table.entries ≡ filter (λ e. test e.0) (listing m) =
    ap listing c.in_ok-aggregate_consistent.ensures.entries ∙ c.listing_laws.ensures.retained m test in
    (c.listing_laws.ensures.has_each m s v).1 (from_filter (λ e. test e.0) (listing m) (s, v) (subst (λ es. Contains es (s, v)) kept listed)).0
