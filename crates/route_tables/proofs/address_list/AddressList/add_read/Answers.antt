-- The routes of a line are added, and a value that is not empty is noted.
use Rattle.std.proofs.Common.{◌≡◌, ◌∙◌, [], false, true≢false, ap, subst, sym}
use Rattle.route_tables.specs.AddressLists.{AddsRoutes, Covers}
use Rattle.route_tables.specs.Routes.{routes_to}
use Rattle.route_tables.specs.Tables.{Values}
use Rattle.route_tables.proofs.Lists.{none_of}
use Rattle.route_tables.proofs.Reading.ReadLists.{on_both, read_adds}
use Rattle.route_tables.proofs.address_list.AddressList.add_read.Goals as goal
use Rattle.route_tables.proofs.address_list.AddressList.add_read.Goals.{then-not-is_empty, else-not-is_empty}

pub returns : goal.returns
returns c =
    let keeps : (m : Values) → Covers m c.args.self.now → Covers m c.if-not-is_empty.self = λ m old. elim c.if-not-is_empty.branch [
      | then-not-is_empty w ↦ subst (Covers m) (sym w.self-is) old
      | else-not-is_empty w ↦ subst (Covers m) (sym w.self-is) old
    ] in
    let notes : c.if-not-is_empty.self.has_values ≡ false → (c.args.self.now.has_values ≡ false) × (c.args.route.1.now ≡ []) = λ none. elim c.if-not-is_empty.branch [
      | then-not-is_empty w ↦ absurd (true≢false (sym (ap (λ l. l.has_values) w.self-is) ∙ none))
      | else-not-is_empty w ↦ (sym (ap (λ l. l.has_values) w.self-is) ∙ none, none_of c.args.route.1.now (sym c.is_empty.ensures ∙ w.if-not-is_empty.false))
    ] in
    on_both c.add_networks.result _ _ _ (λ covers values.
    subst (λ networks. AddsRoutes c.args.self.now (routes_to c.args.route.1.now networks) c.add_networks.new.self) c.as_slice.ensures
    (read_adds c.args.route.1.now c.as_slice.result.now c.args.self.now c.if-not-is_empty.self c.add_networks.new.self keeps notes covers values)) c.add_networks.ensures.covers c.add_networks.ensures.values
