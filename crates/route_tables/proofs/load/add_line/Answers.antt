-- A line adds the routes that are read from it, whose value can be written, and a refusal leaves the first ones.
use Rattle.std.proofs.Common.{◌≡◌, ◌++◌, inl, inr, length, refl, subst, sym}
use Rattle.std.proofs.lemmas.List.{length-map}
use Rattle.std.proofs.lemmas.Result.{err_from_is_err_and, IfErr-weaker}
use Rattle.prefix_trie_bits.specs.declared.prefix.Refusal.TheVariants.{IndexRange, Memory}
use Rattle.prefix_trie_joint.specs.Changes.{maps_of}
use Rattle.prefix_trie_joint.specs.Joined.{entries_of}
use Rattle.route_tables.specs.Allocations.{SomeMayAllocate}
use Rattle.route_tables.specs.Loads.{AddsFirst, AddsSlots, MayExceed, with_routes}
use Rattle.route_tables.specs.Networks.{all_networks}
use Rattle.route_tables.specs.Reasons.{IsReason}
use Rattle.route_tables.specs.Replaced.{replaced_by}
use Rattle.route_tables.specs.Routes.{IsBad, IsLineValue, IsRoute, routes_to}
use Rattle.route_tables.specs.declared.line.ReadError.TheVariants.{Line}
use Rattle.route_tables.proofs.LineValues.{line_value}
use Rattle.route_tables.proofs.LoadedTables.{adds_nothing, on_ok}
use Rattle.route_tables.proofs.Loads.{ends_at_bad, lists_bad, some_first}
use Rattle.route_tables.proofs.load.add_line.Goals as goal

pub add_read-requires : goal.add_read-requires
add_read-requires c =
    let read : IsRoute c.args.reading c.args.line.now (all_networks c.in-Ok-Some.route.0) c.in-Ok-Some.route.1.now =
    rw c.in-Ok-Some.field-0-is at c.in-Ok-Some.ensures.read in
    subst (λ route. IsLineValue route.1.now) (sym c.in-Ok-Some.route-is) (line_value c.args.reading c.args.line.now (all_networks c.in-Ok-Some.route.0) c.in-Ok-Some.route.1.now read)

pub returns-in_err-add_read-in-Ok-Some-clause-ends : goal.returns-in_err-add_read-in-Ok-Some-clause-ends
returns-in_err-add_read-in-Ok-Some-clause-ends c =
    let p = err_from_is_err_and c.from_residual.result c.from_residual.ensures.1 in
    let read : IsRoute c.args.reading c.args.line.now (all_networks c.in-Ok-Some.route.0) c.in-Ok-Some.route.1.now =
    rw c.in-Ok-Some.field-0-is at c.in-Ok-Some.ensures.read in
    let some : AddsFirst (routes_to c.in-Ok-Some.route.1.now (all_networks c.in-Ok-Some.route.0)) (entries_of c.args.table.now) (entries_of c.add_read.new.table) =
    subst (λ route. AddsFirst (routes_to route.1.now (all_networks route.0)) (entries_of c.args.table.now) (entries_of c.add_read.new.table))
    c.in-Ok-Some.route-is c.in_err-add_read-in-Ok-Some.ensures.some in
    rw (p.1, p.2)
    (some_first c.args.reading c.args.line.now (routes_to c.in-Ok-Some.route.1.now (all_networks c.in-Ok-Some.route.0)) (entries_of c.args.table.now) (entries_of c.add_read.new.table)
    (inr (all_networks c.in-Ok-Some.route.0, c.in-Ok-Some.route.1.now, read, refl)) some)

pub returns-in_err-add_read-in-Ok-Some-clause-full : goal.returns-in_err-add_read-in-Ok-Some-clause-full
returns-in_err-add_read-in-Ok-Some-clause-full c =
    let p = err_from_is_err_and c.from_residual.result c.from_residual.ensures.1 in
    let route = c.in-Ok-Some.route in
    let read : IsRoute c.args.reading c.args.line.now (all_networks c.in-Ok-Some.route.0) c.in-Ok-Some.route.1.now =
    rw c.in-Ok-Some.field-0-is at c.in-Ok-Some.ensures.read in
    let exceed : c.in_err-add_read-in-Ok-Some.field-0.0 ≡ IndexRange → MayExceed (length (all_networks c.in-Ok-Some.route.0)) (maps_of c.args.table.now) =
    subst (λ route. c.in_err-add_read-in-Ok-Some.field-0.0 ≡ IndexRange → MayExceed (length (all_networks route.0)) (maps_of c.args.table.now))
    c.in-Ok-Some.route-is c.in_err-add_read-in-Ok-Some.ensures.full in
    rw (p.1, p.2)
    (λ is.
    let is_range : c.in_err-add_read-in-Ok-Some.field-0.0 ≡ IndexRange = cc in (
      routes_to route.1.now (all_networks route.0),
      inr (all_networks route.0, route.1.now, read, refl),
      subst (λ n. MayExceed n (maps_of c.args.table.now)) (sym (length-map (all_networks route.0) (λ network. (network, route.1.now)))) (exceed is_range),
    ))

pub returns-in_ok-add_read-in-Ok-Some-clause-added : goal.returns-in_ok-add_read-in-Ok-Some-clause-added
returns-in_ok-add_read-in-Ok-Some-clause-added c =
    let route = c.in-Ok-Some.route in
    let next = c.in_ok-add_read-in-Ok-Some.ensures in
    let read : IsRoute c.args.reading c.args.line.now (all_networks c.in-Ok-Some.route.0) c.in-Ok-Some.route.1.now =
    rw c.in-Ok-Some.field-0-is at c.in-Ok-Some.ensures.read in record {
      routes = routes_to route.1.now (all_networks route.0);
      gives = inr (all_networks route.0, route.1.now, read, refl);
      entries =
          subst (λ route. entries_of c.add_read.new.table ≡ with_routes (routes_to route.1.now (all_networks route.0)) (entries_of c.args.table.now)) c.in-Ok-Some.route-is next.added;
      replaced =
          subst (λ route. c.add_read.new.replaced.items ≡ c.args.warnings.now.replaced.items ++ replaced_by c.args.number (routes_to route.1.now (all_networks route.0)) (entries_of c.args.table.now))
          c.in-Ok-Some.route-is next.replaced;
      slots =
          subst (λ n. AddsSlots n (maps_of c.args.table.now) (maps_of c.add_read.new.table)) (sym (length-map (all_networks route.0) (λ network. (network, route.1.now))))
          (subst (λ route. AddsSlots (length (all_networks route.0)) (maps_of c.args.table.now) (maps_of c.add_read.new.table)) c.in-Ok-Some.route-is next.slots);
    }

pub returns-in-Err-Line-clause-added : goal.returns-in-Err-Line-clause-added
returns-in-Err-Line-clause-added c =
    let bad : IsBad c.args.reading c.args.line.now = rw c.in-Err-Line.field-0-is at c.in-Err-Line.ensures.bad in
    on_ok c.skip_line.result _ _ (λ listed. adds_nothing c.args.reading c.args.number c.args.line.now c.args.table.now c.args.warnings.now.replaced.items (inl (refl, inr (listed.0, bad))))
    c.skip_line.ensures.listed

pub returns-in-Err-Line-clause-listed : goal.returns-in-Err-Line-clause-listed
returns-in-Err-Line-clause-listed c =
    let bad : IsBad c.args.reading c.args.line.now = rw c.in-Err-Line.field-0-is at c.in-Err-Line.ensures.bad in
    let reason : IsReason c.args.reading c.args.line.now (Line c.in-Err-Line.error) = subst (IsReason c.args.reading c.args.line.now) c.in-Err-Line.field-0-is c.in-Err-Line.ensures.reason in
    lists_bad c.args.reading c.args.number c.args.line.now _ c.in-Err-Line.error c.skip_line.result c.args.warnings.now.skipped.items c.skip_line.new.skipped.items c.skip_line.ensures.listed
    refl refl c.in-Err-Line.error-is bad reason

pub returns-in-Err-Line-clause-ends : goal.returns-in-Err-Line-clause-ends
returns-in-Err-Line-clause-ends c =
    let bad : IsBad c.args.reading c.args.line.now = rw c.in-Err-Line.field-0-is at c.in-Err-Line.ensures.bad in
    let reason : IsReason c.args.reading c.args.line.now (Line c.in-Err-Line.error) = subst (IsReason c.args.reading c.args.line.now) c.in-Err-Line.field-0-is c.in-Err-Line.ensures.reason in
    ends_at_bad c.args.reading c.args.number c.args.line.now _ c.in-Err-Line.error c.skip_line.result (entries_of c.args.table.now) c.skip_line.ensures.refused
    refl refl c.in-Err-Line.error-is bad reason

pub returns-in_err-add_read-in-Ok-Some-clause-memory : goal.returns-in_err-add_read-in-Ok-Some-clause-memory
returns-in_err-add_read-in-Ok-Some-clause-memory c =
    let p = err_from_is_err_and c.from_residual.result c.from_residual.ensures.1 in
    let route = c.in-Ok-Some.route in
    let read : IsRoute c.args.reading c.args.line.now (all_networks c.in-Ok-Some.route.0) c.in-Ok-Some.route.1.now =
    rw c.in-Ok-Some.field-0-is at c.in-Ok-Some.ensures.read in
    let some : c.in_err-add_read-in-Ok-Some.field-0.0 ≡ Memory → SomeMayAllocate (entries_of c.args.table.now) (all_networks c.in-Ok-Some.route.0) c.in-Ok-Some.route.1.now =
    subst (λ route. c.in_err-add_read-in-Ok-Some.field-0.0 ≡ Memory → SomeMayAllocate (entries_of c.args.table.now) (all_networks route.0) route.1.now)
    c.in-Ok-Some.route-is c.in_err-add_read-in-Ok-Some.ensures.memory in
    rw (p.1, p.2)
    (λ is.
    let is_memory : c.in_err-add_read-in-Ok-Some.field-0.0 ≡ Memory = cc in
    inr (inr (all_networks route.0, route.1.now, read, some is_memory)))

pub returns-in-Err-Line-clause-memory : goal.returns-in-Err-Line-clause-memory
returns-in-Err-Line-clause-memory c =
    let bad : IsBad c.args.reading c.args.line.now = rw c.in-Err-Line.field-0-is at c.in-Err-Line.ensures.bad in
    IfErr-weaker c.skip_line.result _ _ (λ error skipped memory. inl (skipped memory, bad)) c.skip_line.ensures.skipped

pub returns-in-Err-Memory-clause-memory : goal.returns-in-Err-Memory-clause-memory
returns-in-Err-Memory-clause-memory c =
    λ is. inr (inl (subst (IsReason c.args.reading c.args.line.now) c.in-Err-Memory.field-0-is c.in-Err-Memory.ensures.reason))
