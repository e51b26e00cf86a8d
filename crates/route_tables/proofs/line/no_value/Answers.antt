-- The empty value is that of any table except an access list.
use Rattle.std.proofs.Common.{[], refl, subst, sym}
use Rattle.route_tables.specs.Routes.{IsOfKind}
use Rattle.route_tables.proofs.Reading.LineFields.{empty_is_no_rule}
use Rattle.route_tables.proofs.line.no_value.Goals as goal

pub returns-in-AnyValues-clause-value : goal.returns-in-AnyValues-clause-value
returns-in-AnyValues-clause-value c = (refl, subst (λ kind. IsOfKind kind []) (sym c.in-AnyValues.is) tt)

pub returns-in-AccessList-clause-value : goal.returns-in-AccessList-clause-value
returns-in-AccessList-clause-value c value (none, of_kind) = empty_is_no_rule value none (subst (λ kind. IsOfKind kind value) c.in-AccessList.is of_kind)
