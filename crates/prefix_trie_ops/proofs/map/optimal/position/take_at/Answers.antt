-- The step over the next entry: it is at the position exactly if the position contains it and it is not longer.
use Rattle.std.proofs.Common.{◌≡◌, ◌∙◌, ◌∷◌, ◌<◌, ◌≤◌, nat_lt, lt-ltb, true, false, length, All, ap, sym, subst, arith}
use Rattle.std.proofs.lemmas.Bool.Decides.{nat_tests}
use Rattle.std.proofs.lemmas.List.Elements.{All-head, All-tail}
use Rattle.prefix_trie.specs.Terms.{begins}
use Rattle.prefix_trie_bits.specs.Keys.{path_length}
use Rattle.prefix_trie_ops.proofs.Optimal.Positions.{begun, is_below, longer, not_begun, other_items, other_value, taken_items, taken_value}
use Rattle.prefix_trie_ops.proofs.map.optimal.position.take_at.Goals as goal

pub contains-requires-clause-other_fits : goal.contains-requires-clause-other_fits
contains-requires-clause-other_fits g c =
    let F = λ (e : g.row.P.Denot × g.row.T.Denot). g.P.Prefix.IsFitting e.0 in
    All-head F c.in-Some.field-0-0.now c.in-Some.rest.now (subst (All F) c.in-Some.ensures.cases.0 c.walk.invariant)

pub returns-then-not-contains-clause-value : goal.returns-then-not-contains-clause-value
returns-then-not-contains-clause-value g c =
    let path = g.P.Prefix.path in
    let s = path c.args.at.now in
    let e = c.in-Some.field-0-0.now in
    let is : c.args.walk.now ≡ e ∷ c.in-Some.rest.now = sym c.walk.view_is ∙ c.in-Some.ensures.cases.0 in
    let off : begins s (path e.0) ≡ false = sym c.contains.ensures ∙ c.if-not-contains.true in
    sym (other_value path s c.args.walk.now c.in-Some.rest.now e is (not_begun s (path e.0) off))

pub returns-then-not-contains-clause-items : goal.returns-then-not-contains-clause-items
returns-then-not-contains-clause-items g c =
    let path = g.P.Prefix.path in
    let s = path c.args.at.now in
    let e = c.in-Some.field-0-0.now in
    let is : c.args.walk.now ≡ e ∷ c.in-Some.rest.now = sym c.walk.view_is ∙ c.in-Some.ensures.cases.0 in
    let off : begins s (path e.0) ≡ false = sym c.contains.ensures ∙ c.if-not-contains.true in
    sym (other_items path s c.args.walk.now c.in-Some.rest.now e is (not_begun s (path e.0) off))

pub returns-then-prefix_len-clause-value : goal.returns-then-prefix_len-clause-value
returns-then-prefix_len-clause-value g c =
    let path = g.P.Prefix.path in
    let laws = g.met.P.Prefix.prefix_laws in
    let s = path c.args.at.now in
    let e = c.in-Some.field-0-0.now in
    let F = λ (e : g.row.P.Denot × g.row.T.Denot). g.P.Prefix.IsFitting e.0 in
    let fits = All-head F e c.in-Some.rest.now (subst (All F) c.in-Some.ensures.cases.0 c.walk.invariant) in
    let is : c.args.walk.now ≡ e ∷ c.in-Some.rest.now = sym c.walk.view_is ∙ c.in-Some.ensures.cases.0 in
    let less : length s < length (path e.0) = omega (arith, path_length laws c.args.at.now c.requires, path_length laws e.0 fits, c.prefix_len.ensures, c.prefix_len-2.ensures, c.if-prefix_len.true) in
    sym (other_value path s c.args.walk.now c.in-Some.rest.now e is (longer s (path e.0) less))

pub returns-then-prefix_len-clause-items : goal.returns-then-prefix_len-clause-items
returns-then-prefix_len-clause-items g c =
    let path = g.P.Prefix.path in
    let laws = g.met.P.Prefix.prefix_laws in
    let s = path c.args.at.now in
    let e = c.in-Some.field-0-0.now in
    let F = λ (e : g.row.P.Denot × g.row.T.Denot). g.P.Prefix.IsFitting e.0 in
    let fits = All-head F e c.in-Some.rest.now (subst (All F) c.in-Some.ensures.cases.0 c.walk.invariant) in
    let is : c.args.walk.now ≡ e ∷ c.in-Some.rest.now = sym c.walk.view_is ∙ c.in-Some.ensures.cases.0 in
    let less : length s < length (path e.0) = omega (arith, path_length laws c.args.at.now c.requires, path_length laws e.0 fits, c.prefix_len.ensures, c.prefix_len-2.ensures, c.if-prefix_len.true) in
    sym (other_items path s c.args.walk.now c.in-Some.rest.now e is (longer s (path e.0) less))

pub returns-then-prefix_len-clause-below : goal.returns-then-prefix_len-clause-below
returns-then-prefix_len-clause-below g c =
    let path = g.P.Prefix.path in
    let laws = g.met.P.Prefix.prefix_laws in
    let s = path c.args.at.now in
    let e = c.in-Some.field-0-0.now in
    let F = λ (e : g.row.P.Denot × g.row.T.Denot). g.P.Prefix.IsFitting e.0 in
    let fits = All-head F e c.in-Some.rest.now (subst (All F) c.in-Some.ensures.cases.0 c.walk.invariant) in
    let is : c.args.walk.now ≡ e ∷ c.in-Some.rest.now = sym c.walk.view_is ∙ c.in-Some.ensures.cases.0 in
    let less : length s < length (path e.0) = omega (arith, path_length laws c.args.at.now c.requires, path_length laws e.0 fits, c.prefix_len.ensures, c.prefix_len-2.ensures, c.if-prefix_len.true) in
    let b : begins s (path e.0) ≡ true = sym c.contains.ensures ∙ c.if-not-contains.false in
    sym (is_below path s c.args.walk.now c.in-Some.rest.now e is (lt-ltb (length s) (length (path e.0)) less) b)

pub returns-then-prefix_len-clause-short : goal.returns-then-prefix_len-clause-short
returns-then-prefix_len-clause-short g c _ =
    let F = λ (e : g.row.P.Denot × g.row.T.Denot). g.P.Prefix.IsFitting e.0 in
    let e = c.in-Some.field-0-0.now in
    let fits = All-head F e c.in-Some.rest.now (subst (All F) c.in-Some.ensures.cases.0 c.walk.invariant) in
    let within : g.P.Prefix.len_of e.0 ≤ g.P.R.Key.bit_width = ((g.met.P.Prefix.prefix_laws.fits_is e.0).0 fits).1 in
    omega (arith, within, c.prefix_len.ensures, c.prefix_len-2.ensures, c.if-prefix_len.true)

pub invariant_of-walk : goal.invariant_of-walk
invariant_of-walk g c =
    let F = λ (e : g.row.P.Denot × g.row.T.Denot). g.P.Prefix.IsFitting e.0 in
    All-tail F c.in-Some.field-0-0.now c.in-Some.rest.now (subst (All F) c.in-Some.ensures.cases.0 c.walk.invariant)

pub returns-clause-value : goal.returns-clause-value
returns-clause-value g c =
    let path = g.P.Prefix.path in
    let laws = g.met.P.Prefix.prefix_laws in
    let s = path c.args.at.now in
    let e = c.in-Some.field-0-0.now in
    let F = λ (e : g.row.P.Denot × g.row.T.Denot). g.P.Prefix.IsFitting e.0 in
    let fits = All-head F e c.in-Some.rest.now (subst (All F) c.in-Some.ensures.cases.0 c.walk.invariant) in
    let is : c.args.walk.now ≡ e ∷ c.in-Some.rest.now = sym c.walk.view_is ∙ c.in-Some.ensures.cases.0 in
    let b : begins s (path e.0) ≡ true = sym c.contains.ensures ∙ c.if-not-contains.false in
    let no : nat_lt (length s) (length (path e.0)) ≡ false =
    ap (λ n. nat_lt n (length (path e.0))) (path_length laws c.args.at.now c.requires ∙ sym c.prefix_len.ensures) ∙ ap (nat_lt c.prefix_len.result) (path_length laws e.0 fits ∙ sym c.prefix_len-2.ensures) ∙ grind (arith, nat_tests) in
    sym (taken_value path s c.args.walk.now c.in-Some.rest.now e is (begun s (path e.0) b no))

pub returns-clause-items : goal.returns-clause-items
returns-clause-items g c =
    let path = g.P.Prefix.path in
    let laws = g.met.P.Prefix.prefix_laws in
    let s = path c.args.at.now in
    let e = c.in-Some.field-0-0.now in
    let F = λ (e : g.row.P.Denot × g.row.T.Denot). g.P.Prefix.IsFitting e.0 in
    let fits = All-head F e c.in-Some.rest.now (subst (All F) c.in-Some.ensures.cases.0 c.walk.invariant) in
    let is : c.args.walk.now ≡ e ∷ c.in-Some.rest.now = sym c.walk.view_is ∙ c.in-Some.ensures.cases.0 in
    let b : begins s (path e.0) ≡ true = sym c.contains.ensures ∙ c.if-not-contains.false in
    let no : nat_lt (length s) (length (path e.0)) ≡ false =
    ap (λ n. nat_lt n (length (path e.0))) (path_length laws c.args.at.now c.requires ∙ sym c.prefix_len.ensures) ∙ ap (nat_lt c.prefix_len.result) (path_length laws e.0 fits ∙ sym c.prefix_len-2.ensures) ∙ grind (arith, nat_tests) in
    sym (taken_items path s c.args.walk.now c.in-Some.rest.now e is (begun s (path e.0) b no))
