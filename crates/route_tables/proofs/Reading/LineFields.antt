-- The fields of a line: what is left of a definition at the fields that were found: for the functions of `line`.
use Rattle.std.proofs.Common.{◌≡◌, ◌⊎◌, ◌∙◌, ℕ, List, [], ◌∷◌, ap, arith, codes, inl, inr, length, subst, sym}
use Rattle.prefix_trie_joint.specs.declared.prefix.IpPrefix.{IpPrefix}
use Rattle.route_tables.specs.Lines.{fields}
use Rattle.route_tables.specs.Reasons.{IsPlainText, IsRuleInOtherCase, IsValueTextReason}
use Rattle.route_tables.specs.Routes.{AreEndsAndValue, AreFieldsOf, AreNetworksAndValue, IfLine, IsBad, IsRule, IsValue}
use Rattle.route_tables.specs.declared.line.LineError.{LineError}
use Rattle.route_tables.specs.declared.line.LineError.TheVariants.{CapitalLetters, OtherValue}
use Rattle.route_tables.specs.declared.line.ReadError.{ReadError}
use Rattle.route_tables.specs.declared.line.ReadError.TheVariants.{Line, Memory}
use Rattle.route_tables.specs.declared.load.Reading.{Reading}
use Rattle.route_tables.specs.declared.load.TableKind.{TableKind}
use Rattle.route_tables.specs.declared.load.TableKind.TheVariants.{AccessList}

pub if_line : (A B : Type 0) → (A → B) → (error : ReadError) → IfLine A error → IfLine B error
if_line A B f (Line error) fact = f fact
if_line A B f Memory fact = tt

-- the empty value is no rule
pub empty_is_no_rule : (value : List ℕ) → value ≡ [] → ¬ (IsRule value)
empty_is_no_rule value none (inl is) = let e : length value ≡ 5 = ap length is in let z : length value ≡ 0 = ap length none in omega arith
empty_is_no_rule value none (inr is) = let e : length value ≡ 4 = ap length is in let z : length value ≡ 0 = ap length none in omega arith

-- why a plain text is no rule
pub rule_reason : (kind : TableKind) (field : List ℕ) → kind ≡ AccessList → IsPlainText field → (error : LineError)
    → ((error ≡ CapitalLetters) × ¬ (IsRule field) × IsRuleInOtherCase field) ⊎ ((error ≡ OtherValue) × ¬ (IsRule field) × ¬ (IsRuleInOtherCase field))
    → IsValueTextReason kind field error
rule_reason kind field of_kind plain error (inl (is, none, other)) = subst (IsValueTextReason kind field) (sym is) (of_kind, plain, none, other)
rule_reason kind field of_kind plain error (inr (is, none, other)) = subst (IsValueTextReason kind field) (sym is) (of_kind, plain, none, other)

module _ (reading : Reading) (first : List ℕ) (networks : List IpPrefix) (value : List ℕ) where
  -- a field alone is no range with a hyphen
  pub of_alone : (later : List (List ℕ)) → later ≡ [] → AreFieldsOf reading first later networks value → AreNetworksAndValue reading first [] networks value
  of_alone later none (inl are) = subst (λ l. AreNetworksAndValue reading first l networks value) none are
  of_alone later none (inr (last, rest, split, are)) =
      absurd (let e : length later ≡ length (codes "-" ∷ last ∷ rest) = ap length split in let z : length later ≡ 0 = ap length none in omega arith)

  -- fields that are not a hyphen and one more
  pub of_valued : (later : List (List ℕ)) → ((last : List ℕ) (rest : List (List ℕ)) → ¬ (later ≡ codes "-" ∷ last ∷ rest))
      → AreFieldsOf reading first later networks value → AreNetworksAndValue reading first later networks value
  of_valued later other (inl are) = are
  of_valued later other (inr (last, rest, split, are)) = absurd (other last rest split)

  two_are_no_value : (later rest : List (List ℕ)) (hyphen last : List ℕ) → later ≡ hyphen ∷ last ∷ rest → ¬ (IsValue reading.kind later value)
  two_are_no_value later rest hyphen last split is =
      let at : IsValue reading.kind (hyphen ∷ last ∷ rest) value = subst (λ l. IsValue reading.kind l value) split is in
      let e : length (last ∷ rest) ≡ 0 = ap length at.0 in omega arith

  -- a hyphen and one more field
  pub of_spaced : (later rest : List (List ℕ)) (last : List ℕ) → later ≡ codes "-" ∷ last ∷ rest → AreFieldsOf reading first later networks value
      → AreEndsAndValue reading first last rest networks value
  of_spaced later rest last split (inl are) = absurd (two_are_no_value later rest (codes "-") last split are.is_value)
  of_spaced later rest last split (inr (other, more, is, are)) =
      let same : codes "-" ∷ last ∷ rest ≡ codes "-" ∷ other ∷ more = sym split ∙ is in
      let of_last : other ≡ last = cc in
      let of_rest : more ≡ rest = cc in
      subst (λ l. AreEndsAndValue reading first l rest networks value) of_last (subst (λ r. AreEndsAndValue reading first other r networks value) of_rest are)

-- a line whose fields are not those of networks and their value is bad
pub is_bad : (reading : Reading) (line first : List ℕ) (later : List (List ℕ)) → fields line ≡ first ∷ later
    → ((networks : List IpPrefix) (value : List ℕ) → ¬ (AreFieldsOf reading first later networks value)) → IsBad reading line
is_bad reading line first later split none = record {
  is_some = λ blank. let e : [] ≡ first ∷ later = sym blank.0 ∙ split in cc;
  is_none = λ networks value route.
      let same : first ∷ later ≡ route.first ∷ route.later = sym split ∙ route.has_fields in
      let of_first : route.first ≡ first = cc in
      let of_later : route.later ≡ later = cc in
      none networks value
      (subst (λ l. AreFieldsOf reading first l networks value) of_later (subst (λ f. AreFieldsOf reading f route.later networks value) of_first route.are_fields));
}
