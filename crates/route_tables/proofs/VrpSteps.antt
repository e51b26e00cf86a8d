-- The VRPs and the bad lines of the lines so far: the invariant of the loop of `add_vrps`. And what is wrong with a line.
use Rattle.std.proofs.Common.{◌≡◌, ◌∙◌, ℕ, ◌+◌, List, [], ◌∷◌, ◌++◌, MatchResult, Result, Ok, Err, ap, append-nil, append_assoc, false, inl, inr, refl, subst, sym, true, Bool}
use Rattle.std.proofs.NetLemmas.Theorems.{IsIpText_unique}
use Rattle.std.specs.Str.{IsUtf8}
use Rattle.origin_validation.specs.declared.vrp.Vrp.{Vrp}
use Rattle.prefix_trie_joint.specs.Networks.{ip_host}
use Rattle.prefix_trie_joint.specs.Texts.{IpTextLaws}
use Rattle.prefix_trie_joint.specs.declared.prefix.IpPrefix.{IpPrefix}
use Rattle.route_tables.specs.Networks.{IsNetworkText, IsReadAs, IsTextBySlash, has_slash}
use Rattle.route_tables.specs.AsNumbers.{IsAsNumber}
use Rattle.route_tables.specs.Lines.{has_bare_return}
use Rattle.route_tables.specs.VrpLines.{AddsVrpLine, AreFieldsOfVrp, HasAsNumber, HaveVrps, IsBadVrp, IsBlankOrHeader, IsFieldsError, IsMaxLength, IsPrefixError, IsVrpError, IsVrpLine, first_field, second_field, third_field}
use Rattle.route_tables.specs.declared.network.HostBits.{HostBits}
use Rattle.route_tables.specs.declared.network.HostBits.TheVariants.{Cleared, Refused}
use Rattle.route_tables.specs.declared.vrp_lines.BadVrp.{BadVrp}
use Rattle.route_tables.specs.declared.vrp_lines.VrpError.{VrpError}
use Rattle.route_tables.specs.declared.vrp_lines.VrpError.TheVariants.{AsNumber, BareReturn, MaxLength, Network, NotUtf8}

-- the lines so far added VRPs, and what the other lines have comes after them
pub record VrpsSoFar (host_bits : HostBits) (all rest : List (List ℕ)) (number : ℕ) (before now : List Vrp) (bad : List BadVrp) : Type 0 where
  pub added : List Vrp
  pub vrps : now ≡ before ++ added
  pub have : (more : List Vrp) (worse : List BadVrp) → HaveVrps host_bits number rest more worse → HaveVrps host_bits 0 all (added ++ more) (bad ++ worse)

module _ (host_bits : HostBits) (all : List (List ℕ)) (before : List Vrp) where
  pub vrps_start : VrpsSoFar host_bits all all 0 before before []
  vrps_start = record { added = []; vrps = sym (append-nil before); have = λ more worse h. h }

  pub vrps_on : (rest later : List (List ℕ)) (line : List ℕ) (number : ℕ) (now next : List Vrp) (bad worse : List BadVrp) → rest ≡ line ∷ later
      → AddsVrpLine host_bits (number + 1) line now next bad worse → VrpsSoFar host_bits all rest number before now bad → VrpsSoFar host_bits all later (number + 1) before next worse
  vrps_on rest later line number now next bad worse split (inl (blank, same, also)) old = record {
    added = old.added;
    vrps = same ∙ old.vrps;
    have = λ more more_bad h.
        subst (λ b. HaveVrps host_bits 0 all (old.added ++ more) (b ++ more_bad)) (sym also)
        (old.have more more_bad (subst (λ r. HaveVrps host_bits number r more more_bad) (sym split) (inl (blank, h))));
  }
  vrps_on rest later line number now next bad worse split (inr (inl (vrp, is, one, also))) old = record {
    added = old.added ++ vrp ∷ [];
    vrps = one ∙ ap (λ v. v ++ vrp ∷ []) old.vrps ∙ append_assoc before old.added (vrp ∷ []);
    have = λ more more_bad h.
        subst (λ b. HaveVrps host_bits 0 all ((old.added ++ vrp ∷ []) ++ more) (b ++ more_bad)) (sym also)
        (subst (λ v. HaveVrps host_bits 0 all v (bad ++ more_bad)) (sym (append_assoc old.added (vrp ∷ []) more))
        (old.have (vrp ∷ more) more_bad (subst (λ r. HaveVrps host_bits number r (vrp ∷ more) more_bad) (sym split) (inr (inl (vrp, more, is, refl, h))))));
  }
  vrps_on rest later line number now next bad worse split (inr (inr (first, is, same, one))) old = record {
    added = old.added;
    vrps = same ∙ old.vrps;
    have = λ more more_bad h.
        subst (λ b. HaveVrps host_bits 0 all (old.added ++ more) (b ++ more_bad)) (sym one)
        (subst (λ b. HaveVrps host_bits 0 all (old.added ++ more) b) (sym (append_assoc bad (first ∷ []) more_bad))
        (old.have more (first ∷ more_bad) (subst (λ r. HaveVrps host_bits number r more (first ∷ more_bad)) (sym split) (inr (inr (first, more_bad, is, refl, h))))));
  }

  pub vrps_end : (rest : List (List ℕ)) (number : ℕ) (now : List Vrp) (bad : List BadVrp) → rest ≡ [] → VrpsSoFar host_bits all rest number before now bad
      → (added : List Vrp) × HaveVrps host_bits 0 all added bad × (now ≡ before ++ added)
  vrps_end rest number now bad none old =
      let whole : HaveVrps host_bits 0 all (old.added ++ []) (bad ++ []) = old.have [] [] (subst (λ r. HaveVrps host_bits number r [] []) (sym none) (refl, refl)) in (
        old.added,
        subst (λ v. HaveVrps host_bits 0 all v bad) (append-nil old.added) (subst (HaveVrps host_bits 0 all (old.added ++ [])) (append-nil bad) whole),
        old.vrps,
      )

module _ (laws : IpTextLaws) where
  read_as_one : (host_bits : HostBits) (written a b : IpPrefix) → IsReadAs host_bits written a → IsReadAs host_bits written b → a ≡ b
  read_as_one Refused written a b (is, low) (also, too) = is ∙ sym also
  read_as_one Cleared written a b is also = is ∙ sym also

  by_slash_one : (slash : Bool) (host_bits : HostBits) (text : List ℕ) (a b : IpPrefix) → IsTextBySlash slash host_bits text a → IsTextBySlash slash host_bits text b → a ≡ b
  by_slash_one true host_bits text a b (x, of_x, is) (y, of_y, also) =
      read_as_one host_bits x a b is (subst (λ w. IsReadAs host_bits w b) (laws.at_most_one text y x of_y of_x) also)
  by_slash_one false host_bits text a b (x, of_x, is) (y, of_y, also) = is ∙ ap ip_host (IsIpText_unique text x y of_x of_y) ∙ sym also

  -- a text denotes at most one network
  pub one_network : (host_bits : HostBits) (text : List ℕ) (a b : IpPrefix) → IsNetworkText host_bits text a → IsNetworkText host_bits text b → a ≡ b
  one_network host_bits text a b = by_slash_one (has_slash text) host_bits text a b

  -- what was read from three fields
  pub fields_read : (host_bits : HostBits) (first second third : List ℕ) (origin : ℕ) (prefix : IpPrefix) (r : Result Vrp VrpError) → IsAsNumber first origin → IsUtf8 second
      → IsNetworkText host_bits second prefix
      → MatchResult r (λ vrp. (vrp.prefix ≡ prefix) × (vrp.origin ≡ origin) × IsMaxLength third prefix vrp.max_len) (λ error. (error ≡ MaxLength) × ((n : ℕ) → ¬ (IsMaxLength third prefix n)))
      → MatchResult r (AreFieldsOfVrp host_bits first second third) (λ error. IsFieldsError host_bits first second third error × ((vrp : Vrp) → ¬ (AreFieldsOfVrp host_bits first second third vrp)))
  fields_read host_bits first second third origin prefix (Ok vrp) number utf8 network (same, also, most) = record {
    origin = subst (λ n. IsAsNumber first n) (sym also) number;
    utf8 = utf8;
    prefix = subst (λ p. IsNetworkText host_bits second p) (sym same) network;
    max_len = subst (λ p. IsMaxLength third p vrp.max_len) (sym same) most;
  }
  fields_read host_bits first second third origin prefix (Err error) number utf8 network (is, none) = (
    subst (IsFieldsError host_bits first second third) (sym is) ((origin, number), (prefix, network, none)),
    λ vrp are. none vrp.max_len (subst (λ p. IsMaxLength third p vrp.max_len) (one_network host_bits second vrp.prefix prefix are.prefix network) are.max_len),
  )

-- a field is a prefix if its text is one
pub prefix_of_text : (host_bits : HostBits) (field text : List ℕ) (r : Result IpPrefix VrpError) → text ≡ field → IsUtf8 field
    → MatchResult r (IsNetworkText host_bits text) (IsPrefixError host_bits text) → MatchResult r (λ prefix. IsUtf8 field × IsNetworkText host_bits field prefix) (IsPrefixError host_bits field)
prefix_of_text host_bits field text (Ok prefix) same utf8 is = (utf8, subst (λ t. IsNetworkText host_bits t prefix) same is)
prefix_of_text host_bits field text (Err error) same utf8 wrong = subst (λ t. IsPrefixError host_bits t error) same wrong

module _ (host_bits : HostBits) (first second third : List ℕ) where
  pub wrong_origin : (error : VrpError) → error ≡ AsNumber → ¬ (HasAsNumber first)
      → IsFieldsError host_bits first second third error × ((vrp : Vrp) → ¬ (AreFieldsOfVrp host_bits first second third vrp))
  wrong_origin error is none = (subst (IsFieldsError host_bits first second third) (sym is) none, λ vrp are. none (vrp.origin, are.origin))

  no_prefix : (error : VrpError) → IsPrefixError host_bits second error → (vrp : Vrp) → ¬ (AreFieldsOfVrp host_bits first second third vrp)
  no_prefix BareReturn wrong vrp are = absurd wrong
  no_prefix AsNumber wrong vrp are = absurd wrong
  no_prefix NotUtf8 wrong vrp are = wrong are.utf8
  no_prefix (Network error) wrong vrp are = wrong vrp.prefix are.prefix
  no_prefix MaxLength wrong vrp are = absurd wrong

  prefix_reason : (error : VrpError) → HasAsNumber first → IsPrefixError host_bits second error → IsFieldsError host_bits first second third error
  prefix_reason BareReturn number wrong = absurd wrong
  prefix_reason AsNumber number wrong = absurd wrong
  prefix_reason NotUtf8 number wrong = (number, wrong)
  prefix_reason (Network error) number wrong = (number, wrong)
  prefix_reason MaxLength number wrong = absurd wrong

  pub wrong_prefix : (error : VrpError) → HasAsNumber first → IsPrefixError host_bits second error
      → IsFieldsError host_bits first second third error × ((vrp : Vrp) → ¬ (AreFieldsOfVrp host_bits first second third vrp))
  wrong_prefix error number wrong = (prefix_reason error number wrong, no_prefix error wrong)

-- why a line has no VRP, from its fields
reason_of : (host_bits : HostBits) (line : List ℕ) (error : VrpError) → IsFieldsError host_bits (first_field line) (second_field line) (third_field line) error → IsVrpError host_bits line error
reason_of host_bits line BareReturn wrong = absurd wrong.1
reason_of host_bits line AsNumber wrong = wrong
reason_of host_bits line NotUtf8 wrong = wrong
reason_of host_bits line (Network error) wrong = wrong
reason_of host_bits line MaxLength wrong = wrong

-- what was read from the fields of a line that is neither blank nor a header
module _ (host_bits : HostBits) (line first second third : List ℕ) (of_first : first ≡ first_field line) (of_second : second ≡ second_field line) (of_third : third ≡ third_field line) where
  pub vrp_line : (vrp : Vrp) → has_bare_return line ≡ false → AreFieldsOfVrp host_bits first second third vrp → IsVrpLine host_bits line vrp
  vrp_line vrp no_return are = (
    subst (λ f. AreFieldsOfVrp host_bits f (second_field line) (third_field line) vrp) of_first
        (subst (λ s. AreFieldsOfVrp host_bits first s (third_field line) vrp) of_second (subst (λ t. AreFieldsOfVrp host_bits first second t vrp) of_third are)),
    no_return,
  )

  pub bad_line : (error : VrpError) → ¬ (IsBlankOrHeader line)
      → IsFieldsError host_bits first second third error × ((vrp : Vrp) → ¬ (AreFieldsOfVrp host_bits first second third vrp)) → IsBadVrp host_bits line error
  bad_line error some wrong = record {
    is_some = some;
    is_none = λ vrp is.
        wrong.1 vrp
        (subst (λ f. AreFieldsOfVrp host_bits f second third vrp) (sym of_first)
        (subst (λ s. AreFieldsOfVrp host_bits (first_field line) s third vrp) (sym of_second)
        (subst (λ t. AreFieldsOfVrp host_bits (first_field line) (second_field line) t vrp) (sym of_third) is.0)));
    reason = reason_of host_bits line error
        (subst (λ f. IsFieldsError host_bits f (second_field line) (third_field line) error) of_first
        (subst (λ s. IsFieldsError host_bits first s (third_field line) error) of_second (subst (λ t. IsFieldsError host_bits first second t error) of_third wrong.0)));
  }
