-- Route tables at one bit: an example that meets each definition, and one that does not. They are this project's own.
use Rattle.std.specs.Prelude.{◌≡◌, ◌==◌, ℕ, Bool, true, false, List, [], ◌∷◌, codes}
use Rattle.prefix_trie.specs.Terms.{Entries, no_entries, with_entry}
use Rattle.prefix_trie_joint.specs.Networks.{ip_back}
use Rattle.route_tables.specs.Access.{decision}
use Rattle.route_tables.specs.AddressSets.{AreCoveredEntries}
use Rattle.route_tables.specs.Fewest.{IsFewest}
use Rattle.route_tables.specs.Lines.{has_hidden, is_hidden}
use Rattle.route_tables.specs.Networks.{AreFewestFor}
use Rattle.route_tables.specs.Tables.{Values}
use Rattle.route_tables.specs.declared.access.Decision.TheVariants.{Allowed, Denied, Unlisted}
use Rattle.route_tables.specs.declared.access.Precedence.TheVariants.{DenyFirst, Longest}
use Rattle.upper_facts.specs.Smallest.{halves}

-- networks of a line of two addresses are their paths
abbrev pub same : List Bool → List Bool
same s = s

-- the first of the two addresses is in the set
abbrev pub is_first : ℕ → Bool
is_first n = n == 0

-- 0.0.0.0/0 is denied, and 128.0.0.0/1 is allowed
abbrev pub rules : Values
rules = with_entry (with_entry no_entries (false ∷ []) (codes "deny")) (false ∷ true ∷ []) (codes "allow")

pub record RoutesHold : Type 0 where
  -- two networks with one value are one network
  pub fewest : IsFewest 1 same (halves (codes "a")) (([], codes "a") ∷ [])
  pub not_fewest : ¬ (IsFewest 1 same (halves (codes "a")) ((false ∷ [], codes "a") ∷ (true ∷ [], codes "a") ∷ []))
  -- both addresses are one network, which has no host bits
  pub range : AreFewestFor 1 0 1 ((0, 0) ∷ [])
  pub host_bits : ¬ (AreFewestFor 1 0 1 ((1, 0) ∷ []))
  -- exactly one half is covered
  pub covered : (v : ℕ) → AreCoveredEntries 1 same (halves v) is_first ((false ∷ [], v) ∷ [])
  pub one_too_many : (v : ℕ) → ¬ (AreCoveredEntries 1 same (halves v) is_first ((false ∷ [], v) ∷ (true ∷ [], v) ∷ []))
  pub one_missing : (v : ℕ) → ¬ (AreCoveredEntries 1 same (halves v) is_first [])
  -- 128.0.0.0/1 is longer and 0.0.0.0/0 denies; no IPv6 address is listed
  pub longest : decision Longest rules (false ∷ true ∷ []) ≡ Allowed (ip_back (false ∷ true ∷ []))
  pub deny_first : decision DenyFirst rules (false ∷ true ∷ []) ≡ Denied (ip_back (false ∷ []))
  pub denied : decision Longest rules (false ∷ false ∷ []) ≡ Denied (ip_back (false ∷ []))
  pub unlisted : decision Longest rules (true ∷ []) ≡ Unlisted
  pub unlisted_by_both : decision DenyFirst rules (true ∷ []) ≡ Unlisted
  -- a tab is hidden, and so are characters without width (U+200B) and of direction (U+202E); a hyphen is not
  pub tab : has_hidden (9 ∷ []) ≡ true
  pub hyphen : has_hidden (45 ∷ []) ≡ false
  pub zero_width : is_hidden 0x200B ≡ true
  pub direction : is_hidden 0x202E ≡ true
