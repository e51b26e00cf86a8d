-- The fewest networks with the same longest matches, and the ranks of values. This project's own.
use Rattle.std.specs.Prelude.{◌≡◌, ℕ, ◌<◌, ◌≤◌, Bool, List, [], length, map, bytes_eq, Some, IfSome}
use Rattle.std.specs.Borrow.{Bor}
use Rattle.std.specs.FinMap.{get}
use Rattle.std.specs.List.{slice_index_or, IsDistinct}
use Rattle.std.specs.Option.{option_map}
use Rattle.prefix_trie.specs.Terms.{listing, prefix_pairs, Entries}
use Rattle.prefix_trie_ops.specs.Smallest.{HaveSameAnswers, IsSmallest}
use Rattle.route_tables.specs.Tables.{Values}

-- the networks are those of a table in which each address has the same value as in m, or still none, and no such table
-- has fewer networks
pub record IsFewest {P : Type 0} (width : ℕ) (back : List Bool → P) (m : Values) (networks : List (P × List ℕ)) : Type 0 where
  pub smallest : Values
  pub listed : networks ≡ prefix_pairs back (listing smallest)
  pub same : HaveSameAnswers width smallest m
  pub fewest : IsSmallest width smallest

-- each network of a table has this value
abbrev pub HasOnly : List ℕ → Values → Type 0
HasOnly value m = (s : List Bool) (v : List ℕ) → get m s ≡ Some v → v ≡ value

-- the texts that are borrowed
abbrev pub texts_of : List (Bor (List ℕ)) → List (List ℕ)
texts_of keys = map (λ key. key.now) keys

-- the text of a rank, or the empty one if no text has this rank
abbrev pub text_at : List (List ℕ) → ℕ → List ℕ
text_at texts rank = slice_index_or texts rank []

-- the texts with one more, unless it is one of them already, and its rank
pub record Ranks (texts after : List (List ℕ)) (text : List ℕ) (rank : ℕ) : Type 0 where
  pub distinct : IsDistinct bytes_eq after
  pub longer : length texts ≤ length after
  pub kept : (i : ℕ) → i < length texts → text_at after i ≡ text_at texts i
  pub within : rank < length after
  pub is_text : text_at after rank ≡ text

-- the texts are distinct, and each network has the rank of its value
pub record HasRanks (texts : List (List ℕ)) (ranks : Entries ℕ) (m : Values) : Type 0 where
  pub distinct : IsDistinct bytes_eq texts
  pub within : (s : List Bool) → IfSome (get ranks s) (λ rank. rank < length texts)
  pub named : (s : List Bool) → option_map (text_at texts) (get ranks s) ≡ get m s

-- the networks, each with the text of its rank
abbrev pub named_pairs : {P : Type 0} → (List Bool → P) → List (List ℕ) → Entries ℕ → List (P × List ℕ)
named_pairs back texts ranks = map (λ e. (back e.0, text_at texts e.1)) (listing ranks)
