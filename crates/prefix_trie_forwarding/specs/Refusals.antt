-- When an insertion into a forwarding table is refused. This project's own.
use Rattle.std.specs.Prelude.{◌≡◌, ◌⊎◌, ℕ, ◌+◌, ◌-◌, ◌*◌, ◌/◌, ◌^◌, ◌<◌, Bool, List, length}
use Rattle.std.specs.FinMap.{len}
use Rattle.prefix_trie_bits.specs.Calls.Storage.{StepByPath}
use Rattle.prefix_trie_bits.specs.Model.Entries.{Entries}
use Rattle.prefix_trie_bits.specs.Model.Step.{Insert, Refused}
use Rattle.prefix_trie_bits.specs.declared.prefix.Refusal.{Refusal}
use Rattle.prefix_trie_bits.specs.declared.prefix.Refusal.TheVariants.{IndexRange, Memory}
use Rattle.prefix_trie_forwarding.specs.Needs.{needed_groups}
use Rattle.prefix_trie_table.specs.Model.Contents.{Contents, stored_state}

-- how many blocks a network of so many bits lies in and is longer than: one for each eight bits after those of the root,
-- and one for the rest
abbrev pub groups_above : ℕ → ℕ → ℕ
groups_above root_bits bits = (bits - root_bits + 7) / 8

-- so many groups are fewer than are missing, and no more are made: 2^31 exist, or memory for one more is missing
pub record LacksGroups (made free missing : ℕ) (cause : Refusal) : Type 0 where
  pub few : free < missing
  pub range : cause ≡ IndexRange → made ≡ 2147483648
  pub memory : cause ≡ Memory → made < 2147483648

module _ {T : Type 0} where
  -- the slots are those of so many groups that they may be too few for the entries and a network more: with `IndexRange`
  -- those of 2^31 groups, with `Memory` of fewer
  pub record HasFewGroups (root_bits slots : ℕ) (m : Entries T) (s : List Bool) (cause : Refusal) : Type 0 where
    pub few : slots < 2 ^ root_bits + 256 * (len (needed_groups root_bits m) + groups_above root_bits (length s))
    pub range : cause ≡ IndexRange → slots ≡ 2 ^ root_bits + 256 * 2147483648
    pub memory : cause ≡ Memory → slots < 2 ^ root_bits + 256 * 2147483648

  -- a map refuses to insert a network, or nothing has changed it and there are few groups
  abbrev pub Refuses : ℕ → ℕ → ℕ → List Bool → T → Refusal → Contents T → Contents T → Type 0
  Refuses width root_bits slots s v cause old new =
      StepByPath width (stored_state old) (Insert s v) (Refused cause) (stored_state new)
      ⊎ ((new ≡ old) × HasFewGroups root_bits slots old.entries s cause)
