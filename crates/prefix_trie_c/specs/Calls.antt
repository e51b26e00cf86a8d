-- What the calls of the C interface return, and how they change a table.
use Rattle.std.specs.Prelude.{◌≡◌, ℕ, ◌+◌, ◌-◌, ◌^◌, ◌<◌, ◌≤◌, ◌==◌, ◌⊎◌, Bool, cond, List, [], ◌∷◌, Option, None, Some, MatchOption}
use Rattle.std.specs.FinMap.{get}
use Rattle.prefix_trie.specs.Terms.{Entries, no_entries, with_entry, without_entry, root_alone}
use Rattle.prefix_trie_bits.specs.declared.prefix.Refusal.{Refusal}
use Rattle.prefix_trie_bits.specs.declared.prefix.Refusal.TheVariants.{Memory, IndexRange}
use Rattle.prefix_trie_bits.specs.Calls.Storage.{StepByPath}
use Rattle.prefix_trie_bits.specs.Model.Blocks.{no_layout}
use Rattle.prefix_trie_bits.specs.Model.Step.{Insert, Remove, Clear, Reply, Value, Done, Refused}
use Rattle.prefix_trie_table.specs.Model.Contents.{Contents, stored_state}
use Rattle.prefix_trie_c.specs.declared.handle.Handle.{Handle}
use Rattle.prefix_trie_c.specs.declared.tables.Tables.{Tables}
use Rattle.prefix_trie_c.specs.declared.codes.TheConstants.{DONE, MISSING, MEMORY, FULL, LENGTH, NULL}

abbrev pub refusal_code : Refusal → ℕ
refusal_code Memory = MEMORY
refusal_code IndexRange = FULL

-- what was looked for is written, or the code says that it is missing
abbrev pub Gives : {X : Type 0} → Option X → ℕ → X → X → Type 0
Gives None code old new = (code ≡ MISSING) × (new ≡ old)
Gives (Some x) code old new = (code ≡ DONE) × (new ≡ x)

-- what an insertion returns in the model: the value before, or the refusal with this code
abbrev pub insert_reply_of : Option ℕ → ℕ → Reply (List Bool) ℕ
insert_reply_of before code = cond (code == DONE) (Value before) (Refused (cond (code == FULL) IndexRange Memory))

-- the entry is stored, or the network is new and refused, and the entries are as before
abbrev pub SetsEntry : List Bool → ℕ → Entries ℕ → Entries ℕ → ℕ → Type 0
SetsEntry path value old new code =
    ((code ≡ DONE) × (new ≡ with_entry old path value))
    ⊎ ((get old path ≡ None) × (refusal : Refusal) × (code ≡ refusal_code refusal) × (new ≡ old))

-- an insertion into a map is a step of the model, of the storage too
-- A network that is stored is never refused. FULL says that the missing blocks would exceed the slot limit, and MEMORY that a block is missing and would fit.
abbrev pub Inserts : ℕ → List Bool → ℕ → Contents ℕ → Contents ℕ → ℕ → Type 0
Inserts width path value old new code =
    SetsEntry path value old.entries new.entries code
    × StepByPath width (stored_state old) (Insert path value) (insert_reply_of (get old.entries path) code) (stored_state new)

-- an item of an array, which has a network and a value, is inserted, unless its length is above the width
abbrev pub InsertsItem : {P : Type 0} → ℕ → (P → ℕ) → (P → List Bool) → P × ℕ → Contents ℕ → Contents ℕ → ℕ → Type 0
InsertsItem width len_of path item old new code =
    (width < len_of item.0 → (code ≡ LENGTH) × (new ≡ old)) × (len_of item.0 ≤ width → Inserts width (path item.0) item.1 old new code)

-- The items of an array are inserted in order, up to the first that fails. The code is that of the last call, and the count is that of the items inserted.
abbrev pub InsertsEach : {P : Type 0} → ℕ → (P → ℕ) → (P → List Bool) → List (P × ℕ) → Contents ℕ → Contents ℕ → ℕ → ℕ → Type 0
InsertsEach width len_of path [] old new code count = (code ≡ DONE) × (new ≡ old) × (count ≡ 0)
InsertsEach width len_of path (item ∷ items) old new code count =
    ((code ≡ DONE → ⊥) × InsertsItem width len_of path item old new code × (count ≡ 0))
    ⊎ ((between : Contents ℕ) × InsertsItem width len_of path item old between DONE
    × (later : ℕ) × InsertsEach width len_of path items between new code later × (count ≡ 1 + later))

-- a removal from a map is a step of the model, of the storage too: the entry is removed, and the nodes on its path that no entry needs
abbrev pub Removes : ℕ → List Bool → Contents ℕ → Contents ℕ → Type 0
Removes width path old new =
    (new.entries ≡ without_entry old.entries path)
    × StepByPath width (stored_state old) (Remove path) (Value (get old.entries path)) (stored_state new)

-- clearing a map is a step of the model, of the storage too: no entries, the root alone in its slot, and no blocks
abbrev pub Clears : ℕ → Contents ℕ → Contents ℕ → Type 0
Clears width old new =
    (new.entries ≡ no_entries) × StepByPath width (stored_state old) Clear Done (stored_state new)

-- a call on what a handle holds: F says how it changes it, and it stays in its place. An empty handle stays empty
abbrev pub OnHeld : {X : Type 0} → Option X → Option X → Type 0 → ℕ → (X → X → Type 0) → Type 0
OnHeld old new IsInPlace code F = MatchOption old ((code ≡ NULL) × (new ≡ None)) (λ t. MatchOption new ⊥ (λ u. F t u × IsInPlace))

-- the same for the tables of a handle
abbrev pub OnTables : Handle → Handle → ℕ → (Tables → Tables → Type 0) → Type 0
OnTables old new code F = OnHeld old.tables new.tables (new.at ≡ old.at) code F

-- the same for a call that is passed a length: one above the width changes nothing
abbrev pub OnPrefix : ℕ → ℕ → Handle → Handle → ℕ → (Tables → Tables → Type 0) → Type 0
OnPrefix width length old new code F = (width < length → (code ≡ LENGTH) × (new ≡ old)) × (length ≤ width → OnTables old new code F)

-- a new map: no entries, the root alone, and the largest slot limit
abbrev pub IsNewMap : Contents ℕ → Type 0
IsNewMap map =
    (map.entries ≡ no_entries) × (map.nodes ≡ root_alone)
    × (map.space ≡ record { limit = 2 ^ 32 - 1; node_slots = 1; cell_slots = 0 }) × (map.layout ≡ no_layout)

-- a handle that was empty has a table with two new maps, or is empty still and memory is missing
abbrev pub Creates : Option Tables → ℕ → Type 0
Creates None code = code ≡ MEMORY
Creates (Some u) code = (code ≡ DONE) × IsNewMap u.v4 × IsNewMap u.v6
