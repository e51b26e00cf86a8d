-- The calls and the replies of a run, as those of the model. This project's own.
use Rattle.std.specs.Prelude.{ℕ, Bool, List, map}
use Rattle.std.specs.Option.{option_map}
use Rattle.prefix_trie_bits.specs.Model.Bits.{number}
use Rattle.prefix_trie_bits.specs.Model.Step as model
use Rattle.prefix_trie.specs.declared.replay.Call.{Call}
use Rattle.prefix_trie.specs.declared.replay.Call.TheVariants.{Insert, Get, Lpm, Spm, Remove, RemoveKeepTree, RemoveChildren, RetainAtLeast, Clear, Len, NodeCount, AddressCount, List as ListAll, ListFrom, Children, Cover}
use Rattle.prefix_trie.specs.declared.replay.Reply.{Reply}
use Rattle.prefix_trie.specs.declared.replay.Reply.TheVariants.{Value, Match, Done, Count, Addresses, Entries, Refused}

module _ {P : Type 0} where
  -- a call of the model
  abbrev pub call_of : Call P → model.Call P ℕ
  call_of (Insert q v) = model.Insert q v
  call_of (Get q) = model.Get q
  call_of (Lpm q) = model.Lpm q
  call_of (Spm q) = model.Spm q
  call_of (Remove q) = model.Remove q
  call_of (RemoveKeepTree q) = model.RemoveKeepTree q
  call_of (RemoveChildren q) = model.RemoveChildren q
  call_of (RetainAtLeast n) = model.RetainAtLeast n
  call_of Clear = model.Clear
  call_of Len = model.Len
  call_of NodeCount = model.NodeCount
  call_of AddressCount = model.AddressCount
  call_of ListAll = model.ListAll
  call_of (ListFrom q inclusive) = model.ListFrom q inclusive
  call_of (Children q) = model.Children q
  call_of (Cover q) = model.Cover q

  -- the prefix argument of a call, if it has one, fits
  abbrev pub IsFittingCall : (P → Type 0) → Call P → Type 0
  IsFittingCall Fits call = model.CallFits Fits (call_of call)

  -- the calls in order
  abbrev pub calls_of : List (Call P) → List (model.Call P ℕ)
  calls_of calls = map call_of calls

module _ {P A R : Type 0} (bits : R → List Bool) where
  -- a reply of the model: a list of entries is the list of its items, and a count of addresses is a number
  abbrev pub reply_of : Reply P A R → model.Reply P ℕ
  reply_of (Value value) = model.Value value
  reply_of (Match found) = model.Match found
  reply_of Done = model.Done
  reply_of (Count n) = model.Count n
  reply_of (Addresses n) = model.Addresses (option_map (λ r. number (bits r)) n)
  reply_of (Entries entries) = model.Items entries.items
  reply_of (Refused cause) = model.Refused cause

  -- the replies in order
  abbrev pub replies_of : List (Reply P A R) → List (model.Reply P ℕ)
  replies_of replies = map reply_of replies
