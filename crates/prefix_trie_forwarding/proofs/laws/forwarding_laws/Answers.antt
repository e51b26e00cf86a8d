-- The laws of lookups, at hops, and the needed groups in words.
use Rattle.std.proofs.Common.{◌∙◌, ap, sym}
use Rattle.prefix_trie_forwarding.specs.Forwarding.{hop_of}
use Rattle.prefix_trie_forwarding.proofs.Matches.{removed_match}
use Rattle.prefix_trie_forwarding.proofs.NeededGroups.{needed_are}
use Rattle.prefix_trie_forwarding.proofs.laws.forwarding_laws.Goals as goal

pub returns : goal.returns
returns c =
    let laws = c.lookup_laws.ensures in
    record {
      nothing = λ q. ap hop_of (laws.nothing q);
      inserted = λ m q s hop within short. ap hop_of (laws.set m q s hop within short);
      inserted_shorter = λ m q s hop e is longer. ap hop_of (laws.set_shorter m q s hop e is longer ∙ sym is);
      inserted_aside = λ m q s hop aside. ap hop_of (laws.set_aside m q s hop aside);
      removed = λ m q s hop is. ap hop_of (removed_match laws m s c.stored_laws.ensures hop q is);
      removed_aside = λ m q s other. ap hop_of (laws.taken_aside m q s other);
      groups = λ r m. needed_are r m;
    }
