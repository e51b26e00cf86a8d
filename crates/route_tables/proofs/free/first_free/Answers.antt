-- The first free network of the family is that of the set of its addresses.
use Rattle.std.proofs.Common.{◌≤◌, ℕ, List, arith, subst, sym}
use Rattle.prefix_trie_bits.proofs.Model.Matches.{match_laws}
use Rattle.prefix_trie_joint.specs.declared.prefix.IpPrefix.{IpPrefix}
use Rattle.prefix_trie_joint.specs.declared.prefix.IpPrefix.TheVariants.{V4, V6}
use Rattle.route_tables.specs.FreeNetworks.{IsFirstFree, IsFreeWithin}
use Rattle.route_tables.proofs.FreeNetworks.{bare_of, first_of_ipv4, first_of_ipv6, none_free_ipv4, none_free_ipv6}
use Rattle.route_tables.proofs.free.first_free.Goals as goal

pub returns-in-Some-clause-found : goal.returns-in-Some-clause-found
returns-in-Some-clause-found c = λ m of_set.
    let bare = bare_of 32 c.in-Some.network c.args.len c.in-Some.ensures.0.1 c.in-Some.ensures.1 in
    subst (λ within. IsFirstFree m c.args.len within (V4 c.in-Some.network)) (sym c.in-V4.is)
    (first_of_ipv4 (match_laws (List ℕ)) m c.args.set.now.ipv4 c.args.set.now.ipv6 of_set c.args.len c.in-V4.within
    (let short : c.args.len ≤ 32 = omega arith in short) c.in-Some.network bare.0 c.in-Some.ensures.2 c.in-Some.ensures.3 bare.1 c.in-Some.ensures.4)

pub returns-in-None-clause-found : goal.returns-in-None-clause-found
returns-in-None-clause-found c = λ m of_set.
    subst (λ within. (network : IpPrefix) → IsFreeWithin m c.args.len within network → ⊥) (sym c.in-V4.is)
    (none_free_ipv4 (match_laws (List ℕ)) m c.args.set.now.ipv4 c.args.set.now.ipv6 of_set c.args.len c.in-V4.within
    (let short : c.args.len ≤ 32 = omega arith in short) c.in-None.ensures)

pub returns-in-Some-first_free_within-clause-found : goal.returns-in-Some-first_free_within-clause-found
returns-in-Some-first_free_within-clause-found c = λ m of_set.
    let bare = bare_of 128 c.in-Some-first_free_within.network c.args.len c.in-Some-first_free_within.ensures.0.1 c.in-Some-first_free_within.ensures.1 in
    subst (λ within. IsFirstFree m c.args.len within (V6 c.in-Some-first_free_within.network)) (sym c.in-V6.is)
    (first_of_ipv6 (match_laws (List ℕ)) m c.args.set.now.ipv4 c.args.set.now.ipv6 of_set c.args.len c.in-V6.within
    (let short : c.args.len ≤ 128 = omega arith in short) c.in-Some-first_free_within.network bare.0 c.in-Some-first_free_within.ensures.2
    c.in-Some-first_free_within.ensures.3 bare.1 c.in-Some-first_free_within.ensures.4)

pub returns-in-None-first_free_within-clause-found : goal.returns-in-None-first_free_within-clause-found
returns-in-None-first_free_within-clause-found c = λ m of_set.
    subst (λ within. (network : IpPrefix) → IsFreeWithin m c.args.len within network → ⊥) (sym c.in-V6.is)
    (none_free_ipv6 (match_laws (List ℕ)) m c.args.set.now.ipv4 c.args.set.now.ipv6 of_set c.args.len c.in-V6.within
    (let short : c.args.len ≤ 128 = omega arith in short) c.in-None-first_free_within.ensures)
