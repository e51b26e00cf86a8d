-- The answers and groups follow the map, without the network.
use Rattle.std.proofs.Common.{◌≡◌, ◌∙◌, ◌+◌, ◌*◌, ◌^◌, ◌≤◌, true, length, refl, sym, ap, subst, arith}
use Rattle.std.specs.Coded.{le_prop}
use Rattle.std.specs.FinMap.{contains_key}
use Rattle.std.specs.Prelude.{is_some}
use Rattle.std.proofs.Math.Logic.{∥∥₁_elim, ∥∥₁_map}
use Rattle.prefix_trie_bits.specs.Calls.Entries.{AreWithin}
use Rattle.prefix_trie_bits.specs.Keys.{path_length, path_within}
use Rattle.prefix_trie_bits.specs.Model.Entries.{without_entry}
use Rattle.prefix_trie_bits.specs.Model.Matches.{longest_match}
use Rattle.prefix_trie_forwarding.specs.Forwarding.{Follows, answer_of}
use Rattle.prefix_trie_forwarding.specs.Keys.{IsDivided, first_of}
use Rattle.prefix_trie_forwarding.specs.Needs.{HasNeededGroups}
use Rattle.prefix_trie_forwarding.proofs.Following.{follows_same}
use Rattle.prefix_trie_forwarding.proofs.Networks.{first_path}
use Rattle.prefix_trie_forwarding.proofs.Tables.{absent_removed, aligned, follows_removed, groups_removed, moved, stored_path}
use Rattle.prefix_trie_forwarding.proofs.table.ForwardingTable.remove.Goals as goal

pub invariant_of-self : goal.invariant_of-self
invariant_of-self g c =
    let t = c.args.self.now in
    let r = t.slots.root_bits in
    let l = t.slots.levels in
    let m = t.map.entries in
    let n = c.remove.new.self.entries in
    let xs = t.slots.items.items in
    let same : c.remove.new.self.entries ≡ t.map.entries =
    c.remove.ensures.entries ∙ absent_removed c.stored_laws.ensures t.map.entries (g.P.Prefix.path c.args.prefix.now) (sym c.in_err-hop.ensures.value) in
    record {
      divided = t.divided;
      follows = moved (λ r k m. Follows r k xs m) r l r l m n refl refl same t.follows;
      groups = moved (λ r k m. ∥ HasNeededGroups r k xs m ∥₁) r l r l m n refl refl same t.groups;
    }

pub change-requires-clause-len : goal.change-requires-clause-len
change-requires-clause-len g c =
    let long = path_length g.met.P.Prefix.prefix_laws c.args.prefix.now c.requires in
    let within = path_within g.met.P.Prefix.prefix_laws c.args.prefix.now c.requires in
    omega (arith, c.from-len.ensures, c.prefix_len.ensures, long, within)

pub change-requires-clause-aligned : goal.change-requires-clause-aligned
change-requires-clause-aligned g c =
    let s = c.args.self.now.slots in
    let p = g.P.Prefix.path c.args.prefix.now in
    let long : length (g.P.Prefix.path c.args.prefix.now) ≡ g.P.Prefix.len_of c.args.prefix.now = path_length g.met.P.Prefix.prefix_laws c.args.prefix.now c.requires in
    let within = path_within g.met.P.Prefix.prefix_laws c.args.prefix.now c.requires in
    let reads = c.args.self.now.divided.reads in
    aligned s.root_bits s.levels c.args.self.now.map.entries p (omega (arith, within, reads)) (first_of (s.root_bits + 8 * s.levels) (g.P.R.Key.bits c.mask-first.result)) c.from-len.result
    (first_path g.met.P.Prefix.prefix_laws c.args.prefix.now c.requires (s.root_bits + 8 * s.levels) c.mask-first.result reads c.mask-first.ensures.value)
    (omega (arith, c.from-len.ensures, c.prefix_len.ensures, long))

pub change-requires-clause-path : goal.change-requires-clause-path
change-requires-clause-path g c = λ n k x reached more.
    let t = c.args.self.now in
    let s = c.args.self.now.slots in
    let p = g.P.Prefix.path c.args.prefix.now in
    let long : length (g.P.Prefix.path c.args.prefix.now) ≡ g.P.Prefix.len_of c.args.prefix.now = path_length g.met.P.Prefix.prefix_laws c.args.prefix.now c.requires in
    let within = path_within g.met.P.Prefix.prefix_laws c.args.prefix.now c.requires in
    let reads = c.args.self.now.divided.reads in
    let here : contains_key t.map.entries (g.P.Prefix.path c.args.prefix.now) ≡ true = ap is_some (sym c.in_ok-hop.ensures.value) in
    ∥∥₁_elim t.groups le_prop
    (λ has. stored_path s.root_bits s.levels t.map.entries p (omega (arith, within, reads)) (first_of (s.root_bits + 8 * s.levels) (g.P.R.Key.bits c.mask-first.result)) c.from-len.result
    (first_path g.met.P.Prefix.prefix_laws c.args.prefix.now c.requires (s.root_bits + 8 * s.levels) c.mask-first.result reads c.mask-first.ensures.value)
    (omega (arith, c.from-len.ensures, c.prefix_len.ensures, long)) s.items.items has here n k x reached more)

pub trim-requires-clause-len : goal.trim-requires-clause-len
trim-requires-clause-len g c =
    let long = path_length g.met.P.Prefix.prefix_laws c.args.prefix.now c.requires in
    let within = path_within g.met.P.Prefix.prefix_laws c.args.prefix.now c.requires in
    omega (arith, c.from-len.ensures, c.prefix_len.ensures, long, within)

pub invariant_of-self-2 : goal.invariant_of-self-2
invariant_of-self-2 g c =
    let t = c.args.self.now in
    let r = t.slots.root_bits in
    let l = t.slots.levels in
    let m = t.map.entries in
    let p = g.P.Prefix.path c.args.prefix.now in
    let n = c.remove.new.self.entries in
    let xs = t.slots.items.items in
    let ys = c.change.new.self.items.items in
    let zs = c.trim.new.self.items.items in
    let s = c.trim.new.self in
    let root : c.trim.new.self.root_bits ≡ t.slots.root_bits = c.trim.ensures.root ∙ c.change.ensures.root in
    let level : c.trim.new.self.levels ≡ t.slots.levels = c.trim.ensures.levels ∙ c.change.ensures.levels in
    let trims = rw (c.change.ensures.root, c.change.ensures.levels) at c.trim.ensures.trims in
    let values = rw (c.trim.ensures.root, c.trim.ensures.levels, c.change.ensures.root, c.change.ensures.levels) at c.trim.new.self.sound.values in
    let long : length (g.P.Prefix.path c.args.prefix.now) ≡ g.P.Prefix.len_of c.args.prefix.now = path_length g.met.P.Prefix.prefix_laws c.args.prefix.now c.requires in
    let within = path_within g.met.P.Prefix.prefix_laws c.args.prefix.now c.requires in
    let fits : length (g.P.Prefix.path c.args.prefix.now) ≤ t.slots.root_bits + 8 * t.slots.levels = omega (arith, within, t.divided.reads) in
    let b = first_of (t.slots.root_bits + 8 * t.slots.levels) (g.P.R.Key.bits c.mask-first.result) in
    let b_is = first_path g.met.P.Prefix.prefix_laws c.args.prefix.now c.requires (t.slots.root_bits + 8 * t.slots.levels) c.mask-first.result t.divided.reads c.mask-first.ensures.value in
    let len_is : c.from-len.result ≡ length (g.P.Prefix.path c.args.prefix.now) = omega (arith, c.from-len.ensures, c.prefix_len.ensures, long) in
    let i = c.removal in
    let entries : c.remove.new.self.entries ≡ without_entry t.map.entries (g.P.Prefix.path c.args.prefix.now) = c.remove.ensures.entries in
    let to_is : c.removal.result.to ≡ answer_of (longest_match (without_entry t.map.entries (g.P.Prefix.path c.args.prefix.now)) (g.P.Prefix.path c.args.prefix.now)) =
    c.removal.ensures.to ∙ c.longest_answer-to.ensures.answer ∙ ap (λ n. answer_of (longest_match n (g.P.Prefix.path c.args.prefix.now))) entries in
    let changed_follows = follows_removed r l m p fits b c.from-len.result b_is len_is c.lookup_laws.ensures xs ys i.result.least i.result.most i.result.to c.change.ensures.changed t.follows c.stored_laws.ensures
    i.ensures.least i.ensures.most to_is in
    let follows = follows_same r l (without_entry m p) ys zs changed_follows trims.same in
    let short = subst (λ n. AreWithin (t.slots.root_bits + 8 * t.slots.levels) n) entries (λ s stored. (let most = c.len.ensures.whole.is_map.keys_within s stored in omega (arith, most, t.divided.reads))) in
    record {
      divided = moved (λ r k m. IsDivided g.P.R.Key.bit_width r k) r l s.root_bits s.levels m m root level refl t.divided;
      follows = moved (λ r k m. Follows r k zs m) r l s.root_bits s.levels (without_entry m p) n root level entries follows;
      groups = moved (λ r k m. ∥ HasNeededGroups r k zs m ∥₁) r l s.root_bits s.levels (without_entry m p) n root level entries
          (∥∥₁_map t.groups (λ has. groups_removed r l m p fits b c.from-len.result b_is len_is c.stored_laws.ensures c.lookup_laws.ensures xs ys zs (omega (arith, t.divided.ends, t.divided.small)) has c.change.ensures.groups
          trims follows values short));
    }

pub returns-clause-slots : goal.returns-clause-slots
returns-clause-slots g c =
    let t = c.args.self.now in
    let s = c.trim.new.self in
    let root : c.trim.new.self.root_bits ≡ t.slots.root_bits = c.trim.ensures.root ∙ c.change.ensures.root in
    let size : 2 ^ c.trim.new.self.root_bits ≡ 2 ^ t.slots.root_bits = ap (λ r. 2 ^ r) root in
    omega (arith, size, c.trim.ensures.made, c.change.ensures.made, s.sound.set.sizes, t.slots.sound.set.sizes)
