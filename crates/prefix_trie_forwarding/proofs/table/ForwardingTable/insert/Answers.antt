-- The answers and groups follow the map: as before on an error, and with the network otherwise.
use Rattle.std.proofs.Common.{◌≡◌, ◌∙◌, ◌+◌, ◌*◌, ◌^◌, ◌≤◌, length, refl, sym, ap, subst, arith, inl, inr}
use Rattle.std.specs.Coded.{le_prop}
use Rattle.std.specs.FinMap.{len}
use Rattle.std.proofs.lemmas.Bool.{false≢true}
use Rattle.std.proofs.lemmas.Result.{err_from_is_err_and}
use Rattle.std.proofs.Math.Logic.{∥∥₁_elim, ∥∥₁_map}
use Rattle.prefix_trie_bits.specs.Calls.Entries.{AreWithin}
use Rattle.prefix_trie_bits.specs.Keys.{path_length, path_within}
use Rattle.prefix_trie_bits.specs.Model.Entries.{with_entry}
use Rattle.prefix_trie_forwarding.specs.Forwarding.{Follows}
use Rattle.prefix_trie_forwarding.specs.Keys.{IsDivided, first_of}
use Rattle.prefix_trie_forwarding.specs.Needs.{HasNeededGroups, needed_groups}
use Rattle.prefix_trie_forwarding.specs.Refusals.{groups_above}
use Rattle.prefix_trie_forwarding.proofs.Following.{follows_same}
use Rattle.prefix_trie_forwarding.proofs.Needed.{needed_kept}
use Rattle.prefix_trie_forwarding.proofs.Networks.{first_path}
use Rattle.prefix_trie_forwarding.proofs.Points.{keeps_points}
use Rattle.prefix_trie_forwarding.proofs.Tables.{aligned, follows_inserted, follows_points, groups_inserted, moved, stored_path, used_groups, within_inserted}
use Rattle.prefix_trie_forwarding.proofs.table.ForwardingTable.insert.Goals as goal

pub invariant_of-self : goal.invariant_of-self
invariant_of-self g c =
    let t = c.args.self.now in
    let r = t.slots.root_bits in
    let l = t.slots.levels in
    let m = t.map.entries in
    let xs = t.slots.items.items in
    let s = c.prepare.new.self in
    let ys = c.prepare.new.self.items.items in
    let root = c.prepare.ensures.root in
    let level = c.prepare.ensures.levels in
    let same = c.prepare.ensures.points in
    record {
      divided = moved (λ r k m. IsDivided g.P.R.Key.bit_width r k) r l s.root_bits s.levels m m root level refl t.divided;
      follows = moved (λ r k m. Follows r k ys m) r l s.root_bits s.levels m m root level refl (follows_points r l xs ys m same t.follows);
      groups = moved (λ r k m. ∥ HasNeededGroups r k ys m ∥₁) r l s.root_bits s.levels m m root level refl (∥∥₁_map t.groups (λ has. needed_kept r l m xs ys has (keeps_points (2 ^ r) l xs ys same)));
    }

pub invariant_of-self-in-Break-branch-2 : goal.invariant_of-self-in-Break-branch-2
invariant_of-self-in-Break-branch-2 g c =
    let t = c.args.self.now in
    let r = t.slots.root_bits in
    let l = t.slots.levels in
    let m = t.map.entries in
    let n = c.insert.new.self.entries in
    let xs = t.slots.items.items in
    let s = c.prepare.new.self in
    let ys = c.prepare.new.self.items.items in
    let root = c.prepare.ensures.root in
    let level = c.prepare.ensures.levels in
    let same = c.prepare.ensures.points in
    let kept : c.insert.new.self.entries ≡ t.map.entries = c.in_err-before.ensures.unchanged.0 in
    record {
      divided = moved (λ r k m. IsDivided g.P.R.Key.bit_width r k) r l s.root_bits s.levels m m root level refl t.divided;
      follows = moved (λ r k m. Follows r k ys m) r l s.root_bits s.levels m n root level kept (follows_points r l xs ys m same t.follows);
      groups = moved (λ r k m. ∥ HasNeededGroups r k ys m ∥₁) r l s.root_bits s.levels m n root level kept (∥∥₁_map t.groups (λ has. needed_kept r l m xs ys has (keeps_points (2 ^ r) l xs ys same)));
    }

pub insertion-requires : goal.insertion-requires
insertion-requires g c =
    let long = path_length g.met.P.Prefix.prefix_laws c.args.prefix c.requires in
    let within = path_within g.met.P.Prefix.prefix_laws c.args.prefix c.requires in
    omega (arith, c.from-len.ensures, c.prefix_len.ensures, long, within, g.met.P.Prefix.prefix_laws.keys.at_most_128)

pub change-requires-clause-len : goal.change-requires-clause-len
change-requires-clause-len g c =
    let long = path_length g.met.P.Prefix.prefix_laws c.args.prefix c.requires in
    let within = path_within g.met.P.Prefix.prefix_laws c.args.prefix c.requires in
    omega (arith, c.from-len.ensures, c.prefix_len.ensures, long, within)

pub change-requires-clause-small : goal.change-requires-clause-small
change-requires-clause-small g c =
    let long = path_length g.met.P.Prefix.prefix_laws c.args.prefix c.requires in
    let within = path_within g.met.P.Prefix.prefix_laws c.args.prefix c.requires in
    omega (arith, c.from-len.ensures, c.prefix_len.ensures, long, within, g.met.P.Prefix.prefix_laws.keys.at_most_128, c.insertion.ensures.to, c.args.hop.small)

pub change-requires-clause-aligned : goal.change-requires-clause-aligned
change-requires-clause-aligned g c =
    let laws = g.met.P.Prefix.prefix_laws in
    let t = c.args.self.now in
    let s = c.link.new.self in
    let p = g.P.Prefix.path c.args.prefix in
    let long : length (g.P.Prefix.path c.args.prefix) ≡ g.P.Prefix.len_of c.args.prefix = path_length g.met.P.Prefix.prefix_laws c.args.prefix c.requires in
    let within = path_within g.met.P.Prefix.prefix_laws c.args.prefix c.requires in
    let reads : g.P.R.Key.bit_width ≤ c.link.new.self.root_bits + 8 * c.link.new.self.levels =
    omega (arith, t.divided.reads, c.prepare.ensures.root, c.prepare.ensures.levels, c.link.ensures.root, c.link.ensures.levels) in
    aligned s.root_bits s.levels t.map.entries p (omega (arith, within, reads)) (first_of (s.root_bits + 8 * s.levels) (g.P.R.Key.bits c.mask-first.result)) c.from-len.result
    (first_path g.met.P.Prefix.prefix_laws c.args.prefix c.requires (s.root_bits + 8 * s.levels) c.mask-first.result reads c.mask-first.ensures.value)
    (omega (arith, c.from-len.ensures, c.prefix_len.ensures, long))

pub invariant_of-self-2 : goal.invariant_of-self-2
invariant_of-self-2 g c =
    let t = c.args.self.now in
    let r = t.slots.root_bits in
    let l = t.slots.levels in
    let m = t.map.entries in
    let p = g.P.Prefix.path c.args.prefix in
    let n = c.insert.new.self.entries in
    let xs = t.slots.items.items in
    let ys = c.prepare.new.self.items.items in
    let zs = c.link.new.self.items.items in
    let us = c.change.new.self.items.items in
    let s = c.change.new.self in
    let root : c.change.new.self.root_bits ≡ t.slots.root_bits = c.change.ensures.root ∙ c.link.ensures.root ∙ c.prepare.ensures.root in
    let level : c.change.new.self.levels ≡ t.slots.levels = c.change.ensures.levels ∙ c.link.ensures.levels ∙ c.prepare.ensures.levels in
    let same = c.prepare.ensures.points in
    let kept = rw (c.prepare.ensures.root, c.prepare.ensures.levels) at c.link.ensures.same in
    let gains = rw (c.prepare.ensures.root, c.prepare.ensures.levels) at c.link.ensures.gains in
    let changed = rw (c.link.ensures.root, c.link.ensures.levels, c.prepare.ensures.root, c.prepare.ensures.levels) at c.change.ensures.changed in
    let keeps = rw (c.link.ensures.root, c.link.ensures.levels, c.prepare.ensures.root, c.prepare.ensures.levels) at c.change.ensures.groups in
    let long : length (g.P.Prefix.path c.args.prefix) ≡ g.P.Prefix.len_of c.args.prefix = path_length g.met.P.Prefix.prefix_laws c.args.prefix c.requires in
    let within = path_within g.met.P.Prefix.prefix_laws c.args.prefix c.requires in
    let fits : length (g.P.Prefix.path c.args.prefix) ≤ t.slots.root_bits + 8 * t.slots.levels = omega (arith, within, t.divided.reads) in
    let b = first_of (t.slots.root_bits + 8 * t.slots.levels) (g.P.R.Key.bits c.mask-first.result) in
    let b_is = first_path g.met.P.Prefix.prefix_laws c.args.prefix c.requires (t.slots.root_bits + 8 * t.slots.levels) c.mask-first.result t.divided.reads c.mask-first.ensures.value in
    let len_is : c.from-len.result ≡ length (g.P.Prefix.path c.args.prefix) = omega (arith, c.from-len.ensures, c.prefix_len.ensures, long) in
    let i = c.insertion in
    let entries : c.insert.new.self.entries ≡ with_entry t.map.entries (g.P.Prefix.path c.args.prefix) c.args.hop = c.in_ok-before.ensures.entries in
    record {
      divided = moved (λ r k m. IsDivided g.P.R.Key.bit_width r k) r l s.root_bits s.levels m m root level refl t.divided;
      follows = moved (λ r k m. Follows r k us m) r l s.root_bits s.levels (with_entry m p c.args.hop) n root level entries
          (follows_inserted r l m p fits b c.from-len.result b_is len_is c.lookup_laws.ensures zs us i.result.least i.result.most i.result.to changed
          (follows_same r l m ys zs (follows_points r l xs ys m same t.follows) kept) c.args.hop i.ensures.least i.ensures.most i.ensures.to);
      groups = moved (λ r k m. ∥ HasNeededGroups r k us m ∥₁) r l s.root_bits s.levels (with_entry m p c.args.hop) n root level entries
          (∥∥₁_map t.groups (λ has. groups_inserted r l m p fits b c.from-len.result b_is len_is c.stored_laws.ensures c.args.hop xs ys zs us has same gains keeps));
    }

pub returns-clause-slots : goal.returns-clause-slots
returns-clause-slots g c =
    let t = c.args.self.now in
    let s = c.change.new.self in
    let n = c.insert.new.self.entries in
    let root : c.change.new.self.root_bits ≡ t.slots.root_bits = c.change.ensures.root ∙ c.link.ensures.root ∙ c.prepare.ensures.root in
    let level : c.change.new.self.levels ≡ t.slots.levels = c.change.ensures.levels ∙ c.link.ensures.levels ∙ c.prepare.ensures.levels in
    let made : c.change.new.self.groups.made ≡ c.prepare.new.self.groups.made = c.change.ensures.made ∙ c.link.ensures.made in
    let size : 2 ^ c.change.new.self.root_bits ≡ 2 ^ t.slots.root_bits = ap (λ r. 2 ^ r) root in
    elim c.in_ok-end.ensures.made [
      | inl same ↦ inl (omega (arith, size, made, same, s.sound.set.sizes, t.slots.sound.set.sizes))
      | inr few ↦
          let within = path_within g.met.P.Prefix.prefix_laws c.args.prefix c.requires in
          let fits : length (g.P.Prefix.path c.args.prefix) ≤ c.change.new.self.root_bits + 8 * c.change.new.self.levels = omega (arith, within, t.divided.reads, root, level) in
          let short = within_inserted c.stored_laws.ensures (s.root_bits + 8 * s.levels) t.map.entries (g.P.Prefix.path c.args.prefix) c.args.hop
          (λ k stored. (let most = c.len.ensures.whole.is_map.keys_within k stored in omega (arith, most, t.divided.reads, root, level))) fits in
          let gains = rw (c.prepare.ensures.root, c.prepare.ensures.levels) at c.link.ensures.gains in
          let keeps = rw (c.link.ensures.root, c.link.ensures.levels, c.prepare.ensures.root, c.prepare.ensures.levels) at c.change.ensures.groups in
          let long : length (g.P.Prefix.path c.args.prefix) ≡ g.P.Prefix.len_of c.args.prefix = path_length g.met.P.Prefix.prefix_laws c.args.prefix c.requires in
          let b_is = first_path g.met.P.Prefix.prefix_laws c.args.prefix c.requires (t.slots.root_bits + 8 * t.slots.levels) c.mask-first.result t.divided.reads c.mask-first.ensures.value in
          let groups = ∥∥₁_map t.groups (λ has. groups_inserted t.slots.root_bits t.slots.levels t.map.entries (g.P.Prefix.path c.args.prefix) (omega (arith, within, t.divided.reads))
          (first_of (t.slots.root_bits + 8 * t.slots.levels) (g.P.R.Key.bits c.mask-first.result)) c.from-len.result b_is (omega (arith, c.from-len.ensures, c.prefix_len.ensures, long)) c.stored_laws.ensures c.args.hop
          t.slots.items.items c.prepare.new.self.items.items c.link.new.self.items.items s.items.items has c.prepare.ensures.points gains keeps) in
          let used = used_groups s.root_bits s.levels s.groups.made s.items.items s.groups.free.items n
          (moved (λ r k m. ∥ HasNeededGroups r k c.change.new.self.items.items m ∥₁) t.slots.root_bits t.slots.levels s.root_bits s.levels (with_entry t.map.entries (g.P.Prefix.path c.args.prefix) c.args.hop) n root level c.in_ok-before.ensures.entries groups)
          (subst (λ n. AreWithin (c.change.new.self.root_bits + 8 * c.change.new.self.levels) n) (sym c.in_ok-before.ensures.entries) short) s.sound.counted in
          let count : len (needed_groups c.change.new.self.root_bits c.insert.new.self.entries) ≡ len (needed_groups t.slots.root_bits c.insert.new.self.entries) =
          ap (λ r. len (needed_groups r c.insert.new.self.entries)) root in
          inr (omega (arith, size, used, count, few, c.link.ensures.taken, c.change.ensures.free, s.sound.set.sizes))
    ]

pub returns-in_err-end-clause-stored : goal.returns-in_err-end-clause-stored
returns-in_err-end-clause-stored g c = λ here.
    let t = c.args.self.now in
    let s = c.args.self.now.slots in
    let long : length (g.P.Prefix.path c.args.prefix) ≡ g.P.Prefix.len_of c.args.prefix = path_length g.met.P.Prefix.prefix_laws c.args.prefix c.requires in
    let within = path_within g.met.P.Prefix.prefix_laws c.args.prefix c.requires in
    let reads = c.args.self.now.divided.reads in
    absurd (false≢true (c.in_err-end.ensures.spare (λ n k x reached more. ∥∥₁_elim t.groups le_prop
    (λ has. stored_path s.root_bits s.levels t.map.entries (g.P.Prefix.path c.args.prefix) (omega (arith, within, reads)) (first_of (s.root_bits + 8 * s.levels) (g.P.R.Key.bits c.mask-first.result)) c.from-len.result
    (first_path g.met.P.Prefix.prefix_laws c.args.prefix c.requires (s.root_bits + 8 * s.levels) c.mask-first.result reads c.mask-first.ensures.value)
    (omega (arith, c.from-len.ensures, c.prefix_len.ensures, long)) s.items.items has here n k x reached more))))

pub link-requires-clause-len : goal.link-requires-clause-len
link-requires-clause-len g c =
    let long = path_length g.met.P.Prefix.prefix_laws c.args.prefix c.requires in
    let within = path_within g.met.P.Prefix.prefix_laws c.args.prefix c.requires in
    omega (arith, c.from-len.ensures, c.prefix_len.ensures, long, within)

pub returns-in_err-end-clause-refused : goal.returns-in_err-end-clause-refused
returns-in_err-end-clause-refused g c =
    let t = c.args.self.now in
    let r = t.slots.root_bits in
    let l = t.slots.levels in
    let m = t.map.entries in
    let xs = t.slots.items.items in
    let s = c.prepare.new.self in
    let ys = c.prepare.new.self.items.items in
    let root = c.prepare.ensures.root in
    let level = c.prepare.ensures.levels in
    let long : length (g.P.Prefix.path c.args.prefix) ≡ g.P.Prefix.len_of c.args.prefix = path_length g.met.P.Prefix.prefix_laws c.args.prefix c.requires in
    let len_is : c.from-len.result ≡ length (g.P.Prefix.path c.args.prefix) = omega (arith, c.from-len.ensures, c.prefix_len.ensures, long) in
    let groups = ∥∥₁_map t.groups (λ has. needed_kept r l m xs ys has (keeps_points (2 ^ r) l xs ys c.prepare.ensures.points)) in
    let used = used_groups s.root_bits s.levels s.groups.made ys s.groups.free.items m
    (moved (λ r k m. ∥ HasNeededGroups r k ys m ∥₁) r l s.root_bits s.levels m m root level refl groups)
    (λ k stored. (let most = c.len.ensures.whole.is_map.keys_within k stored in omega (arith, most, t.divided.reads, root, level))) s.sound.counted in
    let count : len (needed_groups s.root_bits m) ≡ len (needed_groups r m) = ap (λ r. len (needed_groups r m)) root in
    let size : 2 ^ s.root_bits ≡ 2 ^ r = ap (λ r. 2 ^ r) root in
    let above : groups_above r c.from-len.result ≡ groups_above r (length (g.P.Prefix.path c.args.prefix)) = ap (groups_above r) len_is in
    let lacks = c.in_err-end.ensures.refused in
    let p = err_from_is_err_and c.from_residual.result c.from_residual.ensures.1 in
    rw (p.1, p.2) (inr (
      refl,
      record {
        few = omega (arith, lacks.few, used, count, size, above, s.sound.set.sizes);
        range = λ is. (let all = lacks.range is in omega (arith, all, size, s.sound.set.sizes));
        memory = λ is. (let fewer = lacks.memory is in omega (arith, fewer, size, s.sound.set.sizes));
      },
    ))

pub change-requires-clause-path : goal.change-requires-clause-path
change-requires-clause-path g c = rw (c.link.ensures.root, c.link.ensures.levels) c.link.ensures.path
