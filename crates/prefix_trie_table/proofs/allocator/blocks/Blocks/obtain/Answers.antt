-- The loop of `obtain` makes blocks of a tier until as many are free as are needed: each iteration makes one.
use Rattle.prefix_trie_table.proofs.Prelude.{◌≡◌, ℕ, ◌+◌, ◌-◌, None, refl, sym, ap, ◌∙◌, subst, arith, err_from_is_err_and, Turnover, tier_sizes, size_in, free_in, many_of, none_of}
use Rattle.prefix_trie_table.proofs.Blocks.BySize.{tiers_long, many-add, many-none, slots_of-none}
use Rattle.prefix_trie_table.proofs.Blocks.Turnovers.{Turnover-as, Turnover-then, Turnover-same}
use Rattle.prefix_trie_table.proofs.allocator.blocks.Blocks.obtain.Goals as goal

pub loop-i-init : goal.loop-i-init
loop-i-init g c =
    let v = c.args.self.now in
    let size : ℕ = size_in (tier_sizes c.args.self.now.tiers) c.args.k in
    record {
      made = Turnover-as v v none_of _ None None (λ s. sym (many-none size _ s (omega (arith, c.free_of-i.ensures)))) (Turnover-same v v refl None);
      from = omega (arith, c.free_of-i.ensures);
      bound = omega (arith, c.free_of-i.ensures);
      unchanged = λ e. refl;
      kept = λ i d h. refl;
      sound = λ live s. s;
    }

pub make-requires : goal.make-requires
make-requires g c =
    let b = tiers_long c.args.self.now.tiers (tier_sizes c.args.self.now.tiers) refl in
    omega (arith, tiers_long c.loop-i.self.tiers (tier_sizes c.args.self.now.tiers) c.loop-i.invariant.made.keeps.sizes, b, c.requires)

pub loop-i-preserved : goal.loop-i-preserved
loop-i-preserved g c =
    let v = c.args.self.now in
    let inv = c.loop-i.invariant in
    let size : ℕ = size_in (tier_sizes c.args.self.now.tiers) c.args.k in
    let free : ℕ = free_in c.args.self.now.tiers (size_in (tier_sizes c.args.self.now.tiers) c.args.k) in
    let same : size_in (tier_sizes c.loop-i.self.tiers) c.args.k ≡ size_in (tier_sizes c.args.self.now.tiers) c.args.k = ap (λ ns. size_in ns c.args.k) inv.made.keeps.sizes in
    let one : Turnover c.loop-i.self c.make.new.self (many_of (size_in (tier_sizes c.loop-i.self.tiers) c.args.k) 1) None None = c.in_ok-make.ensures.made in
    let more = subst (λ n. Turnover c.loop-i.self c.make.new.self (many_of n 1) None None) same one in
    record {
      made = Turnover-as v c.make.new.self _ _ None None
          (λ s. sym (many-add size (c.loop-i._i - free) 1 s) ∙ ap (λ n. many_of size n s) (let e : c.loop-i._i - free + 1 ≡ c.loop-i._i + 1 - free = omega (arith, inv.from) in e))
          (Turnover-then v c.loop-i.self c.make.new.self _ _ None None None None None None (λ s. refl) inv.made more);
      from = omega (arith, inv.from);
      bound = omega (arith, inv.from, c.loop-i-test.true);
      unchanged = λ e. absurd (omega (arith, inv.from, e));
      kept = λ i d h. c.make.ensures.kept i d (let l = inv.made.keeps.longer in omega (arith, h, l)) ∙ inv.kept i d h;
      sound = λ live s. c.make.ensures.sound live (inv.sound live s);
    }

pub returns-clause-made : goal.returns-clause-made
returns-clause-made g c =
    let size : ℕ = size_in (tier_sizes c.args.self.now.tiers) c.args.k in
    let free : ℕ = free_in c.args.self.now.tiers (size_in (tier_sizes c.args.self.now.tiers) c.args.k) in
    let inv = c.loop-i.invariant in
    let all : c.loop-i._i - free ≡ c.args.n - free = omega (arith, inv.from, inv.bound, c.loop-i-test.false) in
    subst (λ m. Turnover c.args.self.now c.loop-i.self (many_of size m) None None) all inv.made

pub returns-clause-unchanged : goal.returns-clause-unchanged
returns-clause-unchanged g c = λ few.
    let inv = c.loop-i.invariant in
    inv.unchanged (omega (arith, few, inv.from, inv.bound))

pub returns-in_err-make : goal.returns-in_err-make
returns-in_err-make g c =
    let v = c.args.self.now in
    let u = c.loop-i.self in
    let w = c.make.new.self in
    let inv = c.loop-i.invariant in
    let size : ℕ = size_in (tier_sizes c.args.self.now.tiers) c.args.k in
    let free : ℕ = free_in c.args.self.now.tiers (size_in (tier_sizes c.args.self.now.tiers) c.args.k) in
    let none : Turnover u w none_of None None = c.in_err-make.ensures.err in
    let long = none.longer in
    let nothing = slots_of-none (tier_sizes u.tiers) none_of (λ j. refl) in
    let limit = none.keeps.limit_is in
    let same : size_in (tier_sizes u.tiers) c.args.k ≡ size = ap (λ ns. size_in ns c.args.k) inv.made.keeps.sizes in
    let range = c.in_err-make.ensures.range in
    let p = err_from_is_err_and c.from_residual.result c.from_residual.ensures.1 in
    rw (p.1, p.2) (record {
      made = tt;
      err = (
        c.loop-i._i - free,
        omega (arith, inv.from, c.loop-i-test.true),
        Turnover-as v w _ _ None None (λ s. omega arith) (Turnover-then v u w _ none_of None None None None None None (λ s. refl) inv.made none),
      );
      range = (λ e. (let past = range.0 e in omega (arith, past, long, nothing, limit, same)), λ past. range.1 (omega (arith, past, long, nothing, limit, same)));
      unchanged = λ few. absurd (omega (arith, few, inv.from, c.loop-i-test.true));
      kept = λ i d h. c.make.ensures.kept i d (let l = inv.made.keeps.longer in omega (arith, h, l)) ∙ inv.kept i d h;
      sound = λ live s. c.make.ensures.sound live (inv.sound live s);
    })
