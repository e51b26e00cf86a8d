-- The test is called with the prefix that is rebuilt from the key, and its result decides.
use Rattle.prefix_trie_map.proofs.Prelude.{Bool, refl, ap, ◌∙◌, subst, CalledByReference}
use Rattle.prefix_trie_map.proofs.map.retain.ByPrefixKeepR.keeps.Goals as goal

pub returns : goal.returns
returns g c =
    let asked : CalledByReference g.F.FnMut g.P.Prefix.back c.args.self.now.test c.args.path.now c.args.value.now c.test.result (record c.args.self.now.test { now = c.test.new.self }) =
    record {
      called = record { prefix = _; value = _; shows = (c.rebuilt-prefix.ensures ∙ ap g.P.Prefix.back c.copy.ensures, refl); called = c.test.ensures };
      same_reference = refl;
    } in
    record {
      yes = λ e. subst (λ (b : Bool). CalledByReference g.F.FnMut g.P.Prefix.back c.args.self.now.test c.args.path.now c.args.value.now b (record c.args.self.now.test { now = c.test.new.self })) e asked;
      no = λ e. subst (λ (b : Bool). CalledByReference g.F.FnMut g.P.Prefix.back c.args.self.now.test c.args.path.now c.args.value.now b (record c.args.self.now.test { now = c.test.new.self })) e asked;
    }
