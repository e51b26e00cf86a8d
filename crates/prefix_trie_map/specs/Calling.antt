-- What `retain` requires of a user's test, stated for the prefixes that it gets. This project's
-- own.
use Rattle.std.specs.Prelude.{◌≡◌, Bool, List}
use Rattle.std.specs.Borrow.{Bor, MutBor}
use Rattle.std.specs.Fn.{Mut, Takes, Called}

module _ {F P T : Type 0} (g : Mut F (Bor P × (Bor T × Unit {0})) Bool) (back : List Bool → P) where
  -- a call of f on the prefix with the path k and on the value v can return b and leave f as f'
  pub record CalledAtEntry (f : F) (k : List Bool) (v : T) (b : Bool) (f' : F) : Type 0 where
    pub prefix : Bor P
    pub value : Bor T
    pub shows : (prefix.now ≡ back k) × (value.now ≡ v)
    pub called : Called g f (prefix, (value, tt)) b f'

  -- a call through the reference r can return b and leave it as r'
  pub record CalledByReference (r : MutBor F) (k : List Bool) (v : T) (b : Bool) (r' : MutBor F) : Type 0 where
    pub called : CalledAtEntry r.now k v b r'.now
    pub same_reference : r'.ghost_name ≡ r.ghost_name

  -- f may be called with the prefix of the path k and with v
  abbrev pub TakesEntry : F → List Bool → T → Type 0
  TakesEntry f k v = (p : Bor P) (q : Bor T) → p.now ≡ back k → q.now ≡ v → Takes g f (p, (q, tt))
