-- The values that walks over two maps lend. This project's own.
use Rattle.std.specs.Borrow.{Bor}

-- a prefix and the two values that are lent with it
abbrev pub lent_pair : {P T U : Type 0} → P × Bor T × Bor U → P × (T × U)
lent_pair x = (x.0, (x.1.now, x.2.now))
