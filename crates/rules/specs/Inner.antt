-- What the leaves say of each other: the joined clause by its parts. A reader of the contracts of public functions needs none of it. Assumes nothing.
use Rattle.std.specs.Prelude.{Bool, not, ◌&&◌, ℕ, eqb}
use Rattle.rules.specs.Clause.{Clause, neg, mem}

-- the negation of x is in D and is not z
unfoldable pub opposed : Clause → ℕ → ℕ → Bool
opposed D z x = not (eqb (neg x) z) && mem (neg x) D

-- the same of an x that is not z
unfoldable pub opposed_but : Clause → ℕ → ℕ → Bool
opposed_but D z x = not (eqb x z) && opposed D z x
