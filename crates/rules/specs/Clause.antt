-- Literals, clauses and values (document 01, 'The desk's words' and 'How a table lies in memory'). Assumes nothing.
use Rattle.std.specs.Prelude.{Bool, not, cond, List, [], ◌∷◌, ℕ, ◌+◌, ◌-◌, ◌*◌, ◌/◌, ◌%◌, eqb}
use Rattle.rules.specs.Walk.{any}

-- A clause is the list of its literals' codes in stored order. Variable v is coded 2v, its negation 2v+1.
abbrev pub Clause : Type 0
Clause = List ℕ

-- a truth value for each variable
abbrev pub Values : Type 0
Values = ℕ → Bool

-- the negation of a literal: one more where the code is even, one less where it is odd
unfoldable pub neg : ℕ → ℕ
neg l = l + 1 - 2 * (l % 2)

-- the literal is in the clause
unfoldable pub mem : ℕ → Clause → Bool
mem x C = any (eqb x) C

-- the clause without the literal
unfoldable pub without : ℕ → Clause → Clause
without x [] = []
without x (y ∷ C) = cond (eqb x y) (without x C) (y ∷ without x C)

-- the clause holds some variable and its negation
unfoldable pub tautology : Clause → Bool
tautology C = any (λ x. mem (neg x) C) C

-- whether a literal is true under the values
unfoldable pub value : Values → ℕ → Bool
value v l = cond (eqb (l % 2) 0) (v (l / 2)) (not (v (l / 2)))

-- the values satisfy the clause: some literal of it is true
unfoldable pub holds : Values → Clause → Bool
holds v C = any (value v) C

-- the values with the variable of the literal flipped
unfoldable pub flip : Values → ℕ → Values
flip v l w = cond (eqb w (l / 2)) (not (v w)) (v w)
