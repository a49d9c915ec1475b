-- Values as they lie in lent bytes, one for each variable, 0 or 1 (document 01, 'How a table lies in memory'). Assumes nothing.
use Rattle.std.specs.Prelude.{Bool, false, not, cond, List, ℕ, zero, suc, ◌-◌, eqb, leb, get_or}
use Rattle.rules.specs.Walk.{least, upto}
use Rattle.rules.specs.Clause.{Values}

-- a variable is true where its byte is 1; the byte of variable 1 is the first
unfoldable pub values_of : List ℕ → Values
values_of vs zero = false
values_of vs (suc i) = eqb (get_or vs i 0) 1

-- the bytes of the variables 1 to n
unfoldable pub bytes_of : Values → ℕ → List ℕ
bytes_of v n = upto (λ i. cond (v (suc i)) 1 0) n

-- the byte of variable v is neither 0 nor 1
unfoldable pub bad_byte : List ℕ → ℕ → Bool
bad_byte vs v = not (leb (get_or vs (v - 1) 0) 1)

-- the lowest of the variables 1 to n whose byte is neither 0 nor 1, or 0 where there is none
unfoldable pub bad_value : List ℕ → ℕ → ℕ
bad_value vs n = least (bad_byte vs) n
