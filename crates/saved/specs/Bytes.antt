-- Numbers as bytes (document 01, 'The saved form': "All numbers are big-endian, two bytes"). The width of a number is an argument. Assumes nothing.
use Rattle.std.specs.Prelude.{ℕ, zero, suc, ◌+◌, ◌-◌, ◌*◌, ◌/◌, ◌%◌, ◌^◌, List, [], ◌∷◌, ◌++◌}

-- a number as w bytes, the high one first
unfoldable pub digits : ℕ → ℕ → List ℕ
digits zero x = []
digits (suc w) x = (x / 256 ^ w % 256) ∷ digits w x

-- numbers one after the other, w bytes each
unfoldable pub bytes_of : ℕ → List ℕ → List ℕ
bytes_of w [] = []
bytes_of w (x ∷ xs) = digits w x ++ bytes_of w xs

-- the numbers that bytes hold, w bytes each, where the bytes so far of the first one say v and c more come after its next; bytes that are left over at
-- the end are passed over
unfoldable pub numbers_from : ℕ → ℕ → ℕ → List ℕ → List ℕ
numbers_from w c v [] = []
numbers_from w zero v (b ∷ bs) = (v * 256 + b) ∷ numbers_from w (w - 1) 0 bs
numbers_from w (suc c) v (b ∷ bs) = numbers_from w c (v * 256 + b) bs

unfoldable pub numbers_of : ℕ → List ℕ → List ℕ
numbers_of w bs = numbers_from w (w - 1) 0 bs
