-- The walks that every definition is made of: a test of the elements of a list, of the numbers from 1 to n, and the list of the first n values of a
-- function. Assumes nothing.
use Rattle.std.specs.Prelude.{Bool, true, false, ◌&&◌, cond, List, [], ◌∷◌, ◌++◌, ℕ, zero, suc, eqb, Option, None, Some}
use Rattle.std.specs.List.{list_any, list_all}

-- some element of the list passes
abbrev pub any : (ℕ → Bool) → List ℕ → Bool
any p xs = list_any p xs

-- every element of the list passes
abbrev pub every : (ℕ → Bool) → List ℕ → Bool
every p xs = list_all p xs

-- the two lists are equal, element by element
abbrev pub same : List ℕ → List ℕ → Bool
same [] [] = true
same [] (y ∷ ys) = false
same (x ∷ xs) [] = false
same (x ∷ xs) (y ∷ ys) = eqb x y && same xs ys

-- each number from 1 to n passes
unfoldable pub every_to : (ℕ → Bool) → ℕ → Bool
every_to p zero = true
every_to p (suc n) = every_to p n && p (suc n)

-- the first number, unless it is 0; else the second
abbrev pub or_else : ℕ → ℕ → ℕ
or_else zero b = b
or_else (suc a) b = suc a

-- the lowest number from 1 to n that passes, or 0 where none does
unfoldable pub least : (ℕ → Bool) → ℕ → ℕ
least p zero = 0
least p (suc n) = or_else (least p n) (cond (p (suc n)) (suc n) 0)

-- the number found, or none where it is 0
abbrev pub found : ℕ → Option ℕ
found zero = None
found (suc k) = Some (suc k)

-- f 0, f 1 and so on, n of them
module _ {A : Type 0} where
  unfoldable pub upto : (ℕ → A) → ℕ → List A
  upto f zero = []
  upto f (suc n) = upto f n ++ f n ∷ []
