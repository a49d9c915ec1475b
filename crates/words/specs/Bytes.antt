-- The bytes of a text, by what they are to its reader (document 01, 'The text'). Assumes nothing.
use Rattle.std.specs.Prelude.{Bool, false, cond, List, [], ◌∷◌, ℕ, ◌-◌, leb, eqb}
use Rattle.words.specs.declared.Class.{Class}
use Rattle.words.specs.declared.Class.TheVariants.{Digit, Minus, Blank, Cr, Lf, Other}

-- 'a blank (space or tab)', 'spaces, tabs, CR or LF', 'an optional minus and digits': the digits are 48 to 57, minus is 45, space 32, tab 9, CR 13,
-- LF 10
abbrev pub class_of : ℕ → Class
class_of b =
    cond (leb 48 b) (cond (leb b 57) (Digit (b - 48)) Other)
    (cond (eqb b 45) Minus
    (cond (eqb b 32) Blank
    (cond (eqb b 9) Blank
    (cond (eqb b 13) Cr
    (cond (eqb b 10) Lf
    Other)))))

-- the first of the bytes is x
abbrev pub begins : ℕ → List ℕ → Bool
begins x [] = false
begins x (b ∷ bs) = eqb b x
