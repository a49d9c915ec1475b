-- Numbers (document 01, 'The text'): 'A number is `0`, or an optional minus and digits that don't begin with 0; no plus, no `-0`'. Assumes nothing.
use Rattle.std.specs.Prelude.{true, false, List, [], ◌∷◌, ℕ, ◌+◌, ◌*◌, eqb, Option, Some, None, option_map}
use Rattle.words.specs.declared.Class.{Class}
use Rattle.words.specs.declared.Class.TheVariants.{Digit, Minus, Blank, Cr, Lf, Other}
use Rattle.words.specs.declared.Number.{Number}
use Rattle.words.specs.declared.Number.TheVariants.{Plain, Negative}
use Rattle.words.specs.Bytes.{class_of}

-- a digit's value, and none for any other byte
abbrev pub digit_of : Class → Option ℕ
digit_of (Digit d) = Some d
digit_of Minus = None
digit_of Blank = None
digit_of Cr = None
digit_of Lf = None
digit_of Other = None

-- 'digits': the number of a token whose digits so far say v
unfoldable pub digits : ℕ → List ℕ → Option ℕ
digits v [] = Some v
digits v (b ∷ bs) = elim (digit_of (class_of b)) [ Some d ↦ digits (v * 10 + d) bs | None ↦ None ]

-- 'digits that don't begin with 0', at least one. (`0` is 48.)
unfoldable pub natural : List ℕ → Option ℕ
natural [] = None
natural (b ∷ bs) = elim (eqb b 48) [ true ↦ None | false ↦ digits 0 (b ∷ bs) ]

-- the number after its minus
abbrev pub with_minus : Option ℕ → Option Number
with_minus x = option_map Negative x

-- '`0`, or an optional minus and digits that don't begin with 0': what the bytes of a token say
unfoldable pub number : List ℕ → Option Number
number [] = None
number (b ∷ bs) = elim (eqb b 45) [
  | true ↦ with_minus (natural bs)
  | false ↦ elim (eqb b 48) [
    | true ↦ elim bs [ [] ↦ Some (Plain 0) | ◌∷◌ x xs ↦ None ]
    | false ↦ option_map Plain (natural (b ∷ bs))
  ]
]
