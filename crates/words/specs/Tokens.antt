-- Tokens (document 01, 'The text'). Assumes nothing.
use Rattle.std.specs.Prelude.{Bool, true, false, List, [], ◌∷◌, ◌++◌, ℕ, ◌+◌, drop}
use Rattle.words.specs.declared.Class.{Class}
use Rattle.words.specs.declared.Class.TheVariants.{Digit, Minus, Blank, Cr, Lf, Other}
use Rattle.words.specs.declared.Section.{Section}
use Rattle.words.specs.declared.Section.TheVariants.{ProblemLine, Clauses}
use Rattle.words.specs.Bytes.{class_of}

-- a token: the offset of its first byte, and its bytes
pub record Token : Type 0 where
  pub place : ℕ
  pub bytes : List ℕ

-- 'After it stand whole numbers apart by spaces, tabs, CR or LF.' In the problem line: 'tokens apart by blanks', 'in the problem line a CR not before LF
-- is part of one'; no LF, and no CR before one, is left in a line that is cut at its end.
abbrev pub is_gap : Section → Class → Bool
is_gap section (Digit d) = false
is_gap section Minus = false
is_gap section Blank = true
is_gap ProblemLine Cr = false
is_gap Clauses Cr = true
is_gap ProblemLine Lf = false
is_gap Clauses Lf = true
is_gap section Other = false

-- between two tokens, or within one: its place, and its bytes so far
pub data Scan : Type 0 where
  between : Scan
  within : ℕ → List ℕ → Scan

-- 'A token is a longest run without those four': the tokens of the bytes that are left, the first of which has the offset k
unfoldable pub scan : Section → Scan → ℕ → List ℕ → List Token
scan section between k [] = []
scan section (within place run) k [] = record { place = place; bytes = run } ∷ []
scan section between k (b ∷ bs) =
    elim (is_gap section (class_of b)) [
      | true ↦ scan section between (k + 1) bs
      | false ↦ scan section (within k (b ∷ [])) (k + 1) bs
    ]
scan section (within place run) k (b ∷ bs) =
    elim (is_gap section (class_of b)) [
      | true ↦ record { place = place; bytes = run } ∷ scan section between (k + 1) bs
      | false ↦ scan section (within place (run ++ b ∷ [])) (k + 1) bs
    ]

-- the tokens of the text s from the offset k on
abbrev pub tokens_from : Section → List ℕ → ℕ → List Token
tokens_from section s k = scan section between k (drop k s)
