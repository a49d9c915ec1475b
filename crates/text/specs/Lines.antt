-- Lines: where one ends, and the comment lines before the problem line (document 01, 'The text'). Assumes nothing.
use Rattle.std.specs.Prelude.{Bool, true, false, ◌&&◌, ◌||◌, List, [], ◌∷◌, ℕ, ◌+◌, eqb}
use Rattle.words.specs.Bytes.{class_of, begins}
use Rattle.words.specs.declared.Section.TheVariants.{ProblemLine}
use Rattle.words.specs.Tokens.{is_gap}

-- 'A line ends at LF, CR LF or the end of the text.' (LF is 10, CR is 13.)
abbrev pub ends : List ℕ → Bool
ends [] = true
ends (b ∷ bs) = eqb b 10 || (eqb b 13 && begins 10 bs)

-- the offset at which the line ends, where k is the offset of the first of the bytes
unfoldable pub line_end : ℕ → List ℕ → ℕ
line_end k [] = k
line_end k (b ∷ bs) = elim (ends (b ∷ bs)) [ true ↦ k | false ↦ line_end (k + 1) bs ]

-- 'a blank (space or tab)' stands first
abbrev pub blank : List ℕ → Bool
blank [] = false
blank (b ∷ bs) = is_gap ProblemLine (class_of b)

-- after a `c`: the line ends, or a blank stands there
abbrev pub after_c : List ℕ → Bool
after_c bs = ends bs || blank bs

-- 'Before the problem line stand only lines that are `c` alone or begin with `c` and a blank': such a line begins here. (`c` is 99.)
abbrev pub comment : List ℕ → Bool
comment [] = false
comment (b ∷ bs) = eqb b 99 && after_c bs

-- The offset of the first line that is no right comment, where k is the offset of the first of the bytes. The flag says that a comment line is being
-- passed; its end, LF or CR LF, is an LF.
unfoldable pub prologue : Bool → ℕ → List ℕ → ℕ
prologue passing k [] = k
prologue true k (b ∷ bs) = elim (eqb b 10) [ true ↦ prologue false (k + 1) bs | false ↦ prologue true (k + 1) bs ]
prologue false k (b ∷ bs) = elim (comment (b ∷ bs)) [ true ↦ prologue true (k + 1) bs | false ↦ k ]
