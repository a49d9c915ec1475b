-- The form in the middle, between a table with its stack and the bytes: a header, and for each clause the numbers of its field (document 01, 'The saved
-- form'). Assumes nothing.
use Rattle.std.specs.Prelude.{ℕ, zero, suc, ◌+◌, cond, List, [], ◌∷◌, ◌++◌, ltb, length, get_or, drop}
use Rattle.rules.specs.Blocking.{literal}
use Rattle.rules.specs.Book.{Live, Entry, all, after}
use Rattle.table.specs.Table.{Table, offset, row, book_of}
use Rattle.saved.specs.Field.{Layout, end_tag, field}

-- "n, m, literals in all, removals"
pub record Head : Type 0 where
  pub variables : ℕ
  pub clauses : ℕ
  pub literals : ℕ
  pub removals : ℕ

-- A line is the numbers of a clause's field: its number, of a removed clause the blocking literal, and the literals in their stored order. The live
-- clauses come first, numbers rising, then the removed ones, oldest first.
abbrev pub Line : Type 0
Line = List ℕ

pub record Form : Type 0 where
  pub head : Head
  pub lines : List Line

abbrev pub number_of : Line → ℕ
number_of x = get_or x 0 0

abbrev pub blocking_of : Line → ℕ
blocking_of x = get_or x 1 0

-- how many numbers stand before the literals of a line that has c lines after it, where the last r lines are those of removed clauses
abbrev pub heads_at : ℕ → ℕ → ℕ
heads_at c r = cond (ltb c r) 2 1

-- the literals of such a line
abbrev pub literals_at : ℕ → ℕ → Line → List ℕ
literals_at c r x = drop (heads_at c r) x

-- the bytes -------------------------------------------------------------------

-- the tag of a removed clause is one more than that of a live one
abbrev pub tag_at : Layout → ℕ → ℕ → ℕ
tag_at lay c r = cond (ltb c r) (lay.live + 1) lay.live

unfoldable pub head_bytes : Layout → Head → List ℕ
head_bytes lay h = field lay.width lay.header (h.variables ∷ h.clauses ∷ h.literals ∷ h.removals ∷ [])

-- the lines' fields, and then the end
unfoldable pub lines_bytes : Layout → ℕ → List Line → List ℕ
lines_bytes lay r [] = field lay.width end_tag []
lines_bytes lay r (x ∷ xs) = field lay.width (tag_at lay (length xs) r) x ++ lines_bytes lay r xs

unfoldable pub form_bytes : Layout → Form → List ℕ
form_bytes lay f = head_bytes lay f.head ++ lines_bytes lay f.head.removals f.lines

-- of a table and its stack ----------------------------------------------------

-- the lines of the live clauses among 1 to k
unfoldable pub live_lines : Table → Live → ℕ → List Line
live_lines t L zero = []
live_lines t L (suc k) = live_lines t L k ++ cond (L (suc k)) ((suc k ∷ row t (suc k)) ∷ []) []

-- the lines of the removed clauses
unfoldable pub removed_lines : Table → List (Entry literal) → List Line
removed_lines t [] = []
removed_lines t (e ∷ s) = (e.0 ∷ e.1 ∷ row t e.0) ∷ removed_lines t s

unfoldable pub form_of : Table → List (Entry literal) → Form
form_of t s = record {
  head = record { variables = t.variables; clauses = t.clauses; literals = offset t t.clauses; removals = length s };
  lines = live_lines t (after literal (all (book_of t)) s) t.clauses ++ removed_lines t s;
}

-- the saved form of a table and its stack
unfoldable pub encode : Layout → Table → List (Entry literal) → List ℕ
encode lay t s = form_bytes lay (form_of t s)
