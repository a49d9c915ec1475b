-- A table as it lies in two lent buffers, 16-bit literals and 32-bit offsets, and when it is sound (document 01, 'How a table lies in memory').
-- Assumes nothing.
use Rattle.std.specs.Prelude.{Bool, true, not, ◌&&◌, cond, List, [], ◌∷◌, ℕ, ◌+◌, ◌-◌, ◌*◌, eqb, leb, length, get_or, take, drop}
use Rattle.rules.specs.Walk.{every, every_to}
use Rattle.rules.specs.Clause.{Clause, mem}
use Rattle.rules.specs.Book.{Book}
use Rattle.table.specs.Limits.{Limits}

pub record Table : Type 0 where
  pub variables : ℕ
  pub clauses : ℕ
  pub lits : List ℕ
  pub offs : List ℕ

abbrev pub table : ℕ → ℕ → List ℕ → List ℕ → Table
table n m lits offs = record { variables = n; clauses = m; lits = lits; offs = offs }

-- offset k, counting offsets from 0
unfoldable pub offset : Table → ℕ → ℕ
offset t k = get_or t.offs k 0

-- clause k is the literals from offset k-1 up to offset k
unfoldable pub row : Table → ℕ → Clause
row t k = take (offset t k - offset t (k - 1)) (drop (offset t (k - 1)) t.lits)

-- the book that the table holds
abbrev pub book_of : Table → Book
book_of t = record { count = t.clauses; clause = row t }

-- no literal stands twice
unfoldable pub distinct : Clause → Bool
distinct [] = true
distinct (x ∷ C) = not (mem x C) && distinct C

-- the code of a variable from 1 to n or of its negation
unfoldable pub coded : ℕ → ℕ → Bool
coded n x = leb 2 x && leb x (2 * n + 1)

-- a clause has at most so many literals, each code is from 2 to 2n+1, and no literal stands twice
unfoldable pub sound_clause : Limits → ℕ → Clause → Bool
sound_clause lim n C = leb (length C) lim.clause_literals && every (coded n) C && distinct C

-- offset k is not smaller than the one before
unfoldable pub rises : Table → ℕ → Bool
rises t k = leb (offset t (k - 1)) (offset t k)

-- clause k is sound
unfoldable pub sound_row : Limits → Table → ℕ → Bool
sound_row lim t k = sound_clause lim t.variables (row t k)

-- Document 01's conditions. A table whose offsets are not there or lead out of the literal buffer is unsound before any clause of it is read.
unfoldable pub sound : Limits → Table → Bool
sound lim t =
    leb t.variables lim.variables
    && leb t.clauses lim.clauses
    && leb (t.clauses + 1) (length t.offs)
    && eqb (offset t 0) 0
    && every_to (rises t) t.clauses
    && leb (offset t t.clauses) lim.literals
    && leb (offset t t.clauses) (length t.lits)
    && every_to (sound_row lim t) t.clauses

-- k names a clause of a sound table
unfoldable pub names : Limits → Table → ℕ → Bool
names lim t k = sound lim t && leb 1 k && leb k t.clauses

-- a clause's literals handed out: none for an unsound table or a number outside 1 to m
unfoldable pub handed_out : Limits → Table → ℕ → Clause
handed_out lim t k = cond (names lim t k) (row t k) []

-- where that stretch starts in the lent literal buffer
unfoldable pub handed_from : Limits → Table → ℕ → ℕ
handed_from lim t k = cond (names lim t k) (offset t (k - 1)) 0
