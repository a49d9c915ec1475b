-- What the functions that build the index and mark the plain clauses say of each other. Assumes nothing.
use Rattle.std.specs.Prelude.{◌≡◌, Bool, true, false, List, ℕ, ◌+◌, ◌-◌, ◌≤◌, ◌<◌, length, get_or}
use Rattle.rules.specs.Clause.{Clause, tautology}
use Rattle.table.specs.Limits.{base}
use Rattle.table.specs.Table.{Table, offset, row, sound}
use Rattle.table.specs.Inner.{Stamped}
use Rattle.index.specs.Index.{holder_above}

-- the clauses above clause k are linked: a head is the lowest of them that holds the literal
pub record Linking (t : Table) (heads nexts : List ℕ) (k : ℕ) : Type 0 where
  pub table_sound : sound base t ≡ true
  pub heads_many : length heads ≡ 4002
  pub nexts_many : length nexts ≡ 16000
  pub head : (x : ℕ) → x < 4002 → get_or heads x 0 ≡ holder_above t x k
  pub next : (j i : ℕ) → k < j → j ≤ t.clauses → i < length (row t j) → get_or nexts (offset t (j - 1) + i) 0 ≡ holder_above t (get_or (row t j) i 0) j

-- a clause tested against the stamps of the clauses before it: its mark, which is true only where it is no tautology
pub record Told (C : Clause) (k : ℕ) (seen : List ℕ) (r : Bool) : Type 0 where
  pub plain : r ≡ true → tautology C ≡ false
  pub stamps : Stamped seen k
