-- What the turns and sweeps say of the stack and the marks. Assumes nothing.
use Rattle.std.specs.Prelude.{◌≡◌, Bool, true, List, [], ◌∷◌, ℕ, suc, ◌+◌, ◌*◌, ◌≤◌, length}
use Rattle.rules.specs.Blocking.{literal}
use Rattle.rules.specs.Book.{Entry, after}
use Rattle.rules.proofs.Sweeps.{tally}
use Rattle.table.specs.Limits.{base}
use Rattle.table.specs.Table.{Table, sound}
use Rattle.table.specs.Stack.{push}
use Rattle.index.specs.Index.{live_of, OwnMarks}

-- the words with the entries of s pushed one after the other behind the first c
unfoldable pub push_all : List ℕ → ℕ → List (Entry literal) → List ℕ
push_all ws c [] = ws
push_all ws c (e ∷ s) = push_all (push ws c e.0 e.1) (suc c) s

-- the marks are of clauses of a sound table, and the stack has room for every clause that is still live
pub record Roomy (t : Table) (marks : List Bool) (ws : List ℕ) (c : ℕ) : Type 0 where
  pub table_sound : sound base t ≡ true
  pub own : OwnMarks t marks
  pub room : 2 * t.clauses ≤ length ws
  pub balance : tally (live_of marks) t.clauses + c ≤ t.clauses

-- the removals s were made: they are on the stack behind the first c entries, their clauses are no longer live, and r entries are on the stack now
pub record Made (s : List (Entry literal)) (marks : List Bool) (ws : List ℕ) (c : ℕ) (marks' : List Bool) (ws' : List ℕ) (r : ℕ) : Type 0 where
  pub count : r ≡ c + length s
  pub stack : ws' ≡ push_all ws c s
  pub live : live_of marks' ≡ after literal (live_of marks) s
