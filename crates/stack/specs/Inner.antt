-- What the inner functions say of a lent stack. Assumes nothing.
use Rattle.std.specs.Prelude.{◌≡◌, Bool, true, List, ℕ, ◌*◌, ◌≤◌, ◌<◌, length, Option, None}
use Rattle.std.proofs.Math.Option.{none}
use Rattle.rules.specs.Walk.{found}
use Rattle.rules.specs.Book.{one_to}
use Rattle.table.specs.Limits.{base}
use Rattle.table.specs.Table.{Table, sound}
use Rattle.table.specs.Lent.{lent}
use Rattle.table.specs.declared.Table.{Table as LentTable}
use Rattle.table.specs.declared.Stack.{Stack as LentStack}
use Rattle.index.specs.Index.{live_of}
use Rattle.stack.specs.Tests.{bad_entry, lent_tests, unblocked_entry, live_after}

-- a sound table lent with a stack of c entries and room, and every clause marked live
pub record Lent (t : Table) (ws : List ℕ) (c : ℕ) (marks : List Bool) : Type 0 where
  pub table_sound : sound base t ≡ true
  pub room : 2 * t.clauses ≤ length ws
  pub count : c ≤ t.clauses
  pub marks_many : t.clauses < length marks
  pub marks_all : live_of marks ≡ one_to t.clauses

-- the entries are read: the number of the first that is bad, and where none is, the marks of what is live afterwards
pub record Read (t : Table) (ws : List ℕ) (c : ℕ) (marks : List Bool) (r : Option ℕ) : Type 0 where
  pub bad : r ≡ found (bad_entry t ws c)
  pub live : r ≡ None → live_of marks ≡ live_after t ws c

-- the same of the entries whose literal does not block
pub record Checked (t : Table) (ws : List ℕ) (c : ℕ) (marks : List Bool) (r : Option ℕ) : Type 0 where
  pub unblocked : r ≡ found (unblocked_entry t ws c)
  pub live : r ≡ None → live_of marks ≡ live_after t ws c

-- the test 6 passes: every entry's literal blocks, and what is live after the entries is marked
pub record Blocking (t : Table) (ws : List ℕ) (c : ℕ) (marks : List Bool) : Type 0 where
  pub none_unblocked : unblocked_entry t ws c ≡ 0
  pub live : live_of marks ≡ live_after t ws c

-- a table lent with a stack of c entries that passed the tests 4, 3 and 5
pub record Passed (t : Table) (ws : List ℕ) (c : ℕ) : Type 0 where
  pub table_sound : sound base t ≡ true
  pub room : 2 * t.clauses ≤ length ws
  pub count : c ≤ t.clauses
  pub none_bad : bad_entry t ws c ≡ 0

-- the tests 4, 3 and 5 all pass: the table and the stack as they were lent, and the marks of what is live after the entries
pub record Opens (t : LentTable) (s : LentStack) (room : Bool) (marks : List Bool) (t' : LentTable) (s' : LentStack) : Type 0 where
  pub table : t' ≡ t
  pub stack : s' ≡ s
  pub passes : lent_tests base (lent t) s.words.now s.count room ≡ none
  pub live : live_of marks ≡ live_after (lent t) s.words.now s.count

-- an open stack: it passed those tests, and what is live after its entries is marked
pub record Open (t : Table) (ws : List ℕ) (c : ℕ) (marks : List Bool) : Type 0 where
  pub passed : Passed t ws c
  pub marks_many : t.clauses < length marks
  pub live : live_of marks ≡ live_after t ws c
