-- The tests of a table that is lent with a stack, in the order of document 01 ('Refusal numbers', 'Room' and 'Order'), and the stack check.
-- Assumes nothing.
use Rattle.std.specs.Prelude.{Bool, true, ◌&&◌, List, [], ℕ, ◌*◌, leb, length}
use Rattle.std.proofs.Math.Option.{Option}
use Rattle.rules.specs.Clause.{mem}
use Rattle.rules.specs.Blocking.{literal}
use Rattle.rules.specs.Book.{Live, all, after, blocks, Test, fault}
use Rattle.table.specs.Limits.{Limits}
use Rattle.table.specs.Table.{Table, row, book_of, sound}
use Rattle.table.specs.Stack.{entries}
use Rattle.table.specs.Answer.{Reply, answered, test, test_at, ◌then◌, unless}
use Rattle.table.specs.declared.Refusal.{Refusal}
use Rattle.table.specs.declared.Refusal.TheVariants.{NoRoom, BadTable, BadStack, NotBlocking}

-- 4, then 3: the table is sound, and the stack has two words for each of its clauses
abbrev pub table_tests : Limits → Table → List ℕ → Option Refusal
table_tests lim t ws = test (sound lim t) BadTable then test (leb (2 * t.clauses) (length ws)) NoRoom

-- an entry names a live clause, that is one from 1 to m that no entry before it names, and a literal of it
unfoldable pub entry_names : Table → Test literal
entry_names t L e = L e.0 && mem e.1 (row t e.0)

-- the number of the first entry that does not, or 0
unfoldable pub bad_entry : Table → List ℕ → ℕ → ℕ
bad_entry t ws c = fault literal (entry_names t) (all (book_of t)) (entries ws c)

-- 5: the count is at most m, and no entry is bad
abbrev pub entry_tests : Table → List ℕ → ℕ → Option Refusal
entry_tests t ws c = test (leb c t.clauses) (BadStack 0) then test_at (bad_entry t ws c) BadStack

-- 4, 3, 5: the tests that come first in every call on a table with a stack. 3 is given for a short stack, and where `room` says that another buffer of
-- the call is short.
abbrev pub lent_tests : Limits → Table → List ℕ → ℕ → Bool → Option Refusal
lent_tests lim t ws c room = table_tests lim t ws then test room NoRoom then entry_tests t ws c

-- an entry's literal blocks its clause among those live at that time
unfoldable pub entry_blocks : Table → Test literal
entry_blocks t L e = blocks literal (book_of t) L e.0 e.1

-- the number of the first entry whose literal does not, or 0
unfoldable pub unblocked_entry : Table → List ℕ → ℕ → ℕ
unblocked_entry t ws c = fault literal (entry_blocks t) (all (book_of t)) (entries ws c)

-- 6: every entry's literal blocks, from the oldest entry on
abbrev pub blocking_tests : Table → List ℕ → ℕ → Option Refusal
blocking_tests t ws c = test_at (unblocked_entry t ws c) NotBlocking

-- the clauses that are not on the stack
unfoldable pub live_after : Table → List ℕ → ℕ → Live
live_after t ws c = after literal (all (book_of t)) (entries ws c)

-- the stack check: 4, 3, 5, 6
unfoldable pub check : Limits → Table → List ℕ → ℕ → Reply
check lim t ws c = unless (lent_tests lim t ws c true then blocking_tests t ws c) (answered [])
