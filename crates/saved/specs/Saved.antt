-- The two calls: the writer and the reader of the saved form, refusals and every lent cell included (document 01, 'Refusal numbers'). Assumes nothing.
use Rattle.std.specs.Prelude.{ℕ, ◌+◌, ◌*◌, true, List, [], ◌∷◌, leb, length, Ok, Err}
use Rattle.std.proofs.Math.Option.{Option, none, some}
use Rattle.rules.specs.Blocking.{literal}
use Rattle.rules.specs.Book.{all, fault as first_bad}
use Rattle.table.specs.Limits.{Limits}
use Rattle.table.specs.Table.{Table, book_of}
use Rattle.table.specs.Stack.{entries, words, lay as laid}
use Rattle.table.specs.Answer.{Reply, answered, paper, test, test_at, ◌then◌, Outcome, outcome, decided}
use Rattle.table.specs.declared.Refusal.{Refusal}
use Rattle.table.specs.declared.Refusal.TheVariants.{NoRoom, NotBlocking}
use Rattle.stack.specs.Tests.{lent_tests, entry_blocks, blocking_tests}
use Rattle.saved.specs.Field.{Layout}
use Rattle.saved.specs.Form.{Form, encode}
use Rattle.table.specs.Res.{Res}
use Rattle.saved.specs.Reading.{read_form, table_of, stack_of}

-- write_saved: 4, 3 for the stack, 5, 6, then 3 for an output that is shorter than the form
unfoldable pub writing : Limits → Layout → Table → List ℕ → ℕ → List ℕ → Outcome
writing lim lay t ws c out =
    decided
    (lent_tests lim t ws c true
    then blocking_tests t ws c
    then test (leb (length (encode lay t (entries ws c))) (length out)) NoRoom)
    out
    (outcome (answered (length (encode lay t (entries ws c)) ∷ [])) (laid (encode lay t (entries ws c)) out))

-- what the reader comes to: its reply, and every cell of its three lent buffers afterwards
pub record Loaded : Type 0 where
  pub reply : Reply
  pub lits : List ℕ
  pub offs : List ℕ
  pub stack : List ℕ

abbrev pub loaded : Reply → List ℕ → List ℕ → List ℕ → Loaded
loaded a lits offs stack = record { reply = a; lits = lits; offs = offs; stack = stack }

-- 3 first: room for 16,000 literals, 4,001 offsets and 8,000 stack words
abbrev pub room_tests : Limits → List ℕ → List ℕ → List ℕ → Option Refusal
room_tests lim lits offs stack =
    test (leb lim.literals (length lits)) NoRoom
    then test (leb (lim.clauses + 1) (length offs)) NoRoom
    then test (leb (2 * lim.clauses) (length stack)) NoRoom

-- "Faults of form come before 6": the first entry of an accepted form whose literal does not block
unfoldable pub unblocked : Form → ℕ
unblocked f = first_bad literal (entry_blocks (table_of f)) (all (book_of (table_of f))) (stack_of f)

-- the answer: the counts of variables, clauses and entries, and the table and the stack at the fronts of the buffers
unfoldable pub unpacked : Form → List ℕ → List ℕ → List ℕ → Loaded
unpacked f lits offs stack =
    loaded (answered ((table_of f).variables ∷ (table_of f).clauses ∷ length (stack_of f) ∷ []))
    (laid (table_of f).lits lits) (laid (table_of f).offs offs) (laid (words (stack_of f)) stack)

-- a refusal leaves the buffers with the contents they came with
abbrev pub or_kept : Option Refusal → List ℕ → List ℕ → List ℕ → Loaded → Loaded
or_kept none lits offs stack o = o
or_kept (some r) lits offs stack o = loaded (paper r) lits offs stack

abbrev pub accepted : Res Form → List ℕ → List ℕ → List ℕ → Loaded
accepted (Err r) lits offs stack = loaded (paper r) lits offs stack
accepted (Ok f) lits offs stack = or_kept (test_at (unblocked f) NotBlocking) lits offs stack (unpacked f lits offs stack)

-- read_saved
unfoldable pub reading : Limits → Layout → List ℕ → List ℕ → List ℕ → List ℕ → Loaded
reading lim lay b lits offs stack = or_kept (room_tests lim lits offs stack) lits offs stack (accepted (read_form lim lay b) lits offs stack)
