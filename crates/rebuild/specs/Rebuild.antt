-- Rebuild as a call on a lent table, stack and values: the answer and every byte of the values, refusals included (document 01, 'Refusal numbers' and
-- 'Order'). Assumes nothing.
use Rattle.std.specs.Prelude.{List, [], ℕ, leb, length}
use Rattle.std.proofs.Math.Option.{Option}
use Rattle.rules.specs.Clause.{Values}
use Rattle.rules.specs.Blocking.{literal}
use Rattle.rules.specs.Rebuild as Rules
use Rattle.table.specs.Limits.{Limits}
use Rattle.table.specs.Table.{Table, book_of}
use Rattle.table.specs.Stack.{entries, lay}
use Rattle.table.specs.Values.{values_of, bytes_of, bad_value}
use Rattle.table.specs.Answer.{answered, test_at, ◌then◌, Outcome, outcome, decided}
use Rattle.table.specs.declared.Refusal.{Refusal}
use Rattle.table.specs.declared.Refusal.TheVariants.{BadValues, NotModel}
use Rattle.stack.specs.Tests.{lent_tests, blocking_tests, live_after}

-- 4; 3 for the stack and for the values; 5; 6; 8; 9
abbrev pub rebuild_tests : Limits → Table → List ℕ → ℕ → List ℕ → Option Refusal
rebuild_tests lim t ws c vs =
    lent_tests lim t ws c (leb t.variables (length vs))
    then blocking_tests t ws c
    then test_at (bad_value vs t.variables) BadValues
    then test_at (Rules.falsified (book_of t) (live_after t ws c) (values_of vs)) NotModel

-- the values after the walk
unfoldable pub rebuilt : Table → List ℕ → ℕ → List ℕ → Values
rebuilt t ws c vs = Rules.walk literal (book_of t) (values_of vs) (entries ws c)

-- the first n bytes become the walk's values, and what is behind them stays
unfoldable pub rebuilding : Limits → Table → List ℕ → ℕ → List ℕ → Outcome
rebuilding lim t ws c vs =
    decided (rebuild_tests lim t ws c vs) vs (outcome (answered []) (lay (bytes_of (rebuilt t ws c vs) t.variables) vs))
