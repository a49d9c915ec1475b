-- The demands, in the user's words. Each is proved in proofs/. Assumes nothing.
use Rattle.std.specs.Prelude.{◌≡◌, true, false, List, [], ◌∷◌, ◌↔◌, ◌⊎◌, ℕ, ◌+◌, ◌*◌, ◌≤◌, ◌<◌, length, get_or, take}
use Rattle.rules.specs.Clause.{Values, holds}
use Rattle.rules.specs.Blocking.{literal}
use Rattle.rules.specs.Book.{Live, all, blocks}
use Rattle.rules.specs.Elimination.{remainder}
use Rattle.table.specs.Limits.{base}
use Rattle.table.specs.Table.{Table, table, offset, row, book_of, sound}
use Rattle.table.specs.Stack.{entries, lay}
use Rattle.table.specs.Values.{values_of}
use Rattle.table.specs.Answer.{answered, refused, Outcome, outcome}
use Rattle.stack.specs.Tests.{check}
use Rattle.removal.specs.Removal.{elimination, question}
use Rattle.rebuild.specs.Rebuild.{rebuilding}
use Rattle.saved.specs.Field.{narrow}
use Rattle.saved.specs.Form.{encode}
use Rattle.saved.specs.Saved.{Loaded, writing, reading}
use Rattle.demands.specs.Calls.{Stack, stack, Call, calls, live}

-- a sound table, and a stack buffer with the room that document 01 asks for, whatever it holds
pub record Start (t : Table) (ws : List ℕ) : Type 0 where
  pub table_sound : sound base t ≡ true
  pub room : 2 * t.clauses ≤ length ws

-- where the removal calls xs lead from an empty stack
abbrev pub reached : Table → List ℕ → List Call → Stack
reached t ws xs = calls base t (stack ws 0) xs

-- the question which clause can go next answers that none can
abbrev pub NoneCanGo : Table → Stack → Type 0
NoneCanGo t s = question base t s.words s.count ≡ answered []

-- no live clause is blocked, by any literal
abbrev pub NoneBlocked : Table → Live → Type 0
NoneBlocked t L = (k l : ℕ) → L k ≡ true → blocks literal (book_of t) L k l ≡ false

-- the values satisfy every clause of L
abbrev pub Satisfies : Table → Live → Values → Type 0
Satisfies t L v = (k : ℕ) → L k ≡ true → holds v (row t k) ≡ true

-- Demand 3, first part. Any two sequences of removal calls that stop where no remaining rule is blocked leave the same rules.
abbrev pub SameRemainder : Type 0
SameRemainder =
    (t : Table) (ws ws' : List ℕ) → Start t ws → Start t ws' → (xs ys : List Call)
    → NoneCanGo t (reached t ws xs) → NoneCanGo t (reached t ws' ys)
    → live t (reached t ws xs) ≡ live t (reached t ws' ys)

-- bytes for n variables, each 0 or 1
pub record Choice (t : Table) (vs : List ℕ) : Type 0 where
  pub room : t.variables ≤ length vs
  pub bits : (i : ℕ) → i < t.variables → get_or vs i 0 ≤ 1

-- what rebuild makes of the bytes
abbrev pub rebuilt_by : Table → Stack → List ℕ → Outcome
rebuilt_by t s vs = rebuilding base t s.words s.count vs

-- Demand 3, second part. Wherever the calls stop, a full choice that satisfies the remaining rules is not refused by rebuild, and what it is rebuilt
-- into satisfies every rule of the input.
abbrev pub RebuildsAll : Type 0
RebuildsAll =
    (t : Table) (ws : List ℕ) → Start t ws → (xs : List Call) (vs : List ℕ) → Choice t vs
    → Satisfies t (live t (reached t ws xs)) (values_of vs)
    → ((rebuilt_by t (reached t ws xs) vs).reply ≡ answered [])
    × Satisfies t (all (book_of t)) (values_of (rebuilt_by t (reached t ws xs) vs).cells)

-- Demand 3, third part. So the input can be satisfied exactly if the remaining rules can.
abbrev pub SatisfiableAlike : Type 0
SatisfiableAlike =
    (t : Table) (ws : List ℕ) → Start t ws → (xs : List Call)
    → ((v : Values) × Satisfies t (all (book_of t)) v) ↔ ((v : Values) × Satisfies t (live t (reached t ws xs)) v)

-- Demand 2, first sentence. Eliminate answers a count, and leaves a stack that removal calls could have written, after which none can go: so what it
-- leaves is what every such sequence leaves, and that is what the definition of elimination leaves.
pub record Eliminated (t : Table) (ws : List ℕ) : Type 0 where
  pub count : ℕ
  pub answer : (elimination base t ws).reply ≡ answered (count ∷ [])
  pub by_calls : (xs : List Call) × (reached t ws xs ≡ stack (elimination base t ws).cells count)
  pub none_blocked : NoneBlocked t (live t (stack (elimination base t ws).cells count))
  pub none_can_go : NoneCanGo t (stack (elimination base t ws).cells count)
  pub remaining : live t (stack (elimination base t ws).cells count) ≡ remainder literal (book_of t)

abbrev pub EliminatesAll : Type 0
EliminatesAll = (t : Table) (ws : List ℕ) → Start t ws → Eliminated t ws

-- and every sequence of calls that stops where none can go leaves it too
abbrev pub LeavesTheRemainder : Type 0
LeavesTheRemainder =
    (t : Table) (ws : List ℕ) → Start t ws → (xs : List Call) → NoneCanGo t (reached t ws xs)
    → live t (reached t ws xs) ≡ remainder literal (book_of t)

-- Demand 2, second sentence: the saved form -------------------------------------

-- a table, and a stack of c entries, that the stack check accepts
abbrev pub Checked : Table → List ℕ → ℕ → Type 0
Checked t ws c = check base t ws c ≡ answered []

-- the bytes that are saved of them
abbrev pub saved : Table → List ℕ → ℕ → List ℕ
saved t ws c = encode narrow t (entries ws c)

-- what the writer makes of an output that is lent to it
abbrev pub written_to : Table → List ℕ → ℕ → List ℕ → Outcome
written_to t ws c out = writing base narrow t ws c out

-- three lent buffers, whatever they hold
pub record Buffers : Type 0 where
  pub lits : List ℕ
  pub offs : List ℕ
  pub stack : List ℕ

-- with the room that document 01 asks for
pub record Roomy (b : Buffers) : Type 0 where
  pub literals : 16000 ≤ length b.lits
  pub offsets : 4001 ≤ length b.offs
  pub words : 8000 ≤ length b.stack

-- what the reader makes of bytes and of the buffers that are lent to it
abbrev pub read_into : List ℕ → Buffers → Loaded
read_into bytes b = reading base narrow bytes b.lits b.offs b.stack

-- the same counts, literals, offsets and stack entries
pub record SameAs (t : Table) (ws : List ℕ) (c : ℕ) (o : Loaded) : Type 0 where
  pub counts : o.reply ≡ answered (t.variables ∷ t.clauses ∷ c ∷ [])
  pub literals : take (offset t t.clauses) o.lits ≡ take (offset t t.clauses) t.lits
  pub offsets : take (t.clauses + 1) o.offs ≡ take (t.clauses + 1) t.offs
  pub stack_entries : entries o.stack c ≡ entries ws c

-- "A saved form reads back as the table and stack that were written": an output with room is told its length, and the bytes that it then begins with
-- are read as the same table and stack.
abbrev pub ReadsBack : Type 0
ReadsBack =
    (t : Table) (ws : List ℕ) (c : ℕ) → Checked t ws c → (out : List ℕ) → length (saved t ws c) ≤ length out → (b : Buffers) → Roomy b
    → ((written_to t ws c out).reply ≡ answered (length (saved t ws c) ∷ []))
    × SameAs t ws c (read_into (take (length (saved t ws c)) (written_to t ws c out).cells) b)

-- an output of 60,014 bytes always has room
abbrev pub LongestForm : Type 0
LongestForm = (t : Table) (ws : List ℕ) (c : ℕ) → Checked t ws c → length (saved t ws c) ≤ 60014

-- bytes, and the counts that the reader answers for them
pub record Read (bytes : List ℕ) (b : Buffers) (n m c : ℕ) : Type 0 where
  pub small : (i : ℕ) → get_or bytes i 0 < 256
  pub answer : (read_into bytes b).reply ≡ answered (n ∷ m ∷ c ∷ [])

-- the table that stands in the buffers afterwards
abbrev pub table_in : ℕ → ℕ → Loaded → Table
table_in n m o = table n m o.lits o.offs

-- "and writing what was read gives the same bytes", in every output that has room for them
abbrev pub WritesBack : Type 0
WritesBack =
    (bytes : List ℕ) (b : Buffers) (n m c : ℕ) → Read bytes b n m c → (out : List ℕ) → length bytes ≤ length out
    → written_to (table_in n m (read_into bytes b)) (read_into bytes b).stack c out ≡ outcome (answered (length bytes ∷ [])) (lay bytes out)

-- What is read is sound and its stack passes the check,
abbrev pub ReadsChecked : Type 0
ReadsChecked =
    (bytes : List ℕ) (b : Buffers) (n m c : ℕ) → Read bytes b n m c
    → (sound base (table_in n m (read_into bytes b)) ≡ true) × Checked (table_in n m (read_into bytes b)) (read_into bytes b).stack c

-- so rebuild refuses neither 4, 5 nor 6 on it.
abbrev pub RebuildTakes : Type 0
RebuildTakes =
    (bytes : List ℕ) (b : Buffers) (n m c : ℕ) → Read bytes b n m c → (vs : List ℕ) (number place : ℕ)
    → (rebuilding base (table_in n m (read_into bytes b)) (read_into bytes b).stack c vs).reply ≡ refused number place
    → (number ≡ 3) ⊎ (number ≡ 8) ⊎ (number ≡ 9)

-- Demand 1. A refusal leaves the lent buffer with the contents it came with.
abbrev pub RefusalKeeps : Outcome → List ℕ → Type 0
RefusalKeeps o cells = (number place : ℕ) → o.reply ≡ refused number place → o.cells ≡ cells
