-- The text reader, as a call on two lent buffers: the answer and every cell of them, refusals included (document 01, 'The text' and 'Refusal numbers').
-- Assumes nothing.
use Rattle.std.specs.Prelude.{false, List, [], ◌∷◌, ℕ, ◌+◌, leb, length, drop, Result, Ok, Err}
use Rattle.std.proofs.Math.Option.{Option}
use Rattle.table.specs.declared.Refusal.{Refusal}
use Rattle.table.specs.declared.Refusal.TheVariants.{NoRoom, OverLimit}
use Rattle.table.specs.Limits.{Limits}
use Rattle.table.specs.Table.{Table, table}
use Rattle.table.specs.Stack.{lay}
use Rattle.table.specs.Answer.{Reply, answered, paper, reply_of, test, ◌then◌}
use Rattle.words.specs.Tokens.{tokens_from}
use Rattle.text.specs.declared.Counts.{Counts}
use Rattle.table.specs.Res.{Res, ◌>>=◌, or_fault}
use Rattle.text.specs.Lines.{prologue, line_end}
use Rattle.text.specs.Problem.{problem}
use Rattle.text.specs.Clauses.{clauses}
use Rattle.words.specs.declared.Section.TheVariants.{Clauses}

-- what a reader comes to: its reply, and every cell of the two buffers afterwards
pub record TableOutcome : Type 0 where
  pub reply : Reply
  pub lits : List ℕ
  pub offs : List ℕ

abbrev pub table_outcome : Reply → List ℕ → List ℕ → TableOutcome
table_outcome a lits offs = record { reply = a; lits = lits; offs = offs }

-- the reader answers the counts of variables and of clauses
abbrev pub read_reply : Result Counts Refusal → Reply
read_reply r = reply_of (λ (c : Counts). c.variables ∷ c.clauses ∷ []) r

-- the literals and the offsets beside the counts
abbrev pub as_table : ℕ → ℕ → Res (List ℕ × List ℕ) → Res Table
as_table n m r = r >>= λ b. Ok (table n m b.0 b.1)

-- the table that a text says, or its first fault by offset: the comment lines, the problem line, then the clauses
unfoldable pub table_of : Limits → List ℕ → Res Table
table_of lim s =
    let start = prologue false 0 s in
    let end = line_end start (drop start s) in
    problem lim s start end >>= λ c.
    as_table c.0 c.1 (clauses lim c.0 (length s) [] (0 ∷ []) c.1 (tokens_from Clauses s end))

-- 'Room: the text reader and the saved form's reader need 16,000 literals and 4,001 offsets'; 'A text is at most 65,536 bytes'; 'readers test 3 first,
-- then 2 for a long text, then the first fault by offset'
abbrev pub reader_tests : Limits → List ℕ → List ℕ → List ℕ → Option Refusal
reader_tests lim s lits offs =
    test (leb lim.literals (length lits)) NoRoom
    then test (leb (lim.clauses + 1) (length offs)) NoRoom
    then test (leb (length s) lim.text_bytes) (OverLimit 0)

-- 'Every refusal gives its number and place and changes no lent byte or word. A success changes only the part that carries the answer.'
abbrev pub left : Res Table → List ℕ → List ℕ → TableOutcome
left (Err r) lits offs = table_outcome (paper r) lits offs
left (Ok t) lits offs = table_outcome (answered (t.variables ∷ t.clauses ∷ [])) (lay t.lits lits) (lay t.offs offs)

-- the text reader
unfoldable pub reading : Limits → List ℕ → List ℕ → List ℕ → TableOutcome
reading lim s lits offs = left (or_fault (reader_tests lim s lits offs) (table_of lim s)) lits offs
