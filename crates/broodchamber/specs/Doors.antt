-- What a terminal sees of a call: whether it was made, and every cell of the answer and of the lent buffers afterwards. Assumes nothing.
use Rattle.std.specs.Prelude.{Bool, true, false, cond, List, [], ◌∷◌, ℕ, ◌-◌, eqb, leb, length}
use Rattle.rules.specs.Clause.{Clause}
use Rattle.table.specs.Limits.{Limits}
use Rattle.table.specs.Table.{Table, offset, handed_out}
use Rattle.table.specs.Stack.{lay}
use Rattle.table.specs.Answer.{Reply, answered, Outcome}
use Rattle.text.specs.Text.{TableOutcome}
use Rattle.saved.specs.Saved.{Loaded}
use Rattle.answers.specs.Cells.{cells_of}

-- what is seen: whether the call was made, the answer's cells, and the cells of each buffer that the call may write
pub record Seen : Type 0 where
  pub made : Bool
  pub answer : List ℕ
  pub buffers : List (List ℕ)

abbrev pub seen : Bool → List ℕ → List (List ℕ) → Seen
seen made answer buffers = record { made = made; answer = answer; buffers = buffers }

-- A call through a door, whose answer and buffers came as they are named first. Without four cells for the answer it is not made, and nothing changes.
unfoldable pub door : List ℕ → List (List ℕ) → Reply → List (List ℕ) → Seen
door answer buffers reply left = cond (leb 4 (length answer)) (seen true (lay (cells_of reply) answer) left) (seen false answer buffers)

-- a call that writes no buffer
abbrev pub asked : List ℕ → Reply → Seen
asked answer reply = door answer [] reply []

-- a call that may write one buffer
abbrev pub wrote : List ℕ → List ℕ → Outcome → Seen
wrote answer cells o = door answer (cells ∷ []) o.reply (o.cells ∷ [])

-- the text reader
abbrev pub read_table : List ℕ → List ℕ → List ℕ → TableOutcome → Seen
read_table answer lits offs o = door answer (lits ∷ offs ∷ []) o.reply (o.lits ∷ o.offs ∷ [])

-- the saved form's reader
abbrev pub read_both : List ℕ → List ℕ → List ℕ → List ℕ → Loaded → Seen
read_both answer lits offs stack o = door answer (lits ∷ offs ∷ stack ∷ []) o.reply (o.lits ∷ o.offs ∷ o.stack ∷ [])

-- where a handed out stretch of literals starts in the lent buffer: 0 for an empty one
unfoldable pub start_of : Table → ℕ → Clause → ℕ
start_of t k C = cond (eqb (length C) 0) 0 (offset t (k - 1))

-- a clause's literals, as the stretch of the lent buffer that holds them: its start and its length
unfoldable pub stretch : Limits → Table → ℕ → Reply
stretch lim t k = answered (start_of t k (handed_out lim t k) ∷ length (handed_out lim t k) ∷ [])
