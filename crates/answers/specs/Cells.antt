-- What a call answers as four cells (docs/DECISIONS.md 15). Assumes nothing.
use Rattle.std.specs.Prelude.{List, [], ◌∷◌, ℕ}
use Rattle.table.specs.Stack.{lay}
use Rattle.table.specs.Answer.{Reply, answered, refused}
use Rattle.answers.specs.declared.Answer.{Answer}

-- The four cells that say a reply: 0 and its values, or the refusal's number and its place; zeros fill the rest.
abbrev pub cells_of : Reply → List ℕ
cells_of (answered values) = lay (0 ∷ values) (0 ∷ 0 ∷ 0 ∷ 0 ∷ [])
cells_of (refused number place) = number ∷ place ∷ 0 ∷ 0 ∷ []

-- the cells of an answer, as the doors hand them on
abbrev pub four_cells : Answer → List ℕ
four_cells a = a.cells
