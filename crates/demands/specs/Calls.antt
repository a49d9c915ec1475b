-- A terminal's stack between calls, and what a list of removal calls does to it. Assumes nothing.
use Rattle.std.specs.Prelude.{List, [], ◌∷◌, ℕ}
use Rattle.rules.specs.Book.{Live}
use Rattle.table.specs.Limits.{Limits}
use Rattle.table.specs.Table.{Table}
use Rattle.table.specs.Answer.{Reply, answered, refused, Outcome}
use Rattle.stack.specs.Tests.{live_after}
use Rattle.removal.specs.Removal.{removal}

-- the words of the stack buffer, and the count of its entries
pub record Stack : Type 0 where
  pub words : List ℕ
  pub count : ℕ

abbrev pub stack : List ℕ → ℕ → Stack
stack ws c = record { words = ws; count = c }

-- a removal call: any two numbers
pub record Call : Type 0 where
  pub clause : ℕ
  pub literal : ℕ

-- the count after a call: the one that it answered, or the old one where it refused
abbrev pub new_count : Reply → ℕ → ℕ
new_count (answered []) c = c
new_count (answered (n ∷ vs)) c = n
new_count (refused n p) c = c

-- one removal call: the buffer holds what the call left in it
unfoldable pub called : Limits → Table → Stack → Call → Stack
called lim t s x =
    let o : Outcome = removal lim t s.words s.count x.clause x.literal in
    stack o.cells (new_count o.reply s.count)

-- a list of removal calls, the first one first, refused ones among them
unfoldable pub calls : Limits → Table → Stack → List Call → Stack
calls lim t s [] = s
calls lim t s (x ∷ xs) = calls lim t (called lim t s x) xs

-- the remaining rules
abbrev pub live : Table → Stack → Live
live t s = live_after t s.words s.count
