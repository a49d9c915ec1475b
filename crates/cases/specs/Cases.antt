-- Document 01's cases K1 to K10, as calls on lent buffers with what they must come to. Assumes nothing.
use Rattle.std.specs.Prelude.{Bool, true, ◌&&◌, List, [], ◌∷◌, ◌++◌, ℕ, replicate, take}
use Rattle.rules.specs.Walk.{same}
use Rattle.table.specs.Limits.{base}
use Rattle.table.specs.Table.{Table, table}
use Rattle.table.specs.Answer.{Reply, answered, refused, same_reply, Outcome, outcome}
use Rattle.stack.specs.Tests.{check}
use Rattle.removal.specs.Removal.{elimination, removal, question}
use Rattle.rebuild.specs.Rebuild.{rebuilding}
use Rattle.saved.specs.Field.{narrow}
use Rattle.saved.specs.Saved.{Loaded, loaded, writing, reading}

unfoldable pub same_outcome : Outcome → Outcome → Bool
same_outcome o e = same_reply o.reply e.reply && same o.cells e.cells

unfoldable pub same_loaded : Loaded → Loaded → Bool
same_loaded o e = same_reply o.reply e.reply && same o.lits e.lits && same o.offs e.offs && same o.stack e.stack

-- a call, and what it must come to
pub data Case : Type 0 where
  eliminates : Table → List ℕ → Outcome → Case
  removes : Table → List ℕ → ℕ → ℕ → ℕ → Outcome → Case
  asks : Table → List ℕ → ℕ → Reply → Case
  checks : Table → List ℕ → ℕ → Reply → Case
  rebuilds : Table → List ℕ → ℕ → List ℕ → Outcome → Case
  writes : Table → List ℕ → ℕ → List ℕ → Outcome → Case
  reads : List ℕ → List ℕ → List ℕ → List ℕ → Loaded → Case

unfoldable pub passes : Case → Bool
passes (eliminates t ws o) = same_outcome (elimination base t ws) o
passes (removes t ws c k l o) = same_outcome (removal base t ws c k l) o
passes (asks t ws c r) = same_reply (question base t ws c) r
passes (checks t ws c r) = same_reply (check base t ws c) r
passes (rebuilds t ws c vs o) = same_outcome (rebuilding base t ws c vs) o
passes (writes t ws c out o) = same_outcome (writing base narrow t ws c out) o
passes (reads b lits offs stack o) = same_loaded (reading base narrow b lits offs stack) o

unfoldable pub all_pass : List Case → Bool
all_pass [] = true
all_pass (c ∷ cs) = passes c && all_pass cs

unfoldable pub k1 : Table
k1 = table 5 5 (2 ∷ 8 ∷ 9 ∷ 10 ∷ 3 ∷ 4 ∷ 5 ∷ 6 ∷ 7 ∷ 2 ∷ []) (0 ∷ 2 ∷ 4 ∷ 6 ∷ 8 ∷ 10 ∷ [])

-- k1 and its stack after elimination, saved
unfoldable pub k2 : List ℕ
k2 =
    0x01 ∷ 0x00 ∷ 0x08 ∷ 0x00 ∷ 0x05 ∷ 0x00 ∷ 0x05 ∷ 0x00 ∷ 0x0A ∷ 0x00 ∷ 0x02
    ∷ 0x02 ∷ 0x00 ∷ 0x06 ∷ 0x00 ∷ 0x03 ∷ 0x00 ∷ 0x03 ∷ 0x00 ∷ 0x04
    ∷ 0x02 ∷ 0x00 ∷ 0x06 ∷ 0x00 ∷ 0x04 ∷ 0x00 ∷ 0x05 ∷ 0x00 ∷ 0x06
    ∷ 0x02 ∷ 0x00 ∷ 0x06 ∷ 0x00 ∷ 0x05 ∷ 0x00 ∷ 0x07 ∷ 0x00 ∷ 0x02
    ∷ 0x03 ∷ 0x00 ∷ 0x08 ∷ 0x00 ∷ 0x02 ∷ 0x00 ∷ 0x0A ∷ 0x00 ∷ 0x09 ∷ 0x00 ∷ 0x0A
    ∷ 0x03 ∷ 0x00 ∷ 0x08 ∷ 0x00 ∷ 0x01 ∷ 0x00 ∷ 0x08 ∷ 0x00 ∷ 0x02 ∷ 0x00 ∷ 0x08
    ∷ 0x7F ∷ 0x00 ∷ 0x00 ∷ []

-- a stack buffer with room for k1, as it may come
unfoldable pub old : List ℕ
old = 7 ∷ 7 ∷ 7 ∷ 7 ∷ 7 ∷ 7 ∷ 7 ∷ 7 ∷ 7 ∷ 7 ∷ []

-- old cells of a buffer
abbrev pub sevens : ℕ → List ℕ
sevens n = replicate n 7

-- k1's stack after elimination
unfoldable pub done : List ℕ
done = 2 ∷ 10 ∷ 1 ∷ 8 ∷ 7 ∷ 7 ∷ 7 ∷ 7 ∷ 7 ∷ 7 ∷ []

unfoldable pub cases : List Case
cases =
    -- K1: clause 2 goes by 5, then clause 1 by 4
    eliminates k1 old (outcome (answered (2 ∷ [])) done)
    ∷ asks k1 old 0 (answered (2 ∷ 10 ∷ []))
    ∷ asks k1 done 2 (answered [])
    ∷ checks k1 done 2 (answered [])
    -- K2: written, read, and the 62-byte cut of it refused at its end field
    ∷ writes k1 done 2 (sevens 64) (outcome (answered (63 ∷ [])) (k2 ++ sevens 1))
    ∷ reads k2 (sevens 16000) (sevens 4001) (sevens 8000)
    (loaded (answered (5 ∷ 5 ∷ 2 ∷ [])) (k1.lits ++ sevens 15990) (k1.offs ++ sevens 3995) (2 ∷ 10 ∷ 1 ∷ 8 ∷ sevens 7996))
    ∷ reads (take 62 k2) (sevens 16000) (sevens 4001) (sevens 8000) (loaded (refused 10 60) (sevens 16000) (sevens 4001) (sevens 8000))
    -- K3
    ∷ rebuilds k1 done 2 (0 ∷ 0 ∷ 0 ∷ 0 ∷ 0 ∷ []) (outcome (answered []) (0 ∷ 0 ∷ 0 ∷ 1 ∷ 1 ∷ []))
    -- K4
    ∷ rebuilds k1 done 2 (1 ∷ 0 ∷ 0 ∷ 0 ∷ 0 ∷ []) (outcome (refused 9 3) (1 ∷ 0 ∷ 0 ∷ 0 ∷ 0 ∷ []))
    -- K5
    ∷ eliminates (table 0 0 [] (0 ∷ [])) [] (outcome (answered (0 ∷ [])) [])
    -- K6
    ∷ eliminates (table 1 3 (2 ∷ 3 ∷ 2 ∷ 3 ∷ []) (0 ∷ 2 ∷ 3 ∷ 4 ∷ [])) (7 ∷ 7 ∷ 7 ∷ 7 ∷ 7 ∷ 7 ∷ [])
    (outcome (answered (1 ∷ [])) (1 ∷ 2 ∷ 7 ∷ 7 ∷ 7 ∷ 7 ∷ []))
    -- K7
    ∷ eliminates (table 1 2 (2 ∷ 2 ∷ 3 ∷ []) (0 ∷ 1 ∷ 3 ∷ [])) (7 ∷ 7 ∷ 7 ∷ 7 ∷ []) (outcome (answered (2 ∷ [])) (2 ∷ 2 ∷ 1 ∷ 2 ∷ []))
    -- K8
    ∷ eliminates (table 0 1 [] (0 ∷ 0 ∷ [])) (7 ∷ 7 ∷ []) (outcome (answered (0 ∷ [])) (7 ∷ 7 ∷ []))
    -- K9
    ∷ eliminates (table 1 2 (2 ∷ 2 ∷ []) (0 ∷ 1 ∷ 2 ∷ [])) (7 ∷ 7 ∷ 7 ∷ 7 ∷ []) (outcome (answered (2 ∷ [])) (1 ∷ 2 ∷ 2 ∷ 2 ∷ []))
    -- K10
    ∷ removes k1 old 0 1 8 (outcome (refused 6 1) old)
    -- K10 the other way: clause 2 goes first, then clause 1 can
    ∷ removes k1 old 0 2 10 (outcome (answered (1 ∷ [])) (2 ∷ 10 ∷ 7 ∷ 7 ∷ 7 ∷ 7 ∷ 7 ∷ 7 ∷ 7 ∷ 7 ∷ []))
    ∷ removes k1 (2 ∷ 10 ∷ 7 ∷ 7 ∷ 7 ∷ 7 ∷ 7 ∷ 7 ∷ 7 ∷ 7 ∷ []) 1 1 8 (outcome (answered (2 ∷ [])) done)
    ∷ []
