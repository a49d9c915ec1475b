-- A stack as it lies in lent 32-bit words, two for each entry (clause number, literal code), beside a count; and what a call writes into a lent
-- buffer (document 01, 'How a table lies in memory'). Assumes nothing.
use Rattle.std.specs.Prelude.{List, [], ◌∷◌, ◌++◌, ℕ, ◌+◌, ◌*◌, length, get_or, drop, set}
use Rattle.rules.specs.Walk.{upto}
use Rattle.rules.specs.Blocking.{literal}
use Rattle.rules.specs.Book.{Entry}

-- the entry with i entries before it
abbrev pub entry_at : List ℕ → ℕ → Entry literal
entry_at ws i = (get_or ws (2 * i) 0, get_or ws (2 * i + 1) 0)

-- the first c entries, oldest first
unfoldable pub entries : List ℕ → ℕ → List (Entry literal)
entries ws c = upto (entry_at ws) c

-- the words of a list of entries
unfoldable pub words : List (Entry literal) → List ℕ
words [] = []
words (e ∷ s) = e.0 ∷ e.1 ∷ words s

-- a lent buffer with a list laid down at its start, and the rest as it came
unfoldable pub lay : List ℕ → List ℕ → List ℕ
lay xs cells = xs ++ drop (length xs) cells

-- the words with one entry more behind the first c
unfoldable pub push : List ℕ → ℕ → ℕ → ℕ → List ℕ
push ws c k l = set (set ws (2 * c) k) (2 * c + 1) l
