-- What the test of one literal reads besides the table: marks of the live clauses and of the plain ones, and an occurrence index. Only inner functions
-- speak of it.
-- Assumes nothing.
use Rattle.std.specs.Prelude.{◌≡◌, Bool, true, false, ◌&&◌, List, [], ◌∷◌, ℕ, ◌+◌, ◌-◌, ◌≤◌, ◌<◌, ltb, Option, None, Some, length, get_or}
use Rattle.rules.specs.Walk.{least}
use Rattle.rules.specs.Clause.{mem, tautology}
use Rattle.rules.specs.Blocking.{literal}
use Rattle.rules.specs.Book.{Live, Entry}
use Rattle.table.specs.Table.{Table, offset, row}

-- clause k is live where mark k says so
unfoldable pub live_of : List Bool → Live
live_of marks k = get_or marks k false

-- clause k is above clause j and holds the literal x
unfoldable pub holds_above : Table → ℕ → ℕ → ℕ → Bool
holds_above t x j k = ltb j k && mem x (row t k)

-- the lowest clause above clause j that holds the literal x, or 0
unfoldable pub holder_above : Table → ℕ → ℕ → ℕ
holder_above t x j = least (holds_above t x j) t.clauses

-- the occurrence index: for each code the lowest clause that holds it, and for each place of the literal buffer the next clause above its own that
-- holds the same literal
pub record Indexed (t : Table) (heads nexts : List ℕ) : Type 0 where
  pub heads_many : length heads ≡ 4002
  pub nexts_many : length nexts ≡ 16000
  pub head : (x : ℕ) → x < 4002 → get_or heads x 0 ≡ holder_above t x 0
  pub next : (k i : ℕ) → 1 ≤ k → k ≤ t.clauses → i < length (row t k) → get_or nexts (offset t (k - 1) + i) 0 ≡ holder_above t (get_or (row t k) i 0) k

-- each of the clauses 1 to k that is marked is no tautology
abbrev pub PlainTo : Table → List Bool → ℕ → Type 0
PlainTo t marks k = (j : ℕ) → 1 ≤ j → j ≤ k → get_or marks j false ≡ true → tautology (row t j) ≡ false

-- marks of plain clauses: none that is marked is a tautology
pub record Plain (t : Table) (marks : List Bool) : Type 0 where
  pub many : t.clauses < length marks
  pub told : PlainTo t marks t.clauses

-- marks of live clauses, of the table alone
pub record OwnMarks (t : Table) (marks : List Bool) : Type 0 where
  pub many : t.clauses < length marks
  pub within : (k : ℕ) → live_of marks k ≡ true → (1 ≤ k) × (k ≤ t.clauses)

-- the entry of clause k with the literal that was found, or nothing where none was
abbrev pub entry_of : ℕ → Option ℕ → List (Entry literal)
entry_of k None = []
entry_of k (Some l) = (k, l) ∷ []
