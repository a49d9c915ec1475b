-- Books, live clauses, stacks, and which clause is blocked (document 01, 'The desk's words' and 'The blocking rule'). Assumes nothing.
use Rattle.std.specs.Prelude.{Bool, true, not, ◌&&◌, cond, List, [], ◌∷◌, ℕ, zero, suc, eqb, leb}
use Rattle.rules.specs.Walk.{least}
use Rattle.rules.specs.Clause.{Clause}
use Rattle.rules.specs.Blocking.{Notion}

-- A book is a numbered list of clauses, from 1 to the count. Two clauses may be equal and still count separately.
pub record Book : Type 0 where
  pub count : ℕ
  pub clause : ℕ → Clause

-- which clauses are live
abbrev pub Live : Type 0
Live = ℕ → Bool

-- the clauses 1 to m
unfoldable pub one_to : ℕ → Live
one_to m k = leb 1 k && leb k m

-- every clause of the book
abbrev pub all : Book → Live
all b = one_to b.count

-- the live clauses less clause k
unfoldable pub less : Live → ℕ → Live
less L k j = L j && not (eqb j k)

-- A removal names a clause and the reason that blocked it. A stack is a list of removals, oldest first.
abbrev pub Entry : Notion → Type 0
Entry N = ℕ × N.Reason

-- what is live after the removals s
unfoldable pub after : (N : Notion) → Live → List (Entry N) → Live
after N L [] = L
after N L (e ∷ s) = after N (less L e.0) s

module _ (N : Notion) (b : Book) where
  -- clause j is live and keeps r from blocking C
  unfoldable pub bars : Live → Clause → N.Reason → ℕ → Bool
  bars L C r j = L j && N.hinders C r (b.clause j)

  -- the test of one reason: the lowest live clause that keeps r from blocking clause k, or 0 where it blocks
  unfoldable pub obstacle : Live → ℕ → N.Reason → ℕ
  obstacle L k r = least (bars L (b.clause k) r) b.count

  -- r blocks clause k among the live clauses
  unfoldable pub blocks : Live → ℕ → N.Reason → Bool
  blocks L k r = N.fits (b.clause k) r && eqb (obstacle L k r) 0

-- an entry's number where one more entry stands before it; 0 stays 0
abbrev pub one_later : ℕ → ℕ
one_later zero = 0
one_later (suc n) = suc (suc n)

module _ (N : Notion) where
  -- a test of an entry among the clauses live at that time
  abbrev pub Test : Type 0
  Test = Live → Entry N → Bool

  -- the number, from 1 and the oldest on, of the first entry that fails the test; 0 where none does
  unfoldable pub fault : Test → Live → List (Entry N) → ℕ
  fault t L [] = 0
  fault t L (e ∷ s) = cond (t L e) (one_later (fault t (less L e.0) s)) 1

-- each entry names a clause that is live at that time, with a reason that blocks it among those live at that time
module _ (N : Notion) (b : Book) where
  unfoldable pub valid : Live → List (Entry N) → Bool
  valid L [] = true
  valid L (e ∷ s) = L e.0 && blocks N b L e.0 e.1 && valid (less L e.0) s
