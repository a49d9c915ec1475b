-- The test of one literal as yes or no, and the search for the lowest blocked clause. Assumes nothing.
use mathlib.Core.Path.{◌≡◌, refl, sym}
use mathlib.Core.Bool.{true, not}
use mathlib.Core.List.{[], ◌∷◌}
use Prim.Native.Nat.{ℕ, zero, suc, ◌+◌, ◌≤◌, ◌<◌}
use native.Mathlib.Omega.{arith}
use native.Mathlib.Numerals.{add-one}
use borrow.Author.Tests.{ne_eqb}
use lib.Dec.{eqb}
use Rattle.std.specs.Option.{is_some}
use Rattle.std.specs.Prelude.{None, Some}
use Rattle.rules.specs.Walk.{found}
use Rattle.rules.specs.Clause.{mem}
use Rattle.rules.specs.Blocking.{literal}
use Rattle.rules.specs.Book.{Live, obstacle, blocks}
use Rattle.rules.specs.Elimination.{turn, next_blocked}
use Rattle.rules.proofs.Sweeps.{next_more, next_here}
use Rattle.table.specs.Table.{Table, row, book_of}
use Rattle.index.specs.Index.{entry_of}

module _ (t : Table) (L : Live) where
  -- a literal of the clause does not block it exactly where there is an obstacle
  pub not_blocks : (k l : ℕ) → mem l (row t k) ≡ true → is_some (found (obstacle literal (book_of t) L k l)) ≡ not (blocks literal (book_of t) L k l)
  unfolding blocks
  not_blocks k l m = rw m (there (obstacle literal (book_of t) L k l))
    where
      there : (n : ℕ) → is_some (found n) ≡ not (eqb n 0)
      there zero = refl
      there (suc n) = rw (ne_eqb (suc n) 0 (λ e. omega arith))

  -- none of the clauses 1 to i is blocked
  pub next_on : (i : ℕ) → next_blocked literal (book_of t) L i ≡ [] → entry_of (i + 1) None ≡ turn literal (book_of t) L (i + 1)
      → next_blocked literal (book_of t) L (i + 1) ≡ []
  next_on i h e = rw add-one (next_more literal (book_of t) L i h (rw add-one at (sym e)))

  pub next_found : (n i l : ℕ) → next_blocked literal (book_of t) L i ≡ [] → entry_of (i + 1) (Some l) ≡ turn literal (book_of t) L (i + 1) → i < n
      → (i + 1, l) ∷ [] ≡ next_blocked literal (book_of t) L n
  next_found n i l h e u =
      let one : turn literal (book_of t) L (suc i) ≡ (suc i, l) ∷ [] = rw add-one at (sym e) in
      rw (add-one, next_here literal (book_of t) L n i (suc i, l) h one u)

  pub next_end : (n i : ℕ) → next_blocked literal (book_of t) L i ≡ [] → i ≤ n → n ≤ i → [] ≡ next_blocked literal (book_of t) L n
  next_end n i h a b = let e : i ≡ n = omega arith in sym (rw e at h)
