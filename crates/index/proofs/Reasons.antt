-- The test of one clause, and the first literal that blocks one, as a loop over its literals meets it. Assumes nothing.
use mathlib.Core.Path.{◌≡◌, refl, sym, ◌∙◌, ap}
use mathlib.Core.Bool.{Bool, true, false}
use mathlib.Core.List.{List, [], ◌∷◌}
use mathlib.Core.Logic.{◌≢◌}
use Prim.Native.Nat.{ℕ, ◌+◌, ◌≤◌, ◌<◌}
use native.Mathlib.Numerals.{add-one}
use borrow.Author.Tests.{ne_eqb}
use lib.ListN.{length, get_or, drop, drop_of_length-le}
use lib.Seq.{drop-cons}
use Rattle.std.specs.Prelude.{None, Some}
use Rattle.rules.specs.Clause.{Clause, neg, mem}
use Rattle.rules.specs.Blocking.{resists, literal}
use Rattle.rules.specs.Book.{Book, Live, Entry, bars, obstacle, blocks}
use Rattle.rules.specs.Elimination.{first_reason, turn}
use Rattle.rules.proofs.Logic.{and_no}
use Rattle.rules.proofs.Members.{own_at}
use Rattle.table.specs.Table.{Table, row, book_of}
use Rattle.index.specs.Index.{entry_of}

module _ (b : Book) (L : Live) (C : Clause) (l j : ℕ) where
  pub bars_live : L j ≡ true → bars literal b L C l j ≡ resists C l (b.clause j)
  unfolding bars
  bars_live h = rw h

  pub bars_gone : L j ≡ false → bars literal b L C l j ≡ false
  unfolding bars
  bars_gone h = rw h

  -- a clause without the negation of the literal is not in its way
  pub bars_holder : mem (neg l) (b.clause j) ≡ false → bars literal b L C l j ≡ false
  unfolding bars resists
  bars_holder n = rw n (and_no (L j))

  -- a test of the clause D that is C
  pub bars_told : (D : Clause) (r : Bool) → D ≡ C → r ≡ bars literal b L D l j → bars literal b L C l j ≡ r
  bars_told D r e h = rw (← e) (sym h)

-- a literal that was found is the reason of one entry
pub entry_of_lem : (k l : ℕ) → entry_of k (Some l) ≡ (k, l) ∷ []
entry_of_lem k l = refl

-- what clause k's turn comes to
module _ (b : Book) (L : Live) (k : ℕ) where
  pub turn_live : L k ≡ true → turn literal b L k ≡ first_reason literal b L k (b.clause k)
  unfolding turn
  turn_live h = rw h

  pub turn_gone : L k ≡ false → turn literal b L k ≡ []
  unfolding turn
  turn_gone h = rw h

-- a loop over D, which is clause k: none of its first i literals blocks it
module _ (t : Table) (L : Live) (k : ℕ) (D : Clause) (whole : D ≡ row t k) (i : ℕ) where
  abbrev first : Clause → List (Entry literal)
  first C = first_reason literal (book_of t) L k C

  pub reason_here : i < length D → obstacle literal (book_of t) L k (get_or D i 0) ≡ 0
      → first (drop i D) ≡ first D → entry_of k (Some (get_or D i 0)) ≡ first (row t k)
  unfolding first_reason blocks
  reason_here h e q =
      sym (rw (drop-cons D i 0, own_at (row t k) D whole i h, e)) ∙ q ∙ ap first whole

  pub reason_next : i < length D → obstacle literal (book_of t) L k (get_or D i 0) ≢ 0
      → first (drop i D) ≡ first D → first (drop (i + 1) D) ≡ first D
  unfolding first_reason blocks
  reason_next h e q =
      sym (rw (add-one, drop-cons D i 0, ne_eqb _ 0 e, and_no)) ∙ q

  pub reason_none : length D ≤ i → first (drop i D) ≡ first D → entry_of k None ≡ first (row t k)
  unfolding first_reason
  reason_none h q = sym (rw (drop_of_length-le D h)) ∙ q ∙ ap first whole
