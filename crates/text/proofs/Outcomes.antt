-- The reader's parts put together: what each answer leaves. Assumes nothing.
use mathlib.Core.Path.{◌≡◌, ap, sym, ◌∙◌}
use mathlib.Core.Bool.{true, false}
use mathlib.Core.List.{List, [], ◌∷◌}
use Prim.Native.Nat.{ℕ, ◌<◌, ◌≤◌}
use lib.ListN.{length, drop, take}
use borrow.Author.Tests.{le-leb, lt-leb}
use Rattle.table.specs.declared.Refusal.{Refusal}
use Rattle.table.specs.declared.Refusal.TheVariants.{BadText, OverLimit, NoRoom}
use Rattle.table.specs.Answer.{paper, answered}
use Rattle.table.specs.Limits.{Limits, base}
use Rattle.table.specs.Table.{Table}
use Rattle.table.specs.Stack.{lay}
use Rattle.words.specs.Bytes.{begins}
use Rattle.words.specs.Tokens.{tokens_from}
use Rattle.table.specs.Res.{Res, ◌>>=◌}
use Rattle.text.specs.Lines.{prologue, line_end}
use Rattle.text.specs.Problem.{from_p, problem}
use Rattle.text.specs.Text.{TableOutcome, table_outcome, as_table, table_of, left, reading}
use Rattle.text.specs.Inner.{clauses_from, lits_of, offs_of}
use Rattle.std.specs.Prelude.{Err, Ok}
use Rattle.words.specs.declared.Section.TheVariants.{ProblemLine}

module _ (lim : Limits) (s : List ℕ) (start end : ℕ) where
  pub problem_yes : begins 112 (drop start s) ≡ true → problem lim s start end ≡ from_p lim end (tokens_from ProblemLine (take end s) start)
  unfolding problem
  problem_yes h = rw (h, problem)

  pub problem_no : begins 112 (drop start s) ≡ false → problem lim s start end ≡ Err (BadText start)
  unfolding problem
  problem_no h = rw (h, problem)

pub table_is : (s : List ℕ) (start end : ℕ) (h : Res (ℕ × ℕ)) → start ≡ prologue false 0 s → end ≡ line_end start (drop start s) → problem base s start end ≡ h
    → table_of base s ≡ (h >>= λ c. as_table c.0 c.1 (clauses_from s end c.0 c.1))
unfolding table_of
table_is s start end h p l q = rw (← p, ← l, q)

-- a refusal leaves the buffers as they came
pub refused : (t : Res Table) (r : Refusal) → t ≡ Err r → (lits offs : List ℕ) → table_outcome (paper r) lits offs ≡ left t lits offs
refused t r e lits offs = ap (λ (u : Res Table). left u lits offs) (sym e)

-- a success lays the literals and the offsets at their start
pub filled : (n m : ℕ) (r : Res (List ℕ × List ℕ)) (b : List ℕ × List ℕ) → r ≡ Ok b → (lits₀ offs₀ lits offs : List ℕ) → lits ≡ lay (lits_of r) lits₀ → offs ≡ lay (offs_of r) offs₀
    → table_outcome (answered (n ∷ m ∷ [])) lits offs ≡ left (as_table n m r) lits₀ offs₀
filled n m r b e lits₀ offs₀ lits offs l o =
    rw (l, o) (ap (λ (q : Res (List ℕ × List ℕ)). table_outcome (answered (n ∷ m ∷ [])) (lay (lits_of q) lits₀) (lay (offs_of q) offs₀)) e ∙ ap (λ (q : Res (List ℕ × List ℕ)). left (as_table n m q) lits₀ offs₀) (sym e))

pub same_left : (t u : Res Table) → t ≡ u → (o : TableOutcome) (lits offs : List ℕ) → o ≡ left u lits offs → o ≡ left t lits offs
same_left t u e o lits offs h = h ∙ ap (λ (v : Res Table). left v lits offs) (sym e)

-- the tests in their order
module _ (s lits offs : List ℕ) where
  pub no_lits : length lits < 16000 → table_outcome (paper NoRoom) lits offs ≡ reading base s lits offs
  unfolding reading
  no_lits h = rw (lt-leb 16000 (length lits) h)

  module _ (h : 16000 ≤ length lits) where
    pub no_offs : length offs < 4001 → table_outcome (paper NoRoom) lits offs ≡ reading base s lits offs
    unfolding reading
    no_offs k = rw (le-leb 16000 (length lits) h, lt-leb 4001 (length offs) k)

    module _ (k : 4001 ≤ length offs) where
      pub too_long : 65536 < length s → table_outcome (paper (OverLimit 0)) lits offs ≡ reading base s lits offs
      unfolding reading
      too_long t = rw (le-leb 16000 (length lits) h, le-leb 4001 (length offs) k, lt-leb (length s) 65536 t)

      pub tests_pass : length s ≤ 65536 → left (table_of base s) lits offs ≡ reading base s lits offs
      unfolding reading
      tests_pass t = rw (le-leb 16000 (length lits) h, le-leb 4001 (length offs) k, le-leb (length s) 65536 t)
