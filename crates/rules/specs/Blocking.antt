-- The blocking rule (document 01, 'The blocking rule'; source document 002, Definition 2), and what a notion of blocking is. Assumes nothing.
use Rattle.std.specs.Prelude.{Bool, not, ◌&&◌, List, ◌++◌, ℕ}
use Rattle.rules.specs.Clause.{Clause, Values, neg, mem, without, tautology, flip}

-- D keeps the literal l from blocking C: D holds the negation of l, and C together with D without that negation is no tautology
unfoldable pub resists : Clause → ℕ → Clause → Bool
resists C l D = mem (neg l) D && not (tautology (C ++ without (neg l) D))

-- A notion of blocking: the reasons by which a clause may go, in the order in which they are tried; whether r can be a reason for C at all; whether
-- a live clause D keeps r from blocking C; what the walk of rebuild does to the values for r.
pub record Notion : Type 1 where
  pub Reason : Type 0
  pub reasons : Clause → List Reason
  pub fits : Clause → Reason → Bool
  pub hinders : Clause → Reason → Clause → Bool
  pub mend : Values → Reason → Values

-- Document 01's notion: a reason is a literal of the clause, tried in stored order; the walk flips its variable.
abbrev pub literal : Notion
literal = record {
  Reason = ℕ;
  reasons = λ C. C;
  fits = λ C l. mem l C;
  hinders = resists;
  mend = flip;
}
