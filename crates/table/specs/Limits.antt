-- The limits (document 01, 'How a table lies in memory' and 'The text'). Assumes nothing.
use Rattle.std.specs.Prelude.{ℕ}

pub record Limits : Type 0 where
  pub variables : ℕ
  pub clauses : ℕ
  pub literals : ℕ
  pub clause_literals : ℕ
  pub text_bytes : ℕ

-- at most 2,000 variables, 4,000 clauses, 16,000 literals in all, 1,000 literals in a clause, 65,536 bytes of text
abbrev pub base : Limits
base = record { variables = 2_000; clauses = 4_000; literals = 16_000; clause_literals = 1_000; text_bytes = 65_536 }
