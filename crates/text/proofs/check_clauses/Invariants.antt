use mathlib.Core.Path.{◌≡◌}
use mathlib.Core.List.{List}
use Prim.Native.Nat.{ℕ, ◌-◌, ◌≤◌}
use lib.ListN.{length}
use Rattle.table.specs.Limits.{base}
use Rattle.words.specs.declared.Section.TheVariants.{Clauses}
use Rattle.words.specs.Tokens.{tokens_from}
use Rattle.text.specs.Clauses.{clauses}
use Rattle.text.specs.Inner.{clauses_from}
use Rattle.text.proofs.check_clauses.Given as goal

abbrev pub invariant-loop-k : goal.invariant-loop-k
invariant-loop-k l = record {
  read : List ℕ × List ℕ;
  rest : clauses_from l.text l.from l.counts.variables l.counts.clauses ≡ clauses base l.counts.variables (length l.text) read.0 read.1 (l.counts.clauses - l._k) (tokens_from Clauses l.text l.at);
  total : length read.0 ≡ l.total;
  few : l.total ≤ 16000;
  within : l.at ≤ length l.text;
  room : length l.kept ≡ 1000;
}
