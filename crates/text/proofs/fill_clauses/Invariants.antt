use mathlib.Core.Path.{◌≡◌}
use Prim.Native.Nat.{◌+◌, ◌-◌, ◌≤◌}
use lib.ListN.{length, take, drop, set}
use Rattle.table.specs.Limits.{base}
use Rattle.words.specs.declared.Section.TheVariants.{Clauses}
use Rattle.words.specs.Tokens.{tokens_from}
use Rattle.text.specs.Clauses.{clauses}
use Rattle.text.specs.Inner.{clauses_from}
use Rattle.text.proofs.fill_clauses.Given as goal

abbrev pub invariant-loop-k : goal.invariant-loop-k
invariant-loop-k l = record {
  rest : clauses_from l.text l.from l.counts.variables l.counts.clauses ≡ clauses base l.counts.variables (length l.text) (take l.total l.lits) (take (l.k + 1) l.offs) (l.counts.clauses - l.k) (tokens_from Clauses l.text l.at);
  few : l.total ≤ 16000;
  within : l.at ≤ length l.text;
  long_lits : length l.lits ≡ length l.fn.lits;
  lits_behind : drop l.total l.lits ≡ drop l.total l.fn.lits;
  long_offs : length l.offs ≡ length (set l.fn.offs 0 0);
  offs_behind : drop (l.k + 1) l.offs ≡ drop (l.k + 1) (set l.fn.offs 0 0);
}
