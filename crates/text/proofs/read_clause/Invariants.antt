use mathlib.Core.Path.{◌≡◌}
use mathlib.Core.List.{[]}
use Prim.Native.Nat.{◌-◌, ◌≤◌}
use lib.ListN.{length, drop, take}
use Rattle.words.specs.declared.Section.TheVariants.{Clauses}
use Rattle.words.specs.Tokens.{tokens_from}
use Rattle.text.specs.Clauses.{clause}
use Rattle.text.proofs.read_clause.Given as goal

abbrev pub invariant-loop-t : goal.invariant-loop-t
invariant-loop-t l = record {
  same : clause l.n l.room (length l.text) [] (tokens_from Clauses l.text l.from) ≡ clause l.n l.room (length l.text) (take l.count l.kept) (tokens_from Clauses l.text l.at);
  room : l.count ≤ l.room;
  from : l.from ≤ l.at;
  within : l.at ≤ length l.text;
  long : length l.kept ≡ length l.initial.kept;
  rest : drop l.count l.kept ≡ drop l.count l.initial.kept;
}

abbrev pub decreases-loop-t : goal.decreases-loop-t
decreases-loop-t l = length l.text - l.at
