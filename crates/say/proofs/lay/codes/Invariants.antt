use Rattle.std.proofs.Common.{ℕ, ◌<◌, ◌≤◌, slice_index}
use Rattle.say.proofs.lay.codes.Given as goal

abbrev pub invariant-loop-i : goal.invariant-loop-i
invariant-loop-i l = record {
  low : (k : ℕ) → k < l.i → 2 ≤ slice_index l.lits k;
  high : (k : ℕ) → k < l.i → slice_index l.lits k ≤ 4001;
}
