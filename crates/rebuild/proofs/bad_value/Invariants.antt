use Rattle.std.proofs.Common.{◌≡◌}
use Rattle.rules.specs.Walk.{least}
use Rattle.table.specs.Values.{bad_byte}
use Rattle.rebuild.proofs.bad_value.Given as goal

abbrev pub invariant-loop-i : goal.invariant-loop-i
invariant-loop-i l = least (bad_byte l.vals) l.i ≡ 0
