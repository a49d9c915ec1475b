use Rattle.std.proofs.Common.{◌≡◌, true}
use Rattle.rules.specs.Walk.{every_to}
use Rattle.table.specs.Lent.{lent}
use Rattle.table.specs.Table.{rises}
use Rattle.table.proofs.Table.offsets_rise.Given as goal

abbrev pub invariant-loop-k : goal.invariant-loop-k
invariant-loop-k l = every_to (rises (lent l.self)) l.k ≡ true
