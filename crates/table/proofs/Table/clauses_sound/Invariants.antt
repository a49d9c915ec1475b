use Rattle.std.proofs.Common.{◌≡◌, true, length}
use Rattle.rules.specs.Walk.{every_to}
use Rattle.table.specs.Limits.{base}
use Rattle.table.specs.Lent.{lent}
use Rattle.table.specs.Table.{sound_row}
use Rattle.table.specs.Inner.{Stamped}
use Rattle.table.proofs.Table.clauses_sound.Given as goal

abbrev pub invariant-loop-k : goal.invariant-loop-k
invariant-loop-k l = record {
  size : length l.seen ≡ 4002;
  stamped : Stamped l.seen l.k;
  sound : every_to (sound_row base (lent l.self)) l.k ≡ true;
}
