use Rattle.std.proofs.Common.{◌≡◌, length}
use Rattle.table.specs.Lent.{lent}
use Rattle.table.specs.Inner.{Stamped}
use Rattle.index.specs.Index.{PlainTo}
use Rattle.index.proofs.mark_plain.Given as goal

abbrev pub invariant-loop-k : goal.invariant-loop-k
invariant-loop-k l = record {
  size : length l.seen ≡ 4002;
  stamped : Stamped l.seen l.k;
  plain : PlainTo (lent l.t.table) l.plain l.k;
}
