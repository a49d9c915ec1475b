use mathlib.Core.Path.{◌≡◌}
use Prim.Native.Nat.{◌≤◌}
use lib.ListN.{length}
use Rattle.table.specs.Lent.{lent}
use Rattle.index.specs.Index.{live_of}
use Rattle.saved_write.specs.Inner.{Put}
use Rattle.saved_write.proofs.Sections.{live_fields}
use Rattle.saved_write.proofs.put_live.Given as goal

abbrev pub invariant-loop-k : goal.invariant-loop-k
invariant-loop-k l =
    (length l.out ≡ length l.initial.out) × (l.at ≤ length l.initial.out) × Put (live_fields (lent l.t.table) (live_of l.live) l.k) l.initial.out l.out l.at
