use Rattle.std.proofs.Common.{◌≡◌}
use Rattle.rules.specs.Book.{one_to}
use Rattle.index.specs.Index.{live_of}
use Rattle.index.proofs.mark_all.Given as goal

abbrev pub invariant-loop-k : goal.invariant-loop-k
invariant-loop-k l = live_of l.live ≡ one_to l.k
