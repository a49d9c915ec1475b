use mathlib.Core.Path.{◌≡◌}
use mathlib.Core.Bool.{false}
use Prim.Native.Nat.{ℕ, ◌≤◌, ◌<◌}
use lib.ListN.{get_or}
use Rattle.words.proofs.Scans as Scans
use Rattle.words.proofs.token_end.Given as goal

abbrev pub invariant-loop-i : goal.invariant-loop-i
invariant-loop-i l = record { none : (k : ℕ) → l.from ≤ k → k < l.i → Scans.gap l.section (get_or l.s k 0) ≡ false }
