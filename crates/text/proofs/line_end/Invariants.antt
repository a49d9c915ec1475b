use mathlib.Core.Path.{◌≡◌}
use lib.ListN.{drop}
use Rattle.text.specs.Lines.{line_end}
use Rattle.text.proofs.line_end.Given as goal

abbrev pub invariant-loop-i : goal.invariant-loop-i
invariant-loop-i l = line_end l.from (drop l.from l.text) ≡ line_end l.i (drop l.i l.text)
