use mathlib.Core.Path.{◌≡◌}
use Prim.Native.Nat.{◌≤◌, min}
use lib.ListN.{drop}
use Rattle.std.specs.Prelude.{option_map}
use Rattle.words.specs.Numbers.{digits}
use Rattle.words.proofs.value_of.Given as goal

abbrev pub invariant-loop-b : goal.invariant-loop-b
invariant-loop-b l = record {
  rest : option_map (min 1000000) (digits 0 l.token) ≡ option_map (min 1000000) (digits l.n (drop l.b-index l.token));
  capped : l.n ≤ 1000000;
}
