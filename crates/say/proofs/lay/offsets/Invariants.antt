use Rattle.std.proofs.Common.{◌≡◌, ℕ, ◌<◌, slice_index}
use Rattle.say.specs.Lay.{offset_at}
use Rattle.say.proofs.lay.offsets.Given as goal

abbrev pub invariant-loop-offset : goal.invariant-loop-offset
invariant-loop-offset l = record {
  next : l.next ≡ offset_at l.step l.offset-index;
  each : (k : ℕ) → k < l.offset-index → slice_index l.offs k ≡ offset_at l.step k;
}
