use Rattle.std.proofs.Common.{sym, ◌∙◌}
use Rattle.index.specs.Index.{live_of}
use Rattle.index.proofs.Reasons.{turn_live, turn_gone}
use Rattle.index.proofs.Index.turn_of.Goals as goal

pub returns-then-live-k : goal.returns-then-live-k
unfolding live_of
returns-then-live-k c = c.first_blocking.ensures ∙ sym (turn_live _ _ _ c.if-live-k.true)

pub returns : goal.returns
unfolding live_of
returns c = sym (turn_gone _ _ _ c.if-live-k.false)
