use Rattle.std.proofs.Common.{refl, ◌∙◌}
use Rattle.removal.proofs.Desks.{turns_none, turns_next}
use Rattle.removal.proofs.Desk.sweep.Goals as goal

pub loop-k-init : goal.loop-k-init
loop-k-init c = record { index = refl; made = turns_none _; same_lend = refl }

pub loop-k-preserved : goal.loop-k-preserved
loop-k-preserved c =
    let h = c.loop-k.invariant in
    record {
      index = c.take_turn.ensures.index ∙ h.index;
      made = turns_next _ c.loop-k.k h.made (rw h.index at c.take_turn.ensures.made);
      same_lend = c.take_turn.ensures.same_lend ∙ h.same_lend;
    }
