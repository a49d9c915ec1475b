use Rattle.std.proofs.Common.{refl, sym, ◌∙◌, ℕ, arith}
use lib.ListN.{length-replicate}
use Rattle.rules.specs.Walk.{every_to}
use Rattle.rules.proofs.Walks.{every_to_next, every_to_fails}
use Rattle.table.specs.Limits.{base}
use Rattle.table.specs.Lent.{lent}
use Rattle.table.proofs.Soundness.{row_tested}
use Rattle.table.proofs.Stamps.{stamped_zeros}
use Rattle.table.proofs.Table.clauses_sound.Goals as goal

pub loop-k-init : goal.loop-k-init
unfolding every_to
loop-k-init c = record { size = length-replicate {A = ℕ} 4002 0; stamped = stamped_zeros 4002; sound = refl }

pub returns-then-not-clause_sound : goal.returns-then-not-clause_sound
returns-then-not-clause_sound c =
    sym (every_to_fails _ _ c.loop-k.k
    (sym (row_tested base (lent c.args.self.now) _ _ c.row-c.ensures.contents)
    ∙ sym c.clause_sound.ensures.answer
    ∙ c.if-not-clause_sound.true) (omega arith))

pub loop-k-preserved : goal.loop-k-preserved
loop-k-preserved c = record {
  size = c.clause_sound.auto.seen ∙ c.loop-k.invariant.size;
  stamped = c.clause_sound.ensures.stamps;
  sound = every_to_next _ c.loop-k.k c.loop-k.invariant.sound
      (sym (row_tested base (lent c.args.self.now) _ _ c.row-c.ensures.contents)
      ∙ sym c.clause_sound.ensures.answer
      ∙ c.if-not-clause_sound.false);
}
