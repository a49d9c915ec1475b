use Rattle.std.proofs.Common.{◌+◌, ℕ, ◌∙◌, arith}
use lib.ListN.{length-replicate}
use Rattle.table.proofs.Soundness.{sound_of}
use Rattle.table.proofs.Stamps.{stamped_zeros}
use Rattle.index.proofs.Plains.{row_sound, plain_mark}
use Rattle.index.proofs.mark_plain.Goals as goal

pub loop-k-init : goal.loop-k-init
loop-k-init c = record { size = length-replicate {A = ℕ} 4002 0; stamped = stamped_zeros 4002; plain = λ j a b e. absurd (omega arith) }

pub overflow_cast-k : goal.overflow_cast-k
overflow_cast-k c = omega (arith, (sound_of _ c.args.t.now.sound).clauses)

pub clause_plain-requires-clause-limits : goal.clause_plain-requires-clause-limits
clause_plain-requires-clause-limits c = ((sound_of _ c.args.t.now.sound).variables, omega arith, c.loop-k.invariant.size)

pub clause_plain-requires-clause-clause_sound : goal.clause_plain-requires-clause-clause_sound
clause_plain-requires-clause-clause_sound c = row_sound _ (c.loop-k.k + 1) _ c.row-c.ensures.contents (omega arith) (omega arith) (sound_of _ c.args.t.now.sound)

pub loop-k-preserved : goal.loop-k-preserved
loop-k-preserved c =
    let h = c.loop-k in record {
      size = c.clause_plain.auto.seen ∙ h.invariant.size;
      stamped = c.clause_plain.ensures.stamps;
      plain = plain_mark _ h.plain h.k _ c.row-c.ensures.contents _ c.clause_plain.ensures.plain (omega arith) h.invariant.plain;
    }
