use Rattle.std.proofs.Common.{◌≡◌, true, sym, ◌∙◌}
use Rattle.rules.specs.Walk.{every_to}
use Rattle.table.specs.Limits.{base}
use Rattle.table.specs.Lent.{lent}
use Rattle.table.specs.Table.{rises}
use Rattle.table.specs.Inner.{ends_sound}
use Rattle.table.proofs.Soundness.{sound_parts, ends_limits, ends_there, ends_shape}
use Rattle.table.proofs.Table.is_sound.Goals as goal
use Rattle.table.proofs.Table.is_sound.Goals.{Then-offsets_rise, then-ends_sound, else-ends_sound}

pub offsets_rise-requires : goal.offsets_rise-requires
offsets_rise-requires c = ends_there (lent c.args.self.now) (sym c.ends_sound.ensures ∙ c.if-ends_sound.true)

-- both tests before the last one passed
passed : (c : goal.Then-offsets_rise) → (ends_sound base (lent c.args.self.now) ≡ true) × (every_to (rises (lent c.args.self.now)) c.args.self.now.clauses ≡ true)
passed c = elim c.if-ends_sound.branch [
  | then-ends_sound w ↦ (sym c.ends_sound.ensures ∙ w.if-ends_sound.true, sym w.offsets_rise.ensures ∙ sym w.value-is ∙ c.if-offsets_rise.true)
  | else-ends_sound w ↦ cc
]

pub clauses_sound-requires-clause-shape : goal.clauses_sound-requires-clause-shape
clauses_sound-requires-clause-shape c = ends_shape _ (passed c).0 (passed c).1

pub clauses_sound-requires-clause-limits : goal.clauses_sound-requires-clause-limits
clauses_sound-requires-clause-limits c = ends_limits _ (passed c).0

pub returns-then-offsets_rise : goal.returns-then-offsets_rise
returns-then-offsets_rise c =
    let o = c in
    rw (sound_parts base (lent c.args.self.now), (passed (goal.at.returns-then-offsets_rise o).Then-offsets_rise).0, (passed (goal.at.returns-then-offsets_rise o).Then-offsets_rise).1) c.clauses_sound.ensures

pub returns-else-offsets_rise : goal.returns-else-offsets_rise
returns-else-offsets_rise c = elim c.if-ends_sound.branch [
  | then-ends_sound w ↦ rw (sound_parts base (lent c.args.self.now), sym c.ends_sound.ensures ∙ w.if-ends_sound.true, sym w.offsets_rise.ensures ∙ sym w.value-is ∙ c.if-offsets_rise.false) c.if-offsets_rise.false
  | else-ends_sound w ↦ rw (sound_parts base (lent c.args.self.now), sym c.ends_sound.ensures ∙ w.if-ends_sound.false) c.if-offsets_rise.false
]
