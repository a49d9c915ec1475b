use mathlib.Core.Path.{◌≡◌, sym, ap, ◌∙◌}
use mathlib.Core.List.{List}
use Prim.Native.Nat.{ℕ}
use native.Mathlib.Omega.{arith}
use Rattle.std.specs.Prelude.{Ok}
use Rattle.table.specs.Answer.{test}
use Rattle.table.specs.declared.Refusal.TheVariants.{BadSaved}
use Rattle.table.specs.Res.{or_fault}
use Rattle.saved.specs.Bytes.{numbers_of}
use Rattle.saved_read.specs.Inner.{heads_of, head_as, sound_on, front_of, line_on}
use Rattle.saved_read.proofs.Numbers.{heads_few}
use Rattle.saved_read.proofs.Found.{line_odd, line_short, line_many, line_full, line_is}
use Rattle.saved_read.proofs.read_line.Goals as goal
use Rattle.saved_read.proofs.read_line.Goals.{After-sound_line, then-value-ne0-via-then-value-ne0, then-value-ne0-via-else-value-ne0+then-value-heads, then-count-gt1000-via-then-count-gt1000, then-count-gt1000-via-else-count-gt1000+then-before-count-gt16000}

-- what is left to test once the lengths are within the limits
module _ (c : After-sound_line) where
  abbrev numbers : List ℕ
  numbers = numbers_of 2 c.args.value.now

  left : line_on c.args.kind (head_as c.args.head.now) c.args.before.now.literals c.args.before.now.last c.args.before.now.parts.now c.args.value.now c.args.at
      ≡ or_fault
      (test (sound_on c.args.kind (head_as c.args.head.now) c.args.before.now.last c.args.before.now.parts.now numbers) (BadSaved c.args.at))
      (Ok (front_of c.args.kind numbers))
  left =
      let h = c.heads-heads.ensures in
      line_is c.args.kind (head_as c.args.head.now) _ _ _ c.args.value.now c.args.at (omega arith) (omega arith) (omega arith) (omega arith)

pub returns-then-value-ne0-clause-answer : goal.returns-then-value-ne0-clause-answer
returns-then-value-ne0-clause-answer c =
    let h = c.heads-heads.ensures in
    elim c.then-value-ne0.branch [
      | then-value-ne0-via-then-value-ne0 w ↦ sym (line_odd c.args.kind (head_as c.args.head.now) _ _ _ c.args.value.now c.args.at w.if-value-ne0.true)
      | then-value-ne0-via-else-value-ne0+then-value-heads w ↦
          sym (line_short c.args.kind (head_as c.args.head.now) _ _ _ c.args.value.now c.args.at (omega arith) (omega arith))
    ]

pub returns-then-count-gt1000-clause-answer : goal.returns-then-count-gt1000-clause-answer
returns-then-count-gt1000-clause-answer c =
    let h = c.heads-heads.ensures in
    elim c.then-count-gt1000.branch [
      | then-count-gt1000-via-then-count-gt1000 w ↦
          sym (line_many c.args.kind (head_as c.args.head.now) _ _ _ c.args.value.now c.args.at (omega arith) (omega arith) (omega arith))
      | then-count-gt1000-via-else-count-gt1000+then-before-count-gt16000 w ↦
          sym (line_full c.args.kind (head_as c.args.head.now) _ _ _ c.args.value.now c.args.at (omega arith) (omega arith) (omega arith) (omega arith))
    ]

pub returns-then-value-ne0-clause-stamps : goal.returns-then-value-ne0-clause-stamps
returns-then-value-ne0-clause-stamps c = λ x. omega (arith, c.requires.stamped x)

pub returns-then-count-gt1000-clause-stamps : goal.returns-then-count-gt1000-clause-stamps
returns-then-count-gt1000-clause-stamps c = λ x. omega (arith, c.requires.stamped x)

pub sound_line-requires-clause-heads : goal.sound_line-requires-clause-heads
sound_line-requires-clause-heads c = let h = c.heads-heads.ensures in omega arith

pub returns-then-not-sound_line-clause-answer : goal.returns-then-not-sound_line-clause-answer
returns-then-not-sound_line-clause-answer c =
    sym (left (goal.at.returns-then-not-sound_line-clause-answer c).After-sound_line ∙ rw (sym c.sound_line.ensures.answer ∙ c.if-not-sound_line.true))

pub number_at-number-requires : goal.number_at-number-requires
number_at-number-requires c =
    let h = c.heads-heads.ensures in
    let z = heads_few c.args.kind in
    omega arith

pub number_at-requires : goal.number_at-requires
number_at-requires c =
    let h = c.heads-heads.ensures ∙ ap heads_of c.in-Removed.is in
    omega arith

pub returns-in-Live-clause-answer : goal.returns-in-Live-clause-answer
returns-in-Live-clause-answer c =
    sym
    (left (goal.at.returns-in-Live-clause-answer c).After-sound_line
    ∙ rw (sym c.sound_line.ensures.answer ∙ c.if-not-sound_line.false, c.in-Live.is, c.number_at-number.ensures))

pub returns-in-Removed-clause-answer : goal.returns-in-Removed-clause-answer
returns-in-Removed-clause-answer c =
    sym
    (left (goal.at.returns-in-Removed-clause-answer c).After-sound_line
    ∙ rw (sym c.sound_line.ensures.answer ∙ c.if-not-sound_line.false, c.in-Removed.is, c.number_at-number.ensures, c.number_at.ensures))
