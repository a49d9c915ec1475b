use mathlib.Core.Path.{◌≡◌, refl, sym, ap, ◌∙◌}
use mathlib.Core.Bool.{◌&&◌, not}
use mathlib.Core.List.{List}
use Prim.Native.Nat.{ℕ, ◌-◌, ◌*◌}
use native.Mathlib.Omega.{arith}
use lib.ListN.{length, take, drop}
use Rattle.rules.specs.Walk.{every}
use Rattle.rules.specs.Clause.{mem}
use Rattle.rules.proofs.Logic.{not_not}
use Rattle.table.specs.Table.{coded, distinct}
use Rattle.saved.specs.Bytes.{numbers_of}
use Rattle.saved.specs.Form.{number_of, blocking_of}
use Rattle.saved_read.specs.Inner.{heads_of, head_as, sound_on, block_on, new_on}
use Rattle.saved_read.specs.declared.Kind.{Kind}
use Rattle.saved_read.specs.declared.Kind.TheVariants.{Removed}
use Rattle.saved_read.proofs.Numbers.{numbers_after}
use Rattle.saved_read.proofs.Found.{sound_low, sound_high, sound_is}
use Rattle.saved_read.proofs.sound_line.Goals as goal
use Rattle.saved_read.proofs.sound_line.Goals.{After-heads, then-number-lt1-via-then-number-lt1, then-number-lt1-via-else-number-lt1+then-head-from}

removed_block : (kind : Kind) (x : List ℕ) → kind ≡ Removed → block_on kind x ≡ mem (blocking_of x) (drop (heads_of kind) x)
removed_block kind x e = rw e refl

module _ (c : After-heads) where
  abbrev v : List ℕ
  v = c.args.value.now

  abbrev xs : List ℕ
  xs = numbers_of 2 v

  abbrev literals : List ℕ
  literals = numbers_of 2 (take (length v - 2 * c.heads.result) (drop (2 * c.heads.result) v))

  same : literals ≡ drop (heads_of c.args.kind) xs
  same =
      ap (λ (i : ℕ). numbers_of 2 (take (length v - 2 * i) (drop (2 * i) v))) c.heads.ensures
      ∙ sym (numbers_after (heads_of c.args.kind) v c.requires.heads)

  -- what is left to test once the number is one of 1 to m
  left : sound_on c.args.kind (head_as c.args.head.now) c.args.before.now.last c.args.before.now.parts.now xs
      ≡ (every (coded c.args.head.now.variables) literals && distinct literals && block_on c.args.kind xs
      && new_on c.args.kind c.args.before.now.last c.args.before.now.parts.now (number_of xs))
  left =
      rw same
      (sound_is c.args.kind (head_as c.args.head.now) c.args.before.now.last c.args.before.now.parts.now xs
      (omega (arith, c.number_at-number.ensures)) (omega (arith, c.number_at-number.ensures)))

  block : c.args.kind ≡ Removed → block_on c.args.kind xs ≡ mem (blocking_of xs) literals
  block e = rw same (removed_block c.args.kind xs e)

pub returns-then-number-lt1-clause-answer : goal.returns-then-number-lt1-clause-answer
returns-then-number-lt1-clause-answer c =
    let n = c.number_at-number.ensures in
    elim c.then-number-lt1.branch [
      | then-number-lt1-via-then-number-lt1 w ↦ sym (sound_low c.args.kind (head_as c.args.head.now) _ _ _ (omega arith))
      | then-number-lt1-via-else-number-lt1+then-head-from w ↦ sym (sound_high c.args.kind (head_as c.args.head.now) _ _ _ (omega arith) (omega arith))
    ]

pub returns-then-number-lt1-clause-stamps : goal.returns-then-number-lt1-clause-stamps
returns-then-number-lt1-clause-stamps c = λ x. omega (arith, c.requires.stamped x)

pub returns-then-not-sound_literals-clause-answer : goal.returns-then-not-sound_literals-clause-answer
returns-then-not-sound_literals-clause-answer c =
    let l = left (goal.at.returns-then-not-sound_literals-clause-answer c).After-heads in
    sym (l ∙ rw (sym c.sound_literals.ensures.answer ∙ c.if-not-sound_literals.true))

pub returns-in-Live-clause-answer : goal.returns-in-Live-clause-answer
returns-in-Live-clause-answer c =
    let l = left (goal.at.returns-in-Live-clause-answer c).After-heads in
    sym (l ∙ rw (sym c.sound_literals.ensures.answer ∙ c.if-not-sound_literals.false, c.in-Live.is, c.number_at-number.ensures))

pub returns-then-holds-clause-answer : goal.returns-then-holds-clause-answer
returns-then-holds-clause-answer c =
    let a = (goal.at.returns-then-holds-clause-answer c).After-heads in
    let b = block a c.in-Removed.is ∙ sym (ap (λ (x : ℕ). mem x (literals a)) c.number_at.ensures) ∙ sym c.holds.ensures ∙ c.if-holds.true in
    let y = rw (c.from-then-holds.ensures, c.number_at-number.ensures) at c.is_none.ensures in
    sym
    (left a
    ∙ rw (sym c.sound_literals.ensures.answer ∙ c.if-not-sound_literals.false, b, c.in-Removed.is)
    (ap not y ∙ not_not c.is_none.result))

pub returns-else-holds-clause-answer : goal.returns-else-holds-clause-answer
returns-else-holds-clause-answer c =
    let a = (goal.at.returns-else-holds-clause-answer c).After-heads in
    let b = block a c.in-Removed.is ∙ sym (ap (λ (x : ℕ). mem x (literals a)) c.number_at.ensures) ∙ sym c.holds.ensures ∙ c.if-holds.false in
    c.if-holds.false ∙ sym (left a ∙ rw (sym c.sound_literals.ensures.answer ∙ c.if-not-sound_literals.false, b))
