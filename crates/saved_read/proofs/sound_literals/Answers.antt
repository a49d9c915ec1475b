use mathlib.Core.Path.{◌≡◌, sym, ◌∙◌}
use mathlib.Core.List.{List}
use Prim.Native.Nat.{ℕ, ◌<◌}
use native.Mathlib.Omega.{arith}
use lib.ListN.{length, get_or}
use Rattle.table.proofs.Stamps.{marked_start, marked_next, marked_twice, marked_end, uncoded_unsound}
use Rattle.saved.specs.Bytes.{numbers_of}
use Rattle.saved_read.proofs.Numbers.{length_numbers, longest, sound_alone, coded_low, coded_high, coded_right}
use Rattle.saved_read.proofs.sound_literals.Goals as goal
use Rattle.saved_read.proofs.sound_literals.Goals.{After-from-x, then-x-lt2-via-then-x-lt2, then-x-lt2-via-else-x-lt2+then-n-x, then-x-lt2-via-else-x-lt2+else-n-x+then-seen-x}

-- the next literal
module _ (c : After-from-x) where
  abbrev C : List ℕ
  C = numbers_of 2 c.args.literals.now

  next : c.from-x.result ≡ get_or C c.loop-i.i 0
  next = c.from-x.ensures ∙ c.number_at.ensures

  there : c.loop-i.i < length C
  there = let n = length_numbers c.args.literals.now in omega arith

pub loop-i-init : goal.loop-i-init
loop-i-init c = marked_start _ _ _ _ c.requires.limits.1 c.requires.limits.2 c.requires.stamped

pub returns-then-x-lt2-clause-answer : goal.returns-then-x-lt2-clause-answer
returns-then-x-lt2-clause-answer c =
    let a = (goal.at.returns-then-x-lt2-clause-answer c).After-from-x in
    let n = c.args.n in
    let s = sound_alone n (C a) in
    let t = there a in
    let e = next a in
    elim c.then-x-lt2.branch [
      | then-x-lt2-via-then-x-lt2 w ↦ sym (sym s ∙ uncoded_unsound (longest (C a)) n (C a) c.loop-i.i t (coded_low n _ (rw e at w.if-x-lt2.true)))
      | then-x-lt2-via-else-x-lt2+then-n-x w ↦ sym (sym s ∙ uncoded_unsound (longest (C a)) n (C a) c.loop-i.i t (coded_high n _ (rw e at w.if-n-x.true)))
      | then-x-lt2-via-else-x-lt2+else-n-x+then-seen-x w ↦ sym (sym s ∙ marked_twice _ _ _ _ _ c.loop-i.invariant (longest (C a)) t (rw e at w.if-seen-x.true))
    ]

pub loop-i-preserved : goal.loop-i-preserved
loop-i-preserved c =
    let a = (goal.at.loop-i-preserved c).After-from-x in
    let e = next a in
    rw e
    (marked_next _ _ _ _ _ c.loop-i.invariant c.requires.limits.0 (there a) (coded_right c.args.n _ (rw e at c.if-x-lt2.false) (rw e at c.if-n-x.false))
    (rw e at c.if-seen-x.false))

pub returns-clause-answer : goal.returns-clause-answer
returns-clause-answer c =
    let xs = numbers_of 2 c.args.literals.now in
    let n = length_numbers c.args.literals.now in
    sym (sym (sound_alone c.args.n xs) ∙ marked_end _ _ _ _ _ c.loop-i.invariant (longest xs) (omega arith) (omega arith))
