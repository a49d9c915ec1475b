use mathlib.Core.Path.{sym, ◌∙◌}
use Prim.Native.Nat.{◌<◌}
use native.Mathlib.Numerals.{add-one}
use native.Mathlib.Omega.{arith}
use borrow.Author.Tests.{ne_eqb}
use lib.ListN.{length}
use lib.Seq.{take_all}
use Rattle.rules.proofs.Members.{mem_nil, mem_at, mem_next}
use Rattle.saved.specs.Bytes.{numbers_of}
use Rattle.saved_read.proofs.Numbers.{length_numbers}
use Rattle.saved_read.proofs.holds.Goals as goal

pub loop-i-init : goal.loop-i-init
loop-i-init c = mem_nil c.args.x

pub returns-then-number_at-x : goal.returns-then-number_at-x
returns-then-number_at-x c =
    let C = numbers_of 2 c.args.v.now in
    let n = length_numbers c.args.v.now in
    let l : c.loop-i.i < length C = omega arith in
    sym (rw (sym c.number_at.ensures ∙ c.if-number_at-x.true) at (mem_at C c.loop-i.i l))

pub loop-i-preserved : goal.loop-i-preserved
loop-i-preserved c =
    let C = numbers_of 2 c.args.v.now in
    let n = length_numbers c.args.v.now in
    let l : c.loop-i.i < length C = omega arith in
    rw (add-one c.loop-i.i)
    (mem_next c.args.x C c.loop-i.i l ∙ rw (c.loop-i.invariant, ne_eqb c.args.x _ (λ e. c.if-number_at-x.false (c.number_at.ensures ∙ sym e))))

pub returns : goal.returns
returns c =
    let C = numbers_of 2 c.args.v.now in
    let n = length_numbers c.args.v.now in
    sym (rw (take_all c.loop-i.i C (omega arith)) at c.loop-i.invariant)
