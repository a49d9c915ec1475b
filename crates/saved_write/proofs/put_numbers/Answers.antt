use mathlib.Core.Path.{◌≡◌, refl, ap, ◌∙◌}
use Prim.Native.Nat.{ℕ, ◌*◌, ◌<◌}
use native.Mathlib.Omega.{arith}
use lib.ListN.{length, take, length-take, length-drop}
use lib.Seq.{take_all, length-take-le}
use borrow.Author.Rules.{rules}
use Rattle.table.specs.Stack.{lay}
use Rattle.table.proofs.Laying.{tail_laid}
use Rattle.saved.specs.Bytes.{bytes_of}
use Rattle.saved.proofs.Digits.{length_bytes}
use Rattle.saved_write.proofs.Laying.{bytes_more}
use Rattle.saved_write.proofs.put_numbers.Goals as goal

pub loop-i-init : goal.loop-i-init
unfolding lay bytes_of
loop-i-init c = (refl, refl)

pub put_number-requires : goal.put_number-requires
put_number-requires c = simp (length-take, length-drop) (omega arith)

pub loop-i-preserved : goal.loop-i-preserved
loop-i-preserved c =
    let l = c.loop-i in
    let a = c.args in
    let h : l.i < length a.xs.now = omega arith in
    let d = bytes_of 2 (take l.i a.xs.now) in
    let n : length d ≡ 2 * l.i = length_bytes 2 (take l.i a.xs.now) ∙ ap (λ (z : ℕ). 2 * z) (length-take-le l.i a.xs.now (omega arith)) in
    (search rules, rw (bytes_more a.xs.now l.i h) (tail_laid d _ _ _ _ _ l.invariant.1 n c.put_number.ensures))

pub returns : goal.returns
returns c =
    let xs = c.args.xs.now in
    c.loop-i.invariant.1 ∙ rw (take_all c.loop-i.i xs (search rules))
