use mathlib.Core.Path.{◌≡◌, refl}
use Prim.Native.Nat.{◌*◌}
use native.Mathlib.Omega.{arith}
use lib.ListN.{length, take}
use lib.Seq.{length-take-le}
use Rattle.table.specs.Stack.{lay}
use Rattle.std.proofs.lemmas.Result.{err_from_is_err_and}
use Rattle.table.proofs.Soundness.{sound_of}
use Rattle.saved_read.proofs.hand_out.Goals as goal

pub check_entries-requires : goal.check_entries-requires
check_entries-requires c = omega (arith, (sound_of _ c.args.opened.now.book.sound).clauses)

pub returns-in_err-check_entries : goal.returns-in_err-check_entries
returns-in_err-check_entries c =
    let p = err_from_is_err_and c.from_residual.result c.from_residual.ensures.1 in
    rw (p.1, p.2, c.in_err-check_entries.ensures) refl

pub returns : goal.returns
unfolding lay
returns c =
    let o = c.args.opened.now in
    let r = o.passed.room in
    let n = o.passed.count in
    let l : length (take (2 * o.stack.count) o.stack.words.now) ≡ 2 * o.stack.count = length-take-le (2 * o.stack.count) o.stack.words.now (omega arith) in
    rw (c.in_ok-check_entries.ensures.none_unblocked, c.copy_from_slice.ensures.after, c.copy_from_slice-2.ensures.after, c.copy_from_slice-3.ensures.after, l)
