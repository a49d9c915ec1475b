use mathlib.Core.Path.{refl, sym}
use native.Mathlib.Omega.{arith}
use lib.ListN.{length-set}
use Rattle.table.proofs.Laying.{lay_none, lay_more, lay_done}
use Rattle.saved.specs.Bytes.{numbers_of}
use Rattle.saved_read.proofs.Numbers.{length_numbers}
use Rattle.saved_read.proofs.copy_numbers.Goals as goal

pub loop-i-init : goal.loop-i-init
loop-i-init c =
    (refl, lay_none _)

pub bounds-out-i : goal.bounds-out-i
bounds-out-i c =
    let n = length_numbers c.args.v.now in omega arith

pub loop-i-preserved : goal.loop-i-preserved
loop-i-preserved c =
    let n = length_numbers c.args.v.now in (
      simp length-set c.loop-i.invariant.0,
      lay_more (numbers_of 2 c.args.v.now) c.args.out.now c.loop-i.out c.loop-i.i _ (omega arith) (omega arith) c.number_at.ensures c.loop-i.invariant.1,
    )

pub returns : goal.returns
returns c =
    let n = length_numbers c.args.v.now in
    record { count = sym n; laid = lay_done (numbers_of 2 c.args.v.now) c.args.out.now _ c.loop-i.i (omega arith) c.loop-i.invariant.1 }
