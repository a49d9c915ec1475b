use mathlib.Core.Path.{◌≡◌}
use native.Mathlib.Omega.{arith}
use lib.ListN.{length}
use borrow.Author.Rules.{rules}
use Rattle.std.proofs.lemmas.Grind.{common_steps}
use Rattle.saved_read.specs.Inner.{head_as}
use Rattle.saved_read.proofs.Found.{value_found, end_lost, end_long, end_total, end_more, end_right}
use Rattle.saved_read.proofs.read_end.Goals as goal
use Rattle.saved_read.proofs.read_end.Goals.{then-not-is_empty-via-then-not-is_empty, then-not-is_empty-via-else-not-is_empty+then-literals-head}

pub returns-in_err-value : goal.returns-in_err-value
returns-in_err-value c =
    let z = end_lost c.args.bytes.now c.args.at (head_as c.args.head.now) c.args.literals _ c.in_err-value.ensures in rw z (search rules)

pub returns-then-not-is_empty : goal.returns-then-not-is_empty
returns-then-not-is_empty c =
    let f = value_found c.args.bytes.now c.args.at 127 _ c.in_ok-value.ensures in
    elim c.then-not-is_empty.branch [
      | then-not-is_empty-via-then-not-is_empty w ↦
          rw (end_long c.args.bytes.now c.args.at (head_as c.args.head.now) c.args.literals _ f (grind (arith, common_steps)))
      | then-not-is_empty-via-else-not-is_empty+then-literals-head w ↦
          let z : length c.in_ok-value.value.now ≡ 0 = grind (arith, common_steps) in
          rw (end_total c.args.bytes.now c.args.at (head_as c.args.head.now) c.args.literals _ f z w.if-literals-head.true)
    ]

pub returns-then-at-bytes : goal.returns-then-at-bytes
returns-then-at-bytes c =
    let f = value_found c.args.bytes.now c.args.at 127 _ c.in_ok-value.ensures in
    let z : length c.in_ok-value.value.now ≡ 0 = grind (arith, common_steps) in
    rw (end_more c.args.bytes.now c.args.at (head_as c.args.head.now) c.args.literals _ f z c.if-literals-head.false c.if-at-bytes.true)

pub returns : goal.returns
returns c =
    let f = value_found c.args.bytes.now c.args.at 127 _ c.in_ok-value.ensures in
    let z : length c.in_ok-value.value.now ≡ 0 = grind (arith, common_steps) in
    rw (end_right c.args.bytes.now c.args.at (head_as c.args.head.now) c.args.literals _ f z c.if-literals-head.false c.if-at-bytes.false)
