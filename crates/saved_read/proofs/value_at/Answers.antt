use mathlib.Core.Path.{◌≡◌, sym}
use Prim.Native.Nat.{◌+◌, ◌-◌, ◌*◌}
use native.Mathlib.Omega.{arith}
use lib.ListN.{length, get_or, take, drop, length-drop}
use borrow.Author.Rules.{rules}
use Rattle.table.proofs.Laying.{tail_is}
use Rattle.saved.specs.Field.{length_of, tag_of, value_of}
use Rattle.saved_read.proofs.Found.{value_cut, value_short, value_other, value_whole}
use Rattle.saved_read.proofs.value_at.Goals as goal
use Rattle.saved_read.proofs.value_at.Goals.{then-rest-len-via-then-rest-len, then-rest-len-via-else-rest-len+then-found-tag}

pub returns-in_default : goal.returns-in_default
returns-in_default c =
    sym (value_cut c.args.bytes.now c.args.at c.args.tag (rw (tail_is c.args.bytes.now c.args.at) at c.in_default.len_below))

pub returns-then-rest-len : goal.returns-then-rest-len
unfolding length_of tag_of
returns-then-rest-len c =
    let b = c.args.bytes.now in
    let at = c.args.at in
    let e = tail_is b at in
    let d = length-drop 3 (drop at b) in
    let n : c.from-len.result ≡ get_or (take (length b - at) (drop at b)) 1 0 * 256 + get_or (take (length b - at) (drop at b)) 2 0 = search rules in
    let m : c.from-len.result ≡ length_of (drop at b) = rw e at n in
    let k = rw e at c.in-len3-up.len_at_least in
    elim c.then-rest-len.branch [
      | then-rest-len-via-then-rest-len w ↦
          let l = rw (e, tail_is (drop at b) 3) at w.if-rest-len.true in
          sym (value_short b at c.args.tag k (omega arith))
      | then-rest-len-via-else-rest-len+then-found-tag w ↦
          let l = rw (e, tail_is (drop at b) 3) at w.if-rest-len.false in
          sym (value_other b at c.args.tag k (omega arith) (rw e at w.if-found-tag.true))
    ]

pub returns : goal.returns
unfolding length_of tag_of value_of
returns c =
    let b = c.args.bytes.now in
    let at = c.args.at in
    let e = tail_is b at in
    let d = length-drop 3 (drop at b) in
    let n : c.from-len.result ≡ get_or (take (length b - at) (drop at b)) 1 0 * 256 + get_or (take (length b - at) (drop at b)) 2 0 = search rules in
    let m : c.from-len.result ≡ length_of (drop at b) = rw e at n in
    let k = rw e at c.in-len3-up.len_at_least in
    let l = rw (e, tail_is (drop at b) 3) at c.if-rest-len.false in
    rw (e, tail_is (drop at b) 3, m) (sym (value_whole b at c.args.tag k (omega arith) (rw e at c.if-found-tag.false)))
