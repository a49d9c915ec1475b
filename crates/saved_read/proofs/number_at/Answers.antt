use mathlib.Core.Path.{◌≡◌, sym, ◌∙◌}
use Prim.Native.Nat.{◌+◌, ◌*◌}
use native.Mathlib.Omega.{arith}
use lib.ListN.{get_or}
use borrow.Author.Rules.{rules}
use Rattle.saved.proofs.Digits.{number_at}
use Rattle.saved_read.proofs.number_at.Goals as goal

pub returns : goal.returns
returns c =
    let v = c.args.v.now in
    let i = c.args.i in
    let q : c.from_be_bytes.result ≡ get_or v (2 * i) 0 * 256 + get_or v (2 * i + 1) 0 = search rules in
    q ∙ sym (number_at v i (omega arith))
