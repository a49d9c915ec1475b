use native.Mathlib.Omega.{arith}
use mathlib.Core.Path.{ap, sym, ◌∙◌}
use lib.ListN.{length}
use Rattle.std.specs.Prelude.{Some, None, unwrap_or}
use Rattle.words.proofs.Scans as Scans
use Rattle.words.proofs.token_end.Goals as goal

pub returns-then-gap_at : goal.returns-then-gap_at
returns-then-gap_at c =
    let a = c.args in
    let l = c.loop-i in
    ap (λ o. unwrap_or o (length a.s.now))
    (Scans.first_is (Scans.gap a.section) a.s.now a.from c.requires (Some l.i)
    (omega (arith, l.auto.i), c.loop-i-test.true, sym c.gap_at.ensures ∙ c.if-gap_at.true, l.invariant.none))

pub returns : goal.returns
returns c =
    let a = c.args in
    let l = c.loop-i in
    ap (λ o. unwrap_or o (length a.s.now))
    (Scans.first_is (Scans.gap a.section) a.s.now a.from c.requires None
    (λ k x y. l.invariant.none k x (omega (arith, c.loop-i-test.false))))
