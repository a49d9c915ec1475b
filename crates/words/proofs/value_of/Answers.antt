use native.Mathlib.Omega.{arith}
use mathlib.Core.Path.{sym, ◌∙◌}
use Rattle.words.proofs.Digits as Digits
use Rattle.words.proofs.value_of.Goals as goal

pub returns-in_err-d : goal.returns-in_err-d
returns-in_err-d c =
    let l = c.loop-b in
    c.from_residual.ensures ∙ sym (l.invariant.rest ∙ Digits.step_off c.args.token.now l.b-index l.n (omega arith) (sym c.digit_of.ensures ∙ c.in_err-d.was))

pub loop-b-preserved : goal.loop-b-preserved
loop-b-preserved c =
    let l = c.loop-b in record {
      rest = l.invariant.rest ∙ Digits.step_on c.args.token.now l.b-index l.n (omega arith) c.in_ok-d.d _ (sym c.digit_of.ensures ∙ c.in_ok-d.was) (omega arith);
      capped = omega arith;
    }

pub returns : goal.returns
returns c =
    let l = c.loop-b in
    sym (l.invariant.rest ∙ Digits.step_end c.args.token.now l.b-index l.n (omega arith) l.invariant.capped)
