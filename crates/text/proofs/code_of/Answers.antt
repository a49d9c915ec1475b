use native.Mathlib.Omega.{arith}
use mathlib.Core.Path.{ap, sym, ◌∙◌}
use Rattle.std.specs.Prelude.{Some}
use Rattle.std.proofs.lemmas.Option.{same_Some}
use Rattle.words.proofs.Digits as Digits
use Rattle.text.proofs.code_of.Goals as goal

-- no token says a negative 0
pub returns-in-Negative-clause-literal : goal.returns-in-Negative-clause-literal
returns-in-Negative-clause-literal c = λ e.
    let v = c.in-Negative.v in
    let above = Digits.minus_above c.args.token.now v (sym c.number_of.ensures ∙ c.in_ok-v.was ∙ ap (λ x. Some x) c.in-Negative.is) in
    let s = same_Some _ _ e in
    omega (arith, above)
