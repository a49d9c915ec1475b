use native.Mathlib.Omega.{arith}
use mathlib.Core.Path.{◌≡◌, ap, sym, ◌∙◌}
use Prim.Native.Nat.{min}
use lib.ListN.{length}
use Rattle.std.specs.Prelude.{option_map}
use Rattle.std.proofs.Common.{rules}
use Rattle.std.proofs.lemmas.Slice.{between_to_end}
use Rattle.words.specs.declared.Number.TheVariants.{Plain, Negative}
use Rattle.words.specs.Numbers.{natural}
use Rattle.words.specs.Inner.{capped}
use Rattle.words.proofs.Digits as Digits
use Rattle.words.proofs.number_of.Goals as goal

pub returns-in-48 : goal.returns-in-48
returns-in-48 c = ap capped (sym (Digits.number_zero c.args.token.now (omega arith) (search rules)))

pub returns-in-45 : goal.returns-in-45
returns-in-45 c =
    let w = c.args.token.now in
    let m : c.map.result ≡ option_map Negative c.natural.result = search rules in
    let n = c.natural.ensures ∙ ap (λ x. option_map (min 1000000) (natural x)) (between_to_end w 1 (length w) (omega arith)) in
    m ∙ ap (option_map Negative) n ∙ sym (Digits.capped_minus _) ∙ sym (ap capped (Digits.number_minus w (search rules) (search rules)))

pub returns-in_default : goal.returns-in_default
returns-in_default c =
    let m : c.map-in_default.result ≡ option_map Plain c.natural-in_default.result = search rules in
    m ∙ ap (option_map Plain) c.natural-in_default.ensures ∙ sym (Digits.capped_plain _) ∙ sym (ap capped (Digits.number_plain c.args.token.now (search rules) (search rules)))
