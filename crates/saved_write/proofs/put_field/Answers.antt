use mathlib.Core.Path.{◌≡◌, refl, sym, ap, ◌∙◌}
use mathlib.Core.List.{List, [], ◌∷◌, ◌++◌}
use Prim.Native.Nat.{ℕ, ◌+◌, ◌*◌}
use native.Mathlib.Omega.{arith}
use lib.ListN.{length, length-append}
use Rattle.table.proofs.Laying.{set_first, tail_laid}
use Rattle.saved.specs.Bytes.{digits, bytes_of}
use Rattle.saved.proofs.Digits.{length_bytes}
use Rattle.saved_write.proofs.Laying.{field_parts, put_laid}
use Rattle.saved_write.proofs.put_field.Goals as goal

pub returns : goal.returns
unfolding digits
returns c =
    let a = c.args in
    let o = a.out.now in
    let f = a.front.now in
    let l = a.lits.now in
    let b : List ℕ = a.tag ∷ digits 2 (2 * (length f + length l)) in
    let e₁ = tail_laid (a.tag ∷ []) (digits 2 (2 * (length f + length l))) o _ _ 1 (set_first o a.tag (omega arith)) refl c.put_number.ensures in
    let e₂ = tail_laid b (bytes_of 2 f) o _ _ 3 e₁ refl c.put_numbers.ensures in
    let n : length (b ++ bytes_of 2 f) ≡ 3 + 2 * length f = length-append b (bytes_of 2 f) ∙ ap (λ (z : ℕ). 3 + z) (length_bytes 2 f) in
    let e₃ = tail_laid (b ++ bytes_of 2 f) (bytes_of 2 l) o _ _ (3 + 2 * length f) e₂ n c.put_numbers-2.ensures in
    put_laid a.tag (f ++ l) (field_parts a.tag f l) e₃ (ap (λ (z : ℕ). 3 + 2 * z) (sym (length-append f l)))
