-- Demand 1 for the writer: a refusal leaves the output as it came, and no second answer meets the contract. Assumes nothing.
use mathlib.Core.Path.{◌≡◌, sym, ◌∙◌, ap}
use mathlib.Core.Bool.{true}
use mathlib.Core.List.{List, [], ◌∷◌}
use Prim.Native.Nat.{ℕ}
use lib.Dec.{leb}
use lib.ListN.{length}
use Rattle.std.specs.Prelude.{Result}
use Rattle.table.specs.Limits.{base}
use Rattle.table.specs.Table.{Table}
use Rattle.table.specs.Stack.{entries}
use Rattle.table.specs.Answer.{refused, test, ◌then◌, Outcome, outcome}
use Rattle.table.specs.declared.Refusal.{Refusal}
use Rattle.table.specs.declared.Refusal.TheVariants.{NoRoom}
use Rattle.table.proofs.Answers.{reply_one_to_one, decided_keeps}
use Rattle.stack.specs.Tests.{lent_tests, blocking_tests}
use Rattle.saved.specs.Field.{narrow}
use Rattle.saved.specs.Form.{encode}
use Rattle.saved.specs.Saved.{writing}
use Rattle.saved_write.specs.Written.{written}

-- a refusal leaves the output as it came
pub write_saved_keeps : (t : Table) (ws : List ℕ) (c : ℕ) (out : List ℕ) (number place : ℕ)
    → (writing base narrow t ws c out).reply ≡ refused number place → (writing base narrow t ws c out).cells ≡ out
unfolding writing
write_saved_keeps t ws c out = decided_keeps
    (lent_tests base t ws c true
    then blocking_tests t ws c
    then test (leb (length (encode narrow t (entries ws c))) (length out)) NoRoom)
    out _ _

-- the answers are told one to one
pub written_one_to_one : (a b : Result ℕ Refusal) → written a ≡ written b → a ≡ b
written_one_to_one a b h = reply_one_to_one _ (λ x y e. same x y e) a b h
  where
    same : (x y : ℕ) → (x ∷ []) ≡ (y ∷ []) → x ≡ y
    same x y e = cc

-- two answers, with what they leave in the output, that are both equal to the definition are the same
pub write_saved_once : (t : Table) (ws : List ℕ) (c : ℕ) (out : List ℕ) (a b : Result ℕ Refusal) (xs ys : List ℕ)
    → outcome (written a) xs ≡ writing base narrow t ws c out → outcome (written b) ys ≡ writing base narrow t ws c out → (a ≡ b) × (xs ≡ ys)
write_saved_once t ws c out a b xs ys h k =
    let e = h ∙ sym k in
    (written_one_to_one a b (ap (λ (o : Outcome). o.reply) e), ap (λ (o : Outcome). o.cells) e)
