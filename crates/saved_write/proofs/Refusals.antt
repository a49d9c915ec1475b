-- The writer's tests in the order of document 01: what the call comes to at the first that refuses, and where none does. Assumes nothing.
use mathlib.Core.Path.{◌≡◌, sym, ◌∙◌}
use mathlib.Core.Bool.{Bool, true}
use mathlib.Core.List.{List, [], ◌∷◌}
use mathlib.Core.Option.{some}
use Prim.Native.Nat.{ℕ, ◌+◌, ◌*◌, ◌≤◌, ◌<◌}
use native.Mathlib.Omega.{arith}
use borrow.Author.Tests.{le-leb, lt-leb}
use lib.Dec.{leb}
use lib.ListN.{length}
use Rattle.table.specs.Limits.{base}
use Rattle.table.specs.Table.{Table, offset}
use Rattle.table.specs.Stack.{entries, lay}
use Rattle.table.specs.Answer.{answered, refused, paper, test, test_at, ◌then◌, outcome, decided}
use Rattle.table.specs.declared.Refusal.{Refusal}
use Rattle.table.specs.declared.Refusal.TheVariants.{NoRoom, NotBlocking}
use Rattle.table.proofs.Stacks.{length_entries}
use Rattle.stack.specs.Tests.{bad_entry, lent_tests, unblocked_entry, blocking_tests}
use Rattle.stack.specs.Inner.{Passed, Blocking}
use Rattle.stack.proofs.Refusals.{passed_lent}
use Rattle.saved.specs.Field.{narrow}
use Rattle.saved.specs.Form.{encode}
use Rattle.saved.specs.Saved.{writing}
use Rattle.saved.proofs.Lengths.{encode_length}

-- the exact length, as it is counted before the first byte is written
pub counted_length : (t : Table) (ws : List ℕ) (c : ℕ) → Passed t ws c
    → length (encode narrow t (entries ws c)) ≡ 14 + 5 * t.clauses + 2 * c + 2 * offset t t.clauses
counted_length t ws c p =
    let e = encode_length t (entries ws c) p.table_sound (unfold bad_entry in p.none_bad) in
    omega (arith, length_entries ws c)

module _ (t : Table) (ws : List ℕ) (c : ℕ) (out : List ℕ) where
  -- one of the tests that come first refuses
  pub writing_refused : (r : Refusal) → lent_tests base t ws c true ≡ some r → outcome (paper r) out ≡ writing base narrow t ws c out
  unfolding writing
  writing_refused r h = rw h

  module _ (p : Passed t ws c) where
    -- all of them pass: those of the entries' literals and of the output's room are left
    left : writing base narrow t ws c out ≡ decided
        (test_at (unblocked_entry t ws c) NotBlocking then test (leb (length (encode narrow t (entries ws c))) (length out)) NoRoom)
        out (outcome (answered (length (encode narrow t (entries ws c)) ∷ [])) (lay (encode narrow t (entries ws c)) out))
    unfolding writing
    left = rw (passed_lent t ws c p)

    pub writing_unblocked : (r : Refusal) → blocking_tests t ws c ≡ some r → outcome (paper r) out ≡ writing base narrow t ws c out
    writing_unblocked r h = sym (left ∙ rw h)

    module _ {marks : List Bool} (k : Blocking t ws c marks) {len : ℕ} (e : len ≡ 14 + 5 * t.clauses + 2 * c + 2 * offset t t.clauses) where
      exact : len ≡ length (encode narrow t (entries ws c))
      exact = e ∙ sym (counted_length t ws c p)

      pub writing_cramped : length out < len → outcome (refused 3 0) out ≡ writing base narrow t ws c out
      writing_cramped l = sym (left ∙ rw (k.none_unblocked, lt-leb _ _ (rw exact at l)))

      pub room_enough : len ≤ length out → length (encode narrow t (entries ws c)) ≤ length out
      room_enough l = rw exact at l

      pub writing_done : len ≤ length out → {new : List ℕ} → new ≡ lay (encode narrow t (entries ws c)) out
          → outcome (answered (len ∷ [])) new ≡ writing base narrow t ws c out
      writing_done l n = sym (left ∙ rw (k.none_unblocked, le-leb _ _ (room_enough l), n, exact))
