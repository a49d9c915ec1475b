-- Rebuild's tests in the order of document 01: what the call comes to at the first that refuses, and where none does. Assumes nothing.
use mathlib.Core.Path.{◌≡◌, sym, ◌∙◌}
use mathlib.Core.Bool.{Bool, true}
use mathlib.Core.List.{List, []}
use mathlib.Core.Option.{some}
use Prim.Native.Nat.{ℕ, ◌≤◌}
use borrow.Author.Tests.{leb-true, le-leb}
use lib.Dec.{leb}
use lib.ListN.{length}
use Rattle.std.specs.Prelude.{Ok, Err, Some, None}
use Rattle.rules.specs.Walk.{found}
use Rattle.rules.specs.Rebuild.{falsified}
use Rattle.table.specs.Limits.{base}
use Rattle.table.specs.Table.{Table, book_of}
use Rattle.table.specs.Stack.{lay}
use Rattle.table.specs.Values.{values_of, bytes_of, bad_value}
use Rattle.table.specs.Answer.{answered, verdict, test_at, ◌then◌, outcome, decided}
use Rattle.table.specs.declared.Refusal.{Refusal}
use Rattle.table.specs.declared.Refusal.TheVariants.{NotBlocking, BadValues, NotModel}
use Rattle.table.proofs.Found.{found_none}
use Rattle.table.proofs.Answers.{test_found}
use Rattle.index.specs.Index.{live_of}
use Rattle.stack.specs.Tests.{lent_tests, unblocked_entry, blocking_tests, live_after}
use Rattle.stack.specs.Inner.{Blocking, Passed}
use Rattle.stack.proofs.Refusals.{passed_lent}
use Rattle.rebuild.specs.Rebuild.{rebuilt, rebuilding}
use Rattle.rebuild.specs.Inner.{Valued}
use Rattle.rebuild.proofs.Bytes.{values_good}

-- one of the tests that come first refuses
module _ (t : Table) (ws : List ℕ) (c : ℕ) (vs : List ℕ) where
  pub rebuild_refused : (r : Refusal) → lent_tests base t ws c (leb t.variables (length vs)) ≡ some r
      → outcome (verdict (Err r)) vs ≡ rebuilding base t ws c vs
  unfolding rebuilding
  rebuild_refused r h = rw h

  -- all of them pass: the tests that give a place are left
  module _ (p : Passed t ws c) (room : leb t.variables (length vs) ≡ true) where
    many : t.variables ≤ length vs
    many = leb-true t.variables (length vs) room

    placed : rebuilding base t ws c vs ≡ decided (test_at (unblocked_entry t ws c) NotBlocking
        then test_at (bad_value vs t.variables) BadValues
        then test_at (falsified (book_of t) (live_after t ws c) (values_of vs)) NotModel)
        vs (outcome (answered []) (lay (bytes_of (rebuilt t ws c vs) t.variables) vs))
    unfolding rebuilding
    placed = rw (le-leb t.variables (length vs) many, passed_lent t ws c p)

    pub valued : None ≡ found (bad_value vs t.variables) → Valued t.variables vs
    valued b = record { room = many; bits = values_good vs t.variables (found_none _ b) }

    pub refuses_unblocked : (r : Refusal) → blocking_tests t ws c ≡ some r → outcome (verdict (Err r)) vs ≡ rebuilding base t ws c vs
    refuses_unblocked r h = sym (placed ∙ rw h)

    module _ {marks : List Bool} where
      module _ (k : Blocking t ws c marks) where
        pub refuses_value : (variable : ℕ) → Some variable ≡ found (bad_value vs t.variables)
            → outcome (verdict (Err (BadValues variable))) vs ≡ rebuilding base t ws c vs
        refuses_value variable h = sym (placed ∙ rw (k.none_unblocked, test_found _ BadValues h))

        module _ (b : None ≡ found (bad_value vs t.variables)) where
          bits : bad_value vs t.variables ≡ 0
          bits = found_none _ b

          pub refuses_clause : (clause : ℕ) → Some clause ≡ found (falsified (book_of t) (live_of marks) (values_of vs))
              → outcome (verdict (Err (NotModel clause))) vs ≡ rebuilding base t ws c vs
          refuses_clause clause f = sym (placed ∙ rw (k.none_unblocked, bits, test_found _ NotModel (rw k.live at f)))

          pub accepts : None ≡ found (falsified (book_of t) (live_of marks) (values_of vs))
              → {new : List ℕ} → new ≡ lay (bytes_of (rebuilt t ws c vs) t.variables) vs
              → outcome (verdict (Ok tt)) new ≡ rebuilding base t ws c vs
          accepts f n = sym (placed ∙ rw (k.none_unblocked, bits, found_none _ (rw k.live at f), n))
