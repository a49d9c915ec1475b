-- What the calls come to, test by test in the order of the refusals. Assumes nothing.
use mathlib.Core.Path.{◌≡◌, sym, ◌∙◌, ap, ap₂}
use mathlib.Core.Bool.{Bool, true, false, not}
use mathlib.Core.List.{List, [], ◌∷◌}
use mathlib.Core.Option.{some}
use Prim.Native.Nat.{ℕ, suc, ◌+◌, ◌*◌, ◌≤◌, ◌<◌}
use borrow.Author.Tests.{le-leb, lt-leb, not-true, not-false}
use lib.ListN.{length}
use Rattle.rules.specs.Blocking.{literal}
use Rattle.rules.specs.Book.{one_to, blocks}
use Rattle.rules.specs.Elimination.{sweeps, next_blocked}
use Rattle.table.specs.Limits.{base}
use Rattle.table.specs.Table.{Table, book_of, sound}
use Rattle.table.specs.Stack.{words, push}
use Rattle.table.specs.Answer.{answered, outcome}
use Rattle.table.specs.declared.Refusal.{Refusal}
use Rattle.table.specs.declared.Refusal.TheVariants.{NoRoom, BadTable, NotBlocking, BadName}
use Rattle.index.specs.Index.{live_of}
use Rattle.stack.specs.Tests.{entry_names, lent_tests, live_after}
use Rattle.stack.specs.Inner.{Open}
use Rattle.stack.proofs.Refusals.{passed_lent}
use Rattle.std.specs.Prelude.{Ok, Err, Option}
use Rattle.table.specs.declared.Entry.{Entry as LentEntry}
use Rattle.removal.specs.Removal.{counted, listed, next_reply, elimination, removal, question}
use Rattle.removal.specs.Inner.{Made}
use Rattle.removal.proofs.Desks.{eliminated}
use Rattle.removal.proofs.Rooms.{Pushable}

module _ (t : Table) (ws : List ℕ) where
  -- elimination: the table is unsound, the stack is too small, or the removals were made
  pub elimination_unsound : sound base t ≡ false → outcome (counted (Err BadTable)) ws ≡ elimination base t ws
  unfolding elimination
  elimination_unsound h = rw h

  pub elimination_narrow : sound base t ≡ true → length ws < 2 * t.clauses → outcome (counted (Err NoRoom)) ws ≡ elimination base t ws
  unfolding elimination
  elimination_narrow h n = rw (h, lt-leb _ _ n)

  pub elimination_made : {marks marks' : List Bool} {ws' : List ℕ} {r : ℕ} → sound base t ≡ true → 2 * t.clauses ≤ length ws → live_of marks ≡ one_to t.clauses
      → Made (sweeps literal (book_of t) (suc t.clauses) (live_of marks)) marks ws 0 marks' ws' r
      → outcome (counted (Ok r)) ws' ≡ elimination base t ws
  unfolding elimination
  elimination_made {marks} {marks'} {ws'} {r} h n a made =
      let q = eliminated t a n made in
      rw (h, le-leb _ _ n) (ap₂ (λ (d : ℕ) (us : List ℕ). outcome (answered (d ∷ [])) us) q.0 q.1)

-- removal and the question, where one of the tests that come first refuses
module _ (t : Table) (ws : List ℕ) (c : ℕ) (r : Refusal) (h : lent_tests base t ws c true ≡ some r) where
  pub removal_refused : (k l : ℕ) → outcome (counted (Err r)) ws ≡ removal base t ws c k l
  unfolding removal
  removal_refused k l = rw h

  pub question_refused : next_reply (Err r) ≡ question base t ws c
  unfolding question
  question_refused = rw h

-- once the stack is open: the removal's entry is bad, or the question is answered
module _ {t : Table} {ws : List ℕ} {c : ℕ} {marks : List Bool} (o : Open t ws c marks) where
  pub removal_unnamed : {r : Bool} (k l : ℕ) → r ≡ entry_names t (live_of marks) (k, l) → r ≡ false
      → outcome (counted (Err BadName)) ws ≡ removal base t ws c k l
  unfolding removal
  removal_unnamed k l e h =
      let n : entry_names t (live_after t ws c) (k, l) ≡ false = rw o.live at (sym e ∙ h) in
      rw (passed_lent t ws c o.passed, n)

  pub question_answered : (o : Option LentEntry) → listed o ≡ next_blocked literal (book_of t) (live_of marks) t.clauses → next_reply (Ok o) ≡ question base t ws c
  unfolding question
  question_answered r e =
      rw (passed_lent t ws c o.passed) (ap (λ s. answered (words s)) e ∙ ap (λ (L : ℕ → Bool). answered (words (next_blocked literal (book_of t) L t.clauses))) o.live)

  -- and once the entry is named: it does not block, or goes on the stack
  module _ {k l : ℕ} {r : Bool} (q : Pushable t ws c k l) (e : r ≡ not (blocks literal (book_of t) (live_of marks) k l)) where
    pub removal_unblocked : r ≡ true → outcome (counted (Err (NotBlocking k))) ws ≡ removal base t ws c k l
    unfolding removal
    removal_unblocked h =
        let b : blocks literal (book_of t) (live_after t ws c) k l ≡ false = not-true _ (rw o.live at (sym e ∙ h)) in
        rw (passed_lent t ws c o.passed, q.names, b)

    pub removal_made : r ≡ false → outcome (counted (Ok (c + 1))) (push ws c k l) ≡ removal base t ws c k l
    unfolding removal
    removal_made h =
        let b : blocks literal (book_of t) (live_after t ws c) k l ≡ true = not-false _ (rw o.live at (sym e ∙ h)) in
        rw (passed_lent t ws c o.passed, q.names, b)
