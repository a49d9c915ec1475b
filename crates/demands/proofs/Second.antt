-- Demand 2, first sentence: eliminate leaves exactly what the definition of blocked clause elimination leaves, by removals that calls could have made.
-- Assumes nothing.
use mathlib.Core.Path.{◌≡◌, refl, sym, ◌∙◌, ap, subst}
use mathlib.Core.Bool.{true}
use mathlib.Core.List.{List, [], ◌∷◌, ◌++◌, append_assoc, append-nil}
use mathlib.Core.Option.{none}
use Prim.Native.Nat.{ℕ, suc, ◌+◌, ◌*◌, ◌≤◌, ◌<◌}
use native.Mathlib.Omega.{arith}
use lib.ListN.{length}
use Rattle.rules.specs.Walk.{upto}
use Rattle.rules.specs.Blocking.{literal}
use Rattle.rules.specs.Book.{all, less, Entry, after, blocks, valid}
use Rattle.rules.specs.Elimination.{remainder}
use Rattle.rules.proofs.Logic.{and_true}
use Rattle.rules.proofs.Laws.{Stuck, blocks_fits}
use Rattle.rules.proofs.Sweeps.{after_append, eliminate_valid, remainder_stuck, remainder_unique, stuck_next}
use Rattle.rules.proofs.Literals.{literal_sound}
use Rattle.table.specs.Limits.{base}
use Rattle.table.specs.Table.{Table, book_of, sound}
use Rattle.table.specs.Stack.{entries, words, push}
use Rattle.table.proofs.Stacks.{entries_push}
use Rattle.stack.specs.Tests.{entry_names, live_after}
use Rattle.removal.specs.Removal.{removal_tests, removals, elimination, question}
use Rattle.removal.specs.Inner.{push_all}
use Rattle.removal.proofs.Pushes.{push_all_lay}
use Rattle.demands.specs.Calls.{Stack, stack, Call, calls, live}
use Rattle.demands.specs.Demands.{Start, reached, NoneCanGo, NoneBlocked, EliminatesAll, LeavesTheRemainder}
use Rattle.demands.proofs.Reaching.{Valid, count_small, count_below, lent_tests_lem, table_tests_lem, made_call, made_valid, empty_valid, reached_valid}
use Rattle.demands.proofs.Third.{none_stuck}

-- the calls that make the removals of a list
unfoldable calls_of : List (Entry literal) → List Call
calls_of [] = []
calls_of (e ∷ es) = record { clause = e.0; literal = e.1 } ∷ calls_of es

module _ (t : Table) (h : sound base t ≡ true) where
  -- a call that names a live clause with a literal that blocks it passes every test
  tests_pass : (s : Stack) → Valid t s → (k l : ℕ) → live t s k ≡ true → blocks literal (book_of t) (live t s) k l ≡ true
      → removal_tests base t s.words s.count k l ≡ none
  unfolding entry_names
  tests_pass s v k l a b =
      rw (lent_tests_lem t s v h true refl, a, blocks_fits literal (book_of t) (live t s) k l b, b)

  live_push : (s : Stack) → Valid t s → (k l : ℕ) → live t s k ≡ true → live t (stack (push s.words s.count k l) (suc s.count)) ≡ less (live t s) k
  live_push s v k l a = at (omega (arith, v.room, count_below t s v k a))
    where
      at : 2 * s.count + 1 < length s.words → live t (stack (push s.words s.count k l) (suc s.count)) ≡ less (live t s) k
      at r = unfold live_after after in
          (rw (entries_push s.words s.count k l r) (after_append literal (book_of t) (all (book_of t)) (entries s.words s.count) ((k, l) ∷ [])))

  calls_made : (s : Stack) → Valid t s → (es : List (Entry literal)) → valid literal (book_of t) (live t s) es ≡ true
      → calls base t s (calls_of es) ≡ stack (push_all s.words s.count es) (s.count + length es)
  unfolding calls calls_of push_all valid
  calls_made s v [] w = ap (λ (c : ℕ). stack s.words c) (omega arith)
  calls_made s v (e ∷ es) w =
      let q = simp and_true at w in
      let x : Call = record { clause = e.0; literal = e.1 } in
      let n = tests_pass s v e.0 e.1 q.0.0 q.0.1 in
      ap (λ (d : Stack). calls base t d (calls_of es)) (made_call t s x n)
      ∙ (calls_made (stack (push s.words s.count e.0 e.1) (suc s.count)) (made_valid t s x h v n) es
      (rw (live_push s v e.0 e.1 q.0.0) q.1)
      ∙ ap (λ (c : ℕ). stack (push_all (push s.words s.count e.0 e.1) (suc s.count) es) c) (omega arith))

  -- the entries after them
  entries_made : (s : Stack) → Valid t s → (es : List (Entry literal)) → valid literal (book_of t) (live t s) es ≡ true
      → entries (push_all s.words s.count es) (s.count + length es) ≡ entries s.words s.count ++ es
  unfolding push_all valid
  entries_made s v [] w = ap (entries s.words) (omega arith) ∙ sym (append-nil (entries s.words s.count))
  entries_made s v (e ∷ es) w =
      let q = simp and_true at w in
      let x : Call = record { clause = e.0; literal = e.1 } in
      let n = tests_pass s v e.0 e.1 q.0.0 q.0.1 in
      let r : 2 * s.count + 1 < length s.words = omega (arith, v.room, count_below t s v e.0 q.0.0) in
      ap (entries (push_all (push s.words s.count e.0 e.1) (suc s.count) es)) (omega arith)
      ∙ entries_made (stack (push s.words s.count e.0 e.1) (suc s.count)) (made_valid t s x h v n) es
      (rw (live_push s v e.0 e.1 q.0.0) q.1)
      ∙ rw (entries_push s.words s.count e.0 e.1 r) (append_assoc (entries s.words s.count) (e ∷ []) es)

-- what the question answers where nothing is blocked
stuck_none : (t : Table) (s : Stack) → sound base t ≡ true → Valid t s → Stuck literal (book_of t) (live t s) → NoneCanGo t s
unfolding question words
stuck_none t s h v n =
    rw (lent_tests_lem t s v h true refl, stuck_next literal (book_of t) (live t s) n t.clauses)

module _ (t : Table) (ws : List ℕ) (st : Start t ws) where
  -- the stack after the removals of elimination
  after_all : Stack
  after_all = stack (push_all ws 0 (removals t)) (length (removals t))

  removals_valid : valid literal (book_of t) (live t (stack ws 0)) (removals t) ≡ true
  unfolding live_after entries upto after
  removals_valid = eliminate_valid literal (book_of t) literal_sound

  reached_all : reached t ws (calls_of (removals t)) ≡ after_all
  unfolding after_all
  reached_all =
      calls_made t st.table_sound (stack ws 0) (empty_valid t ws st) (removals t) removals_valid
      ∙ ap (λ (c : ℕ). stack (push_all ws 0 (removals t)) c) (omega arith)

  all_valid : Valid t after_all
  all_valid = subst (λ (s : Stack). Valid t s) reached_all (reached_valid t ws st (calls_of (removals t)))

  all_live : live t after_all ≡ remainder literal (book_of t)
  unfolding live_after after_all remainder
  all_live =
      ap (λ (es : List (Entry literal)). after literal (all (book_of t)) es)
      (ap (entries (push_all ws 0 (removals t))) (omega arith)
      ∙ entries_made t st.table_sound (stack ws 0) (empty_valid t ws st) (removals t) removals_valid
      ∙ unfold entries upto in refl)

  all_stuck : Stuck literal (book_of t) (live t after_all)
  all_stuck = rw all_live (remainder_stuck literal (book_of t) literal_sound)

  removals_few : length (removals t) ≤ t.clauses
  unfolding after_all
  removals_few = count_small t after_all all_valid

  -- and that is the stack that eliminate leaves
  eliminated_is : stack (elimination base t ws).cells (length (removals t)) ≡ after_all
  unfolding elimination after_all
  eliminated_is =
      rw (table_tests_lem t ws st)
      (ap (λ (cells : List ℕ). stack cells (length (removals t))) (sym (push_all_lay ws (removals t) (omega (arith, st.room, removals_few)))))

pub eliminates_all : EliminatesAll
eliminates_all t ws st =
    let back : after_all t ws st ≡ stack (elimination base t ws).cells (length (removals t)) = sym (eliminated_is t ws st) in
    record {
      count = length (removals t);
      answer = unfold elimination in rw (table_tests_lem t ws st);
      by_calls = (calls_of (removals t), reached_all t ws st ∙ back);
      none_blocked = subst (λ (s : Stack). NoneBlocked t (live t s)) back (all_stuck t ws st);
      none_can_go = subst (NoneCanGo t) back (stuck_none t (after_all t ws st) st.table_sound (all_valid t ws st) (all_stuck t ws st));
      remaining = subst (λ (s : Stack). live t s ≡ remainder literal (book_of t)) back (all_live t ws st);
    }

pub leaves_the_remainder : LeavesTheRemainder
unfolding live_after
leaves_the_remainder t ws st xs n =
    let s = reached t ws xs in
    let v = reached_valid t ws st xs in
    remainder_unique literal (book_of t) literal_sound (entries s.words s.count) v.right (none_stuck t s st.table_sound v n)
