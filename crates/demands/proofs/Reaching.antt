-- Every stack that removal calls lead to is valid, and so passes every test of a later call. Assumes nothing.
use mathlib.Core.Path.{◌≡◌, refl, ap}
use mathlib.Core.Bool.{Bool, true, ◌&&◌}
use mathlib.Core.List.{List, [], ◌∷◌, ◌++◌}
use mathlib.Core.Option.{Option, none, some}
use Prim.Native.Nat.{ℕ, suc, ◌+◌, ◌*◌, ◌≤◌, ◌<◌}
use native.Mathlib.Omega.{arith}
use native.Mathlib.Numerals.{add-one}
use borrow.Author.Tests.{le-leb}
use lib.ListN.{length}
use Rattle.rules.specs.Walk.{upto}
use Rattle.rules.specs.Blocking.{literal}
use Rattle.rules.specs.Book.{Entry, all, after, blocks, valid, fault}
use Rattle.rules.proofs.Logic.{and_true}
use Rattle.rules.proofs.Laws.{Within, all_within, blocks_fits}
use Rattle.rules.proofs.Sweeps.{tally, tally_le, tally_less, removed, valid_append, within_after}
use Rattle.rules.proofs.Faults.{right, valid_fault, fault_valid, fault_weaker, fault_both}
use Rattle.table.specs.Limits.{base}
use Rattle.table.specs.Table.{Table, book_of, sound}
use Rattle.table.specs.Stack.{entries, push}
use Rattle.table.specs.declared.Refusal.{Refusal}
use Rattle.table.specs.declared.Refusal.TheVariants.{NotBlocking, BadName}
use Rattle.table.specs.Answer.{test, ◌then◌}
use Rattle.table.proofs.Answers.{then_none, test_none}
use Rattle.table.proofs.Stacks.{length_entries, entries_push, length_push}
use Rattle.stack.specs.Tests.{table_tests, lent_tests, blocking_tests, entry_names, bad_entry, entry_blocks, unblocked_entry, live_after}
use Rattle.stack.proofs.Refusals.{passed_lent}
use Rattle.removal.specs.Removal.{removal_tests, removal}
use Rattle.demands.specs.Calls.{Stack, stack, Call, called, calls}
use Rattle.demands.specs.Demands.{Start, reached}
use Rattle.demands.proofs.Choosing.{by_tests, paper_count}

-- the entries are a valid sequence of removals
abbrev pub Right : Table → List (Entry literal) → Type 0
Right t es = valid literal (book_of t) (all (book_of t)) es ≡ true

-- so each names a live clause and a literal of it, and its literal blocks
module _ (t : Table) (es : List (Entry literal)) (v : Right t es) where
  pub valid_names : fault literal (entry_names t) (all (book_of t)) es ≡ 0
  unfolding entry_names
  valid_names =
      fault_weaker literal (right literal (book_of t)) (entry_names t)
      (λ M e h. let q = simp and_true at h in simp and_true (q.0, blocks_fits literal (book_of t) M e.0 e.1 q.1))
      (all (book_of t)) es (valid_fault literal (book_of t) (all (book_of t)) es v)

  pub valid_blocks : fault literal (entry_blocks t) (all (book_of t)) es ≡ 0
  unfolding entry_blocks
  valid_blocks =
      fault_weaker literal (right literal (book_of t)) (entry_blocks t) (λ M e h. (simp and_true at h).1)
      (all (book_of t)) es (valid_fault literal (book_of t) (all (book_of t)) es v)

  -- as many entries as clauses that are gone
  valid_balance : length es + tally (after literal (all (book_of t)) es) t.clauses ≤ t.clauses
  valid_balance = omega (arith, removed literal (book_of t) (all (book_of t)) es (all_within (book_of t)) v, tally_le (all (book_of t)) t.clauses)

  pub valid_short : length es ≤ t.clauses
  valid_short = omega (arith, valid_balance)

-- and the other way round
pub names_blocks : (t : Table) (es : List (Entry literal)) → fault literal (entry_names t) (all (book_of t)) es ≡ 0
    → fault literal (entry_blocks t) (all (book_of t)) es ≡ 0 → Right t es
unfolding entry_names entry_blocks
names_blocks t es n b =
    fault_valid literal (book_of t) (all (book_of t)) es
    (fault_weaker literal (λ M e. entry_names t M e && entry_blocks t M e) (right literal (book_of t))
    (λ M e h. let q = simp and_true at h in simp and_true (q.0.0, q.1))
    (all (book_of t)) es (fault_both literal (entry_names t) (entry_blocks t) (all (book_of t)) es n b))

-- a stack with room whose entries are right
pub record Valid (t : Table) (s : Stack) : Type 0 where
  pub room : 2 * t.clauses ≤ length s.words
  pub right : Right t (entries s.words s.count)

module _ (t : Table) (s : Stack) (v : Valid t s) where
  balance : s.count + tally (live_after t s.words s.count) t.clauses ≤ t.clauses
  unfolding live_after
  balance = omega (arith, valid_balance t (entries s.words s.count) v.right, length_entries s.words s.count)

  pub live_within : Within (book_of t) (live_after t s.words s.count)
  unfolding live_after
  live_within = within_after literal (book_of t) (all (book_of t)) (entries s.words s.count) (all_within (book_of t))

  pub count_small : s.count ≤ t.clauses
  count_small = omega (arith, balance)

  -- while a clause is live there is room for one entry more
  pub count_below : (k : ℕ) → live_after t s.words s.count k ≡ true → s.count < t.clauses
  count_below k h =
      let w = live_within k h in
      omega (arith, balance, tally_less (live_after t s.words s.count) k t.clauses w.0 w.1 h)

  pub none_bad : bad_entry t s.words s.count ≡ 0
  unfolding bad_entry
  none_bad = valid_names t (entries s.words s.count) v.right

  pub none_unblocked : unblocked_entry t s.words s.count ≡ 0
  unfolding unblocked_entry
  none_unblocked = valid_blocks t (entries s.words s.count) v.right

  -- the tests that come first pass, and so do those of the entries' literals
  pub lent_tests_lem : sound base t ≡ true → (room : Bool) → room ≡ true → lent_tests base t s.words s.count room ≡ none
  lent_tests_lem h room r = rw (r, passed_lent t s.words s.count (record { table_sound = h; room = v.room; count = count_small; none_bad = none_bad }))

  pub blocking_tests_lem : blocking_tests t s.words s.count ≡ none
  blocking_tests_lem = rw none_unblocked

pub table_tests_lem : (t : Table) (ws : List ℕ) → Start t ws → table_tests base t ws ≡ none
table_tests_lem t ws st = rw (st.table_sound, le-leb _ _ st.room)

-- one removal more
valid_more : (t : Table) (ws : List ℕ) (c k l : ℕ) → valid literal (book_of t) (all (book_of t)) (entries ws c) ≡ true
    → live_after t ws c k ≡ true → blocks literal (book_of t) (live_after t ws c) k l ≡ true
    → valid literal (book_of t) (all (book_of t)) (entries ws c ++ (k, l) ∷ []) ≡ true
unfolding live_after valid
valid_more t ws c k l v h b =
    valid_append literal (book_of t) (all (book_of t)) (entries ws c) ((k, l) ∷ []) v (simp and_true ((h, b), refl))

-- one call
module _ (t : Table) (s : Stack) (x : Call) where
  abbrev tests : Option Refusal
  tests = removal_tests base t s.words s.count x.clause x.literal

  refused_call : (r : Refusal) → tests ≡ some r → called base t s x ≡ s
  unfolding called removal
  refused_call r h = rw h (ap (λ (c : ℕ). stack s.words c) (paper_count r s.count))

  pub made_call : tests ≡ none → called base t s x ≡ stack (push s.words s.count x.clause x.literal) (suc s.count)
  unfolding called removal
  made_call h = rw (h, add-one)

  pub made_valid : sound base t ≡ true → Valid t s → tests ≡ none
      → Valid t (stack (push s.words s.count x.clause x.literal) (suc s.count))
  made_valid h v n =
      let q = then_none _ _ (rest h v n) in
      let names = test_none _ _ q.0 in
      let blocked = test_none _ _ q.1 in
      pushed v names blocked
    where
      rest : sound base t ≡ true → Valid t s → tests ≡ none
          → (test (entry_names t (live_after t s.words s.count) (x.clause, x.literal)) BadName
          then test (blocks literal (book_of t) (live_after t s.words s.count) x.clause x.literal) (NotBlocking x.clause)) ≡ none
      rest h v n = rw (lent_tests_lem t s v h true refl) at n

      pushed : Valid t s → entry_names t (live_after t s.words s.count) (x.clause, x.literal) ≡ true
          → blocks literal (book_of t) (live_after t s.words s.count) x.clause x.literal ≡ true
          → Valid t (stack (push s.words s.count x.clause x.literal) (suc s.count))
      pushed v names blocked =
          let live : live_after t s.words s.count x.clause ≡ true = unfold entry_names in (simp and_true at names).0 in
          let below = count_below t s v x.clause live in
          record {
            room = rw length_push v.room;
            right =
                rw (entries_push s.words s.count x.clause x.literal (omega (arith, v.room)))
                (valid_more t s.words s.count x.clause x.literal v.right live blocked);
          }

  called_valid : sound base t ≡ true → Valid t s → Valid t (called base t s x)
  called_valid h v = by_tests tests (λ n. rw (made_call n) (made_valid h v n)) (λ r e. rw (refused_call r e) v)

pub calls_valid : (t : Table) → sound base t ≡ true → (s : Stack) → Valid t s → (xs : List Call) → Valid t (calls base t s xs)
unfolding calls
calls_valid t h s v [] = v
calls_valid t h s v (x ∷ xs) = calls_valid t h (called base t s x) (called_valid t s x h v) xs

pub empty_valid : (t : Table) (ws : List ℕ) → Start t ws → Valid t (stack ws 0)
empty_valid t ws st = record { room = st.room; right = unfold entries upto valid in refl }

pub reached_valid : (t : Table) (ws : List ℕ) → Start t ws → (xs : List Call) → Valid t (reached t ws xs)
reached_valid t ws st xs = calls_valid t st.table_sound (stack ws 0) (empty_valid t ws st) xs
