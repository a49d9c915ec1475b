-- The tests that come first in every call on a table with a stack, and the stack check: the first test that fails gives the refusal, and what is known
-- where none does. Assumes nothing.
use mathlib.Core.Path.{◌≡◌, refl}
use mathlib.Core.Bool.{Bool, true, false}
use mathlib.Core.List.{List}
use mathlib.Core.Option.{none, some}
use Prim.Native.Nat.{ℕ, ◌*◌, ◌≤◌, ◌<◌}
use native.Mathlib.Omega.{arith}
use borrow.Author.Tests.{leb-true, le-leb, lt-leb}
use lib.ListN.{length}
use Rattle.rules.specs.Book.{one_to}
use Rattle.table.specs.Limits.{base}
use Rattle.table.specs.Lent.{lent as lent_table}
use Rattle.table.specs.declared.Table.{Table as LentTable}
use Rattle.table.specs.declared.Stack.{Stack as LentStack}
use Rattle.table.specs.Table.{Table, sound}
use Rattle.table.specs.Stack.{entries}
use Rattle.table.specs.Answer.{answered, verdict, unless}
use Rattle.table.specs.declared.Refusal.{Refusal}
use Rattle.table.specs.declared.Refusal.TheVariants.{NoRoom, BadTable, BadStack}
use Rattle.std.specs.Prelude.{[], Result, Ok, Err, Some, None, MatchResult}
use Rattle.table.proofs.Found.{found_none}
use Rattle.table.proofs.Soundness.{sound_of}
use Rattle.table.proofs.Answers.{then_none, test_none, test_at_none, test_found}
use Rattle.index.specs.Index.{live_of, OwnMarks}
use Rattle.index.proofs.Marks.{live_within}
use Rattle.stack.specs.Tests.{bad_entry, lent_tests, blocking_tests, live_after, check}
use Rattle.stack.specs.Inner.{Lent, Read, Blocking, Passed, Opens, Open}

-- marks for 4,000 clauses are enough for a sound table
pub marks_room : (t : Table) → sound base t ≡ true → {len : ℕ} → 4000 < len → t.clauses < len
marks_room t s h = omega (arith, (sound_of t s).clauses)

-- what reading the entries needs: every clause is marked at first
pub lent : (t : Table) (ws : List ℕ) (c : ℕ) {marks : List Bool} {len : ℕ} → sound base t ≡ true → 2 * t.clauses ≤ length ws → c ≤ t.clauses
    → 4000 < len → length marks ≡ len → live_of marks ≡ one_to t.clauses → Lent t ws c marks
lent t ws c s wide few many same all =
    record { table_sound = s; room = wide; count = few; marks_many = marks_room t s (rw same many); marks_all = all }

-- a table and a stack that pass, and what they pass by
pub lent_passed : (t : Table) (ws : List ℕ) (c : ℕ) (room : Bool) → lent_tests base t ws c room ≡ none → Passed t ws c × (room ≡ true)
lent_passed t ws c room h =
    let a = then_none _ _ h in
    let b = then_none _ _ a.0 in
    let d = then_none _ _ a.1 in
    let e = then_none _ _ d.1 in (
      record {
        table_sound = test_none _ _ b.0;
        room = leb-true _ _ (test_none _ _ b.1);
        count = leb-true _ _ (test_none _ _ e.0);
        none_bad = test_at_none _ _ e.1;
      },
      test_none _ _ d.0,
    )

pub passed_lent : (t : Table) (ws : List ℕ) (c : ℕ) → Passed t ws c → lent_tests base t ws c true ≡ none
passed_lent t ws c p = rw (p.table_sound, le-leb _ _ p.room, le-leb _ _ p.count, p.none_bad)

-- the tests as they are made
module _ (t : Table) (ws : List ℕ) (c : ℕ) (room : Bool) where
  pub open_unsound : sound base t ≡ false → lent_tests base t ws c room ≡ some BadTable
  open_unsound s = rw s

  module _ (s : sound base t ≡ true) where
    pub open_narrow : length ws < 2 * t.clauses → lent_tests base t ws c room ≡ some NoRoom
    open_narrow h = rw (s, lt-leb _ _ h)

    module _ (wide : 2 * t.clauses ≤ length ws) where
      pub open_cramped : room ≡ false → lent_tests base t ws c room ≡ some NoRoom
      open_cramped h = rw (s, le-leb _ _ wide, h)

      module _ (h : room ≡ true) where
        pub open_over : t.clauses < c → lent_tests base t ws c room ≡ some (BadStack 0)
        open_over l = rw (s, le-leb _ _ wide, h, lt-leb _ _ l)

        module _ (few : c ≤ t.clauses) {marks : List Bool} where
          pub open_bad : (bad : ℕ) → Read t ws c marks (Some bad) → lent_tests base t ws c room ≡ some (BadStack bad)
          open_bad bad r = rw (s, le-leb _ _ wide, h, le-leb _ _ few, test_found _ BadStack r.bad)

          pub open_passes : Read t ws c marks None → (lent_tests base t ws c room ≡ none) × (live_of marks ≡ live_after t ws c)
          open_passes r =
              let z : bad_entry t ws c ≡ 0 = found_none _ r.bad in
              (rw (s, le-leb _ _ wide, h, le-leb _ _ few, z), r.live refl)

-- what is known of a stack that was opened
module _ {t : LentTable} {s : LentStack} {room : Bool} {marks : List Bool} {t' : LentTable} {s' : LentStack} (o : Opens t s room marks t' s') where
  pub opened_room : room ≡ true
  opened_room = (lent_passed (lent_table t) s.words.now s.count room o.passes).1

  pub opened_passed : Passed (lent_table t) s.words.now s.count
  opened_passed = (lent_passed (lent_table t) s.words.now s.count room o.passes).0

  pub opened : {len : ℕ} → length marks ≡ len → 4000 < len → Open (lent_table t) s.words.now s.count marks
  opened same many = record { passed = opened_passed; marks_many = marks_room (lent_table t) opened_passed.table_sound (rw same many); live = o.live }

module _ {t : Table} {ws : List ℕ} {c : ℕ} {marks : List Bool} (o : Open t ws c marks) where
  -- the marks are of clauses of the table
  pub open_within : (k : ℕ) → live_of marks k ≡ true → (1 ≤ k) × (k ≤ t.clauses)
  unfolding live_after
  open_within = live_within t.clauses marks (entries ws c) o.live

  pub open_marks : OwnMarks t marks
  open_marks = record { many = o.marks_many; within = open_within }

-- the stack check
module _ (t : Table) (ws : List ℕ) (c : ℕ) where
  pub check_refused : (r : Refusal) → lent_tests base t ws c true ≡ some r → verdict (Err r) ≡ check base t ws c
  unfolding check
  check_refused r h = rw h

  check_left : Passed t ws c → unless (blocking_tests t ws c) (answered []) ≡ check base t ws c
  unfolding check
  check_left p = rw (passed_lent t ws c p)

  pub check_told : Passed t ws c → (marks : List Bool) (v : Result Unit Refusal)
      → MatchResult v (λ _. Blocking t ws c marks) (λ r. blocking_tests t ws c ≡ some r) → verdict v ≡ check base t ws c
  check_told p marks (Ok x) k = rw k.none_unblocked at check_left p
  check_told p marks (Err r) k = rw k at check_left p
