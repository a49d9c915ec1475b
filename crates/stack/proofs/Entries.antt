-- A lent stack read entry by entry, from the oldest on: what is known after i entries, none of which failed the test. Assumes nothing.
use mathlib.Core.Path.{◌≡◌, refl, sym, ◌∙◌, ap}
use mathlib.Core.Bool.{Bool, true, false}
use mathlib.Core.List.{List}
use Prim.Native.Nat.{ℕ, ◌+◌, ◌*◌, ◌≤◌, ◌<◌}
use native.Mathlib.Numerals.{add-one}
use native.Mathlib.Omega.{arith}
use mir.Syntax.{w16}
use mir.Val.{Fits}
use borrow.Author.Tests.{ne_eqb}
use Rattle.std.specs.Prelude.{Some, None}
use Rattle.std.specs.Option.{is_some}
use Rattle.rules.specs.Walk.{found}
use Rattle.table.proofs.Found.{none_is, some_is, some_found}
use lib.ListN.{length, get_or, take, set, length-set, get_or-eq_default}
use lib.Seq.{take_all}
use Rattle.rules.specs.Clause.{Clause, mem}
use Rattle.rules.specs.Blocking.{literal}
use Rattle.rules.specs.Book.{Live, one_to, after, obstacle, blocks, Test, fault}
use Rattle.rules.proofs.Logic.{and_true}
use Rattle.rules.proofs.Laws.{all_within}
use Rattle.rules.proofs.Sweeps.{within_after}
use Rattle.rules.proofs.Faults.{fault_next, fault_stop, fault_at, after_next}
use Rattle.table.specs.Limits.{base}
use Rattle.table.specs.Table.{Table, row, book_of, sound}
use Rattle.table.specs.Stack.{entry_at, entries}
use Rattle.table.proofs.Soundness.{sound_of, literal_coded}
use Rattle.table.proofs.Stacks.{length_entries, entries_at}
use Rattle.index.specs.Index.{live_of}
use Rattle.index.proofs.Marks.{live_less, live_within}
use Rattle.stack.specs.Tests.{entry_names, bad_entry, entry_blocks, unblocked_entry, live_after}
use Rattle.stack.specs.Inner.{Lent, Read, Checked}

-- what is known after i of c entries: none of them failed the test u, and what is live is marked
pub record Reading (m : ℕ) (u : Test literal) (ws : List ℕ) (c : ℕ) (marks : List Bool) (i : ℕ) : Type 0 where
  pub within : i ≤ c
  pub many : m < length marks
  pub passed : fault literal u (one_to m) (take i (entries ws c)) ≡ 0
  pub live : live_of marks ≡ after literal (one_to m) (take i (entries ws c))

pub reading_start : (t : Table) (u : Test literal) (ws : List ℕ) (c : ℕ) (marks : List Bool) → Lent t ws c marks → Reading t.clauses u ws c marks 0
unfolding fault after
reading_start t u ws c marks l = record { within = omega arith; many = l.marks_many; passed = refl; live = l.marks_all }

module _ (m : ℕ) (u : Test literal) (ws : List ℕ) (c : ℕ) (marks : List Bool) (i : ℕ) (known : Reading m u ws c marks i) where
  pub reading_within : (k : ℕ) → live_of marks k ≡ true → (1 ≤ k) × (k ≤ m)
  reading_within = live_within m marks (take i (entries ws c)) known.live

  pub reading_next : i < c → u (live_of marks) (entry_at ws i) ≡ true → get_or ws (2 * i) 0 ≤ m → Reading m u ws c (set marks (get_or ws (2 * i) 0) false) (i + 1)
  reading_next h y k =
      let there : i < length (entries ws c) = rw length_entries h in
      let at = entries_at ws c i (0, 0) h in
      rw add-one (record {
        within = omega arith;
        many = rw length-set known.many;
        passed = fault_next literal u (one_to m) (entries ws c) i (0, 0) there known.passed (rw (at, ← known.live) y);
        live = live_less marks (get_or ws (2 * i) 0) (omega (arith, known.many)) ∙ rw (known.live, after_next literal (one_to m) (entries ws c) i (0, 0) there, at);
      })

  pub reading_stop : i < c → u (live_of marks) (entry_at ws i) ≡ false → fault literal u (one_to m) (entries ws c) ≡ i + 1
  reading_stop h y =
      rw add-one
      (fault_stop literal u (one_to m) (entries ws c) i (0, 0) (rw length_entries h) known.passed (rw (entries_at ws c i (0, 0) h, ← known.live) y))

  pub reading_end : c ≤ i → (fault literal u (one_to m) (entries ws c) ≡ 0) × (live_of marks ≡ after literal (one_to m) (entries ws c))
  reading_end h =
      let whole = take_all i (entries ws c) (rw length_entries h) in
      (rw whole at known.passed, rw whole at known.live)

-- what the marks say of the clause that an entry names
module _ (t : Table) (marks : List Bool) (k l : ℕ) where
  pub names_beyond : length marks ≤ k → entry_names t (live_of marks) (k, l) ≡ false
  unfolding entry_names live_of
  names_beyond h = rw (get_or-eq_default marks false h)

  pub names_gone : get_or marks k false ≡ false → entry_names t (live_of marks) (k, l) ≡ false
  unfolding entry_names live_of
  names_gone n = rw n

  pub names_live : get_or marks k false ≡ true → (C : Clause) → C ≡ row t k → mem l C ≡ entry_names t (live_of marks) (k, l)
  unfolding entry_names live_of
  names_live e C same = rw (e, same)

-- an entry that names a live clause and a literal of it
pub names_both : (t : Table) (L : Live) (k l : ℕ) → entry_names t L (k, l) ≡ true → (L k ≡ true) × (mem l (row t k) ≡ true)
unfolding entry_names
names_both t L k l h = simp and_true at h

-- an entry that names a clause from 1 to m and a literal of it, which then is the code of a variable or of its negation
pub record Named (t : Table) (k l : ℕ) : Type 0 where
  pub low : 1 ≤ k
  pub high : k ≤ t.clauses
  pub holds : mem l (row t k) ≡ true
  pub code : (2 ≤ l) × (l ≤ 2 * t.variables + 1)
  pub small : l ≤ 4001

pub named : (t : Table) → sound base t ≡ true → (L : Live) → ((k : ℕ) → L k ≡ true → (1 ≤ k) × (k ≤ t.clauses)) → (k l : ℕ)
    → entry_names t L (k, l) ≡ true → Named t k l
named t s L w k l h =
    let q = names_both t L k l h in
    let b = w k q.0 in
    let g = sound_of t s in
    let code = literal_coded t g k l b.0 b.1 q.1 in
    record { low = b.0; high = b.1; holds = q.1; code = code; small = omega (arith, g.variables, code.1) }

-- where no entry is bad, each names a clause and a literal of it
pub entry_named : (t : Table) (ws : List ℕ) (c i : ℕ) → sound base t ≡ true → bad_entry t ws c ≡ 0 → i < c
    → Named t (get_or ws (2 * i) 0) (get_or ws (2 * i + 1) 0)
unfolding bad_entry
entry_named t ws c i s z h =
    let y = fault_at literal (entry_names t) (one_to t.clauses) (entries ws c) i (0, 0) (rw length_entries h) z in
    named t s (after literal (one_to t.clauses) (take i (entries ws c)))
    (within_after literal (book_of t) (one_to t.clauses) (take i (entries ws c)) (all_within (book_of t))) _ _
    (rw (entries_at ws c i (0, 0) h) at y)

pub code_fits : {l : ℕ} → l ≤ 4001 → Fits w16 l
code_fits {l} h = omega arith

-- the test of one literal of a clause says whether it blocks
module _ (t : Table) (L : Live) (k l : ℕ) (own : mem l (row t k) ≡ true) where
  pub blocks_found : is_some (found (obstacle literal (book_of t) L k l)) ≡ false → entry_blocks t L (k, l) ≡ true
  unfolding entry_blocks blocks
  blocks_found h = rw (own, none_is _ h)

  pub stays_found : is_some (found (obstacle literal (book_of t) L k l)) ≡ true → entry_blocks t L (k, l) ≡ false
  unfolding entry_blocks blocks
  stays_found h = rw (own, ne_eqb _ 0 (some_is _ h))

-- the results
module _ (t : Table) (ws : List ℕ) (c : ℕ) (marks : List Bool) (i : ℕ) where
  pub read_stop : Reading t.clauses (entry_names t) ws c marks i → i < c → entry_names t (live_of marks) (entry_at ws i) ≡ false → Read t ws c marks (Some (i + 1))
  unfolding bad_entry
  read_stop known h y = record {
    bad = some_found (omega arith) ∙ ap found (sym (reading_stop t.clauses (entry_names t) ws c marks i known h y));
    live = λ z. cc;
  }

  pub read_end : Reading t.clauses (entry_names t) ws c marks i → c ≤ i → Read t ws c marks None
  unfolding bad_entry live_after
  read_end known h = let e = reading_end t.clauses (entry_names t) ws c marks i known h in record { bad = ap found (sym e.0); live = λ z. e.1 }

  pub checked_stop : Reading t.clauses (entry_blocks t) ws c marks i → i < c → entry_blocks t (live_of marks) (entry_at ws i) ≡ false → Checked t ws c marks (Some (i + 1))
  unfolding unblocked_entry
  checked_stop known h y = record {
    unblocked = some_found (omega arith) ∙ ap found (sym (reading_stop t.clauses (entry_blocks t) ws c marks i known h y));
    live = λ z. cc;
  }

  pub checked_end : Reading t.clauses (entry_blocks t) ws c marks i → c ≤ i → Checked t ws c marks None
  unfolding unblocked_entry live_after
  checked_end known h = let e = reading_end t.clauses (entry_blocks t) ws c marks i known h in record { unblocked = ap found (sym e.0); live = λ z. e.1 }
