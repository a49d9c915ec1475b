-- From the scan to the call: the header, the form that was read, its table and stack as they lie in the local arrays, and what is handed out. Assumes nothing.
use mathlib.Core.Path.{◌≡◌, refl, sym, ap, ◌∙◌}
use mathlib.Core.List.{List, []}
use mathlib.Core.Option.{none}
use Prim.Native.Nat.{ℕ, zero, suc, ◌+◌, ◌≤◌, ◌<◌}
use native.Mathlib.Omega.{arith}
use lib.ListN.{length, get_or, take, drop, replicate}
use lib.Dec.{eqb}
use borrow.Author.Tests.{eqb-true, le-leb, lt-leb}
use Rattle.std.specs.Prelude.{Option, None, Ok, Err}
use Rattle.rules.specs.Clause.{Clause}
use Rattle.table.specs.Limits.{base}
use Rattle.table.specs.Table.{table}
use Rattle.table.specs.Stack.{lay, entries}
use Rattle.table.specs.declared.Refusal.{Refusal}
use Rattle.table.specs.declared.Refusal.TheVariants.{NoRoom}
use Rattle.table.specs.Res.{Res, on_ok}
use Rattle.table.proofs.Answers.{then_none}
use Rattle.table.proofs.Laying.{lay_front}
use Rattle.table.proofs.Stacks.{length_entries, words_entries}
use Rattle.table.proofs.Soundness.{sound_of}
use Rattle.stack.specs.Tests.{bad_entry, unblocked_entry}
use Rattle.stack.specs.Inner.{Passed}
use Rattle.saved.specs.Field.{narrow, length_of}
use Rattle.saved.specs.Form.{Head, Form}
use Rattle.saved.specs.Reading.{head_at, head_tests, field_tests, read_lines, read_form, literals_of, all_literals, all_offsets, table_of, stack_of}
use Rattle.saved.specs.Saved.{loaded, accepted, unblocked, unpacked, reading}
use Rattle.saved.proofs.Accepted.{field_passed}
use Rattle.saved.proofs.Packed.{packed_offset, length_offsets}
use Rattle.saved.proofs.Sound.{read_sound, read_names}
use Rattle.saved_read.specs.Restored.{restored}
use Rattle.saved_read.specs.Inner.{header_of, Parts, row_of, handed_out, AllRead}
use Rattle.saved_read.proofs.Found.{given_by, refused_by, whole_within}
use Rattle.saved_read.proofs.Rows.{literals_same, offsets_same}

pub all_none : {A : Type 0} (n k : ℕ) → get_or {A = Option A} (replicate n None) k None ≡ None
all_none zero k = refl
all_none (suc n) zero = refl
all_none (suc n) (suc k) = all_none n k

-- the header

pub head_refused : (b : List ℕ) (x : Refusal) → Err x ≡ header_of b → read_form base narrow b ≡ Err x
unfolding header_of read_form
head_refused b x e = rw (refused_by (head_tests base narrow b) x (head_at base narrow b) e)

pub record Headed (b : List ℕ) (h : Head) : Type 0 where
  pub tests : head_tests base narrow b ≡ none
  pub head : h ≡ head_at base narrow b
  pub size : length_of b ≡ 8
  pub long : 11 ≤ length b

pub headed : (b : List ℕ) (h : Head) → Ok h ≡ header_of b → Headed b h
unfolding header_of
headed b h e =
    let o = given_by (head_tests base narrow b) h (head_at base narrow b) e in
    let p₁ = then_none (field_tests 1 b 0 (eqb (length_of b) 8)) _ o.0 in
    let p₂ = field_passed 1 b 0 (eqb (length_of b) 8) p₁.0 in
    let s = eqb-true (length_of b) 8 p₂.2 in
    let w = whole_within b 0 0 p₂.0 in
    record { tests = o.0; head = o.1; size = s; long = omega arith }

module _ (b : List ℕ) (h : Head) (g : Headed b h) where
  form_is : read_form base narrow b ≡ on_ok (λ xs. record { head = h; lines = xs }) (read_lines base narrow h h.clauses [] 0 11 (drop 11 b))
  unfolding read_form
  form_is = rw (g.tests, g.size, ← g.head)

  pub lines_refused : (x : Refusal) → read_lines base narrow h h.clauses [] 0 11 (drop 11 b) ≡ Err x → read_form base narrow b ≡ Err x
  lines_refused x e = form_is ∙ rw e

  -- the form that was read
  module _ (parts : Parts) (ws : List ℕ) (c : ℕ) (a : AllRead b h parts ws c) where
    abbrev F : Form
    F = record { head = h; lines = a.lines }

    abbrev P : ℕ → Clause
    P = row_of b parts

    form_read : read_form base narrow b ≡ Ok F
    form_read = form_is ∙ rw a.read

    table_same : table_of F ≡ table h.variables h.clauses (all_literals P h.clauses) (all_offsets P h.clauses)
    unfolding table_of
    table_same = rw (literals_same (literals_of h.removals a.lines) P h.clauses a.rows, offsets_same (literals_of h.removals a.lines) P h.clauses a.rows)

    pub total_fits : length (all_literals P h.clauses) ≤ 16_000
    total_fits =
        let q = rw table_same at (read_sound b F form_read) in
        let s = (sound_of (table h.variables h.clauses (all_literals P h.clauses) (all_offsets P h.clauses)) q).total in
        let o = packed_offset P h.variables h.clauses h.clauses (omega arith) in
        omega arith

    module _ (R E : List ℕ) (same_rows : R ≡ all_literals P h.clauses) (same_ends : E ≡ all_offsets P h.clauses) (m : h.clauses ≤ 4_000) (w : length ws ≡ 8_000) where
      again : table_of F ≡ table h.variables h.clauses R E
      again = rw (same_rows, same_ends) table_same

      stacked : stack_of F ≡ entries ws c
      unfolding stack_of
      stacked = a.stacked

      pub passed_tests : Passed (table h.variables h.clauses R E) ws c
      passed_tests = record {
        table_sound = rw again at (read_sound b F form_read);
        room = omega arith;
        count = a.few;
        none_bad = unfold bad_entry in rw (again, stacked) at (read_names b F form_read);
      }

      pub handed : (L O S : List ℕ)
          → handed_out (table h.variables h.clauses R E) ws c L O S ≡ accepted (read_form base narrow b) L O S
      unfolding unblocked_entry unblocked unpacked
      handed L O S =
          let f = a.few in
          rw (form_read, again, stacked, length_entries ws c, words_entries ws c (omega arith))

-- the fronts of the local arrays
pub front_rows : (f : ℕ → Clause) (m r : ℕ) (X o : List ℕ) → r ≡ length (all_literals f m) → X ≡ lay (all_literals f m) o → take r X ≡ all_literals f m
front_rows f m r X o h e = ap (take r) e ∙ lay_front (all_literals f m) o r (sym h)

pub front_ends : (f : ℕ → Clause) (m : ℕ) (X o : List ℕ) → X ≡ lay (all_offsets f m) o → take (m + 1) X ≡ all_offsets f m
front_ends f m X o e = ap (take (m + 1)) e ∙ lay_front (all_offsets f m) o (m + 1) (length_offsets f m)

-- the rooms
module _ (b L O S : List ℕ) where
  pub no_lits : length L < 16_000 → loaded (restored (Err NoRoom)) L O S ≡ reading base narrow b L O S
  unfolding reading
  no_lits h = rw (lt-leb 16_000 (length L) h)

  pub no_offs : 16_000 ≤ length L → length O < 4_001 → loaded (restored (Err NoRoom)) L O S ≡ reading base narrow b L O S
  unfolding reading
  no_offs l h = rw (le-leb 16_000 (length L) l, lt-leb 4_001 (length O) h)

  pub no_stack : 16_000 ≤ length L → 4_001 ≤ length O → length S < 8_000 → loaded (restored (Err NoRoom)) L O S ≡ reading base narrow b L O S
  unfolding reading
  no_stack l o h = rw (le-leb 16_000 (length L) l, le-leb 4_001 (length O) o, lt-leb 8_000 (length S) h)

  pub rooms : 16_000 ≤ length L → 4_001 ≤ length O → 8_000 ≤ length S → accepted (read_form base narrow b) L O S ≡ reading base narrow b L O S
  unfolding reading
  rooms l o h = rw (le-leb 16_000 (length L) l, le-leb 4_001 (length O) o, le-leb 8_000 (length S) h)

  pub form_refused : (x : Refusal) → 16_000 ≤ length L → 4_001 ≤ length O → 8_000 ≤ length S → read_form base narrow b ≡ Err x
      → loaded (restored (Err x)) L O S ≡ reading base narrow b L O S
  form_refused x l o h e = sym (ap (λ (y : Res Form). accepted y L O S) e) ∙ rooms l o h
