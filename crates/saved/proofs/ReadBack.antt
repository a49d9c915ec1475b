-- What was read, written again, is the same bytes. Assumes nothing.
use mathlib.Core.Path.{◌≡◌, refl, sym, ap, ◌∙◌}
use mathlib.Core.List.{List, [], ◌∷◌, ◌++◌}
use mathlib.Core.Logic.{⊎_elim}
use Prim.Native.Nat.{ℕ, ◌≤◌, ◌<◌}
use native.Mathlib.Omega.{arith}
use lib.ListN.{length, get_or, drop}
use Rattle.rules.specs.Clause.{Clause, mem}
use Rattle.rules.specs.Blocking.{literal}
use Rattle.rules.specs.Book.{Live, all, after}
use Rattle.rules.proofs.Logic.{by_bool, differ, not_false}
use Rattle.rules.proofs.Members.{mem_append, append_l}
use Rattle.table.specs.Limits.{Limits, base}
use Rattle.table.specs.Table.{Table, offset, book_of}
use Rattle.saved.specs.Field.{Layout, narrow}
use Rattle.saved.specs.Form.{Head, Line, Form, number_of, form_bytes, live_lines, removed_lines, form_of, encode}
use Rattle.std.specs.Prelude.{Ok}
use Rattle.saved.specs.Reading.{read_form, table_of, stack_of}
use Rattle.saved.proofs.Digits.{Bytes}
use Rattle.saved.proofs.Places.{New, new_within, new_apart, all_there}
use Rattle.saved.proofs.Named.{live_named}
use Rattle.saved.proofs.Accepted.{Suits, base_narrow, GoodForm, form_was}
use Rattle.saved.proofs.Parts.{numbers, numbers_join, entries_in, named_entries, length_entries, Alike, Parted, lives, gones, joined, good_parted}
use Rattle.saved.proofs.Packed.{packed_offset, packed_length}
use Rattle.saved.proofs.Lives.{LiveRows, live_from_lem, from_same}
use Rattle.saved.proofs.Sound.{Own, GoneRows, clause_of, given, new, full, own, all_literals_lem, given_row, gone_rows, given_stack, joined_again}

removed_again : (t : Table) (xs : List Line) → GoneRows t xs → removed_lines t (entries_in xs) ≡ xs
unfolding removed_lines entries_in
removed_again t [] e = refl
removed_again t (x ∷ xs) e = rw (removed_again t xs e.1) (ap (λ (y : Line). y ∷ xs) (sym e.0))

module _ (lim : Limits) (h : Head) (ls gs : List Line) (p : Parted lim h ls gs) where
  abbrev t : Table
  t = given h ls gs

  abbrev m : ℕ
  m = h.clauses

  abbrev L : Live
  L = after literal (all (book_of t)) (entries_in gs)

  one_head : (x : Line) → 1 ≤ length x → x ≡ number_of x ∷ drop 1 x
  one_head [] l = absurd (omega arith)
  one_head (a ∷ x) l = refl

  live_lines_lem : (xs : List Line) → Alike lim h 1 xs → Own (clause_of h ls gs) 1 xs → LiveRows t xs
  live_lines_lem [] a e = tt
  live_lines_lem (x ∷ xs) a e = (
    one_head x a.0.long ∙ ap (λ (C : Clause). number_of x ∷ C) (sym (given_row lim h ls gs p (number_of x) a.0.low a.0.high ∙ e.0)),
    live_lines_lem xs a.1 e.1,
  )

  new_parts : New m (numbers ls ++ numbers gs)
  new_parts = rw (numbers_join ls gs) at (new lim h ls gs p)

  -- a clause is live exactly where its line is among the live ones
  lives_named : (j : ℕ) → 1 ≤ j → j ≤ m → L j ≡ mem j (numbers ls)
  unfolding table_of
  lives_named j l u =
      live_named t (entries_in gs) j l u ∙ rw (named_entries gs)
      (by_bool (mem j (numbers gs))
      (λ y. rw y (sym (not_false (mem j (numbers ls)) (λ z. differ y (new_apart m (numbers ls) (numbers gs) new_parts j z)))))
      (λ n. rw n (sym (⊎_elim (λ z. z) (λ z. differ z n)
      (mem_append j (numbers ls) (numbers gs) (rw (numbers_join ls gs) at (all_there m (numbers (ls ++ gs)) (new lim h ls gs p) (full lim h ls gs p) j l u)))))))

  lives_again : live_lines t L m ≡ ls
  lives_again =
      live_from_lem t L m
      ∙ from_same t L 0 m ls p.rising (λ j a b. lives_named j (omega arith) (omega arith))
      (λ j y. let q = (new_within m (numbers ls ++ numbers gs) new_parts j (append_l j (numbers ls) (numbers gs) y)).1 in omega arith)
      (live_lines_lem ls p.live (own lim h ls gs p).0)

  literals_same : offset t m ≡ h.literals
  unfolding table_of
  literals_same =
      packed_offset (clause_of h ls gs) h.variables m m (omega arith)
      ∙ packed_length (clause_of h ls gs) m
      ∙ all_literals_lem lim h ls gs p

  removals_same : length (stack_of (joined h ls gs)) ≡ h.removals
  removals_same = ap length (given_stack lim h ls gs p) ∙ length_entries gs ∙ p.gone_count

  lines_same : live_lines t (after literal (all (book_of t)) (stack_of (joined h ls gs))) m ++ removed_lines t (stack_of (joined h ls gs)) ≡ ls ++ gs
  lines_same = rw (given_stack lim h ls gs p, lives_again, removed_again t gs (gone_rows lim h ls gs p))

  -- the form of the table and stack that the form gives is that form
  pub form_again : form_of t (stack_of (joined h ls gs)) ≡ joined h ls gs
  unfolding form_of table_of
  form_again =
      λ i. record {
        head = record { variables = h.variables; clauses = h.clauses; literals = literals_same i; removals = removals_same i };
        lines = lines_same i;
      }

pub good_again : (lim : Limits) (lay : Layout) (f : Form) → GoodForm lim lay f → form_of (table_of f) (stack_of f) ≡ f
good_again lim lay f g =
    rw (joined_again f) at (form_again lim f.head (lives f) (gones f) (good_parted lim lay f g))

-- what was read is what is written, in every layout that suits
pub read_written_in : (lay : Layout) → Suits base lay → (b : List ℕ) (f : Form) → Bytes b → read_form base lay b ≡ Ok f → encode lay (table_of f) (stack_of f) ≡ b
unfolding encode
read_written_in lay suits b f h e =
    let w = form_was base lay suits b f e in
    ap (form_bytes lay) (good_again base lay f w.0) ∙ sym (w.1 h)

pub read_written : (b : List ℕ) (f : Form) → ((i : ℕ) → get_or b i 0 < 256) → read_form base narrow b ≡ Ok f → encode narrow (table_of f) (stack_of f) ≡ b
read_written b f h e = read_written_in narrow base_narrow b f h e
