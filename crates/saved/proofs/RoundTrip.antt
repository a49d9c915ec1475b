-- What is written is read back: the form, the table, and the stack. Assumes nothing.
use mathlib.Core.Path.{◌≡◌, sym, ap, ◌∙◌}
use mathlib.Core.Bool.{true, false, not}
use mathlib.Core.List.{List, [], ◌++◌}
use mathlib.Core.Logic.{⊎_elim}
use Prim.Native.Nat.{ℕ, ◌+◌, ◌≤◌}
use native.Mathlib.Omega.{arith}
use lib.ListN.{length, take}
use borrow.Author.Tests.{not-true}
use Rattle.rules.specs.Clause.{mem}
use Rattle.rules.specs.Blocking.{literal}
use Rattle.rules.specs.Book.{Live, Entry, all, after, fault}
use Rattle.rules.proofs.Logic.{by_bool, differ, and_true, not_false}
use Rattle.rules.proofs.Members.{mem_nil}
use Rattle.table.specs.Limits.{base}
use Rattle.table.specs.Table.{Table, offset, row, book_of, sound}
use Rattle.table.proofs.Soundness.{sound_of}
use Rattle.stack.specs.Tests.{entry_names}
use Rattle.saved.specs.Field.{Layout, narrow}
use Rattle.saved.specs.Form.{Head, Line, live_lines, removed_lines, form_of, encode}
use Rattle.std.specs.Prelude.{Ok}
use Rattle.saved.specs.Reading.{read_form, literals_of, table_of, stack_of}
use Rattle.saved.proofs.Named.{named, names_new, held, after_named, live_named}
use Rattle.saved.proofs.Lengths.{numbers_append, removed_count, lives_count, lines_numbers}
use Rattle.saved.proofs.Accepted.{Suits, base_narrow, GoodHead, GoodForm, form_read}
use Rattle.saved.proofs.Parts.{numbers, onto, onto_from, unmet_new, Alike, all_numbers, Parted, good_joined, entries_join}
use Rattle.saved.proofs.Packed.{literals_again, offsets_again}
use Rattle.saved.proofs.Lives.{live_from, live_from_lem, from_rising, from_live, from_good, removed_named, removed_entries, removed_good, pick_skip, pick_live, pick_gone}

module _ (t : Table) (s : List (Entry literal)) (q : sound base t ≡ true) (h : fault literal (entry_names t) (all (book_of t)) s ≡ 0) where
  abbrev L : Live
  L = after literal (all (book_of t)) s

  abbrev m : ℕ
  m = t.clauses

  abbrev ls : List Line
  ls = live_lines t L m

  abbrev gs : List Line
  gs = removed_lines t s

  abbrev made : Head
  made = record { variables = t.variables; clauses = t.clauses; literals = offset t t.clauses; removals = length s }

  -- a clause of the live lines is not named
  unnamed : (k : ℕ) → mem k (numbers ls) ≡ true → mem k (named s) ≡ false
  unnamed k y =
      let z : mem k (numbers (live_from t L 0 m)) ≡ true = rw (live_from_lem t L m) at y in
      let a = from_live t L 0 m k z in
      not-true _ (simp and_true at (sym (after_named (all (book_of t)) s k) ∙ a)).1

  live_good : Alike base made 1 ls
  live_good = rw (live_from_lem t L m) (from_good t L base made 0 m (sound_of t q).clause (omega arith))

  gone_good : Alike base made 2 gs
  gone_good = removed_good t base made s (sound_of t q).clause (names_new t s h) (held t (all (book_of t)) s h)

  parted : Parted base made ls gs
  parted = record {
    gone_count = removed_count t s;
    count = omega (arith, lives_count t s h, removed_count t s);
    live = live_good;
    gone = gone_good;
    rising = rw (live_from_lem t L m) (from_rising t L 0 m);
    unmet =
        unmet_new m gs (onto ls []) (rw (removed_named t s) (names_new t s h))
        (λ k y. rw (removed_named t s) (⊎_elim (λ z. differ z (mem_nil k)) (unnamed k) (onto_from ls [] k y)));
    total =
        let a = all_numbers base made 1 ls live_good in
        let b = all_numbers base made 2 gs gone_good in
        let c = lines_numbers t s h (sound_of t q).shape (sound_of t q).first in
        let d = numbers_append ls gs in
        omega (arith, lives_count t s h, removed_count t s);
  }

  head_good : GoodHead base made
  head_good = record {
    variables = (sound_of t q).variables;
    clauses = (sound_of t q).clauses;
    literals = (sound_of t q).total;
    removals = omega (arith, lives_count t s h);
  }

  pub made_good : (lay : Layout) → GoodForm base lay (form_of t s)
  unfolding form_of
  made_good lay = good_joined base lay made ls gs head_good parted

  -- the rows are those of the table
  same_rows : (k : ℕ) → 1 ≤ k → k ≤ m → literals_of (length s) (ls ++ gs) k ≡ row t k
  same_rows k l u =
      by_bool (mem k (named s))
      (λ y. pick_skip (length s) ls gs k (not_false _ (λ z. differ y (unnamed k z))) ∙ pick_gone (length s) t s k (omega arith) y)
      (λ n. rw (live_from_lem t L m) (pick_live (length s) t L gs 0 m k (removed_count t s) (live_named t s k l u ∙ ap not n) (omega arith) (omega arith)))

  pub table_back : ((table_of (form_of t s)).lits ≡ take (offset t t.clauses) t.lits) × ((table_of (form_of t s)).offs ≡ take (t.clauses + 1) t.offs)
  unfolding form_of table_of
  table_back = (
    literals_again t (sound_of t q).shape (sound_of t q).first (literals_of (length s) (ls ++ gs)) same_rows m (omega arith),
    offsets_again t (sound_of t q).shape (sound_of t q).first (literals_of (length s) (ls ++ gs)) same_rows,
  )

  pub stack_back : stack_of (form_of t s) ≡ s
  unfolding form_of stack_of
  stack_back = entries_join (length s) ls gs (removed_count t s) ∙ removed_entries t s

  -- what is written is read, in every layout that suits
  pub written_read_in : (lay : Layout) → Suits base lay → read_form base lay (encode lay t s) ≡ Ok (form_of t s)
  unfolding encode
  written_read_in lay suits = form_read base lay suits (form_of t s) (made_good lay)

  pub written_read : read_form base narrow (encode narrow t s) ≡ Ok (form_of t s)
  written_read = written_read_in narrow base_narrow
