-- The table that an accepted form gives is sound, and its stack has no bad entry. Assumes nothing.
use mathlib.Core.Path.{◌≡◌, refl, sym, ap, ◌∙◌}
use mathlib.Core.Bool.{true, false}
use mathlib.Core.List.{List, [], ◌∷◌, ◌++◌}
use Prim.Native.Nat.{ℕ, ◌+◌, ◌-◌, ◌≤◌}
use native.Mathlib.Omega.{arith}
use lib.ListN.{length, drop, length-append, length-drop, take-append-drop}
use borrow.Author.Tests.{eq-eqb, ne_eqb, lt-ltb, le-ltb, le-leb}
use Rattle.rules.specs.Clause.{Clause, mem}
use Rattle.rules.specs.Blocking.{literal}
use Rattle.rules.specs.Book.{all, fault}
use Rattle.rules.proofs.Logic.{by_eq, differ}
use Rattle.rules.proofs.Members.{mem_here, mem_skip}
use Rattle.table.specs.Limits.{Limits, base}
use Rattle.table.specs.Table.{Table, row, book_of, distinct, sound_clause, sound}
use Rattle.stack.specs.Tests.{entry_names}
use Rattle.saved.specs.Field.{Layout, narrow}
use Rattle.saved.specs.Form.{Head, Line, Form, number_of, blocking_of, heads_at}
use Rattle.std.specs.Prelude.{Ok}
use Rattle.saved.specs.Reading.{read_form, literals_of, table_of, stack_of}
use Rattle.saved.proofs.Places.{New, sum_of, sum_to, sum_all}
use Rattle.saved.proofs.Named.{Held, new_names}
use Rattle.saved.proofs.Accepted.{base_narrow, GoodHead, GoodForm, Each, form_was}
use Rattle.saved.proofs.Parts.{numbers, length_numbers, numbers_join, entries_in, named_entries, entries_join, Alike, literals_after, Parted, lives, gones, joined, each_join, good_parted, new_gone, new_all}
use Rattle.saved.proofs.Packed.{packed_row, packed_sound}

-- each line's literals are those of its clause
abbrev pub Own : (ℕ → Clause) → ℕ → List Line → Type 0
Own f heads [] = Unit {0}
Own f heads (x ∷ xs) = (f (number_of x) ≡ drop heads x) × Own f heads xs

module _ (r m : ℕ) (f : ℕ → Clause) where
  -- past its first line, a form is asked for other clauses only
  later : (x : Line) (xs : List Line) → mem (number_of x) (numbers xs) ≡ false
      → ((k : ℕ) → mem k (numbers (x ∷ xs)) ≡ true → f k ≡ literals_of r (x ∷ xs) k) → (k : ℕ) → mem k (numbers xs) ≡ true → f k ≡ literals_of r xs k
  unfolding numbers literals_of
  later x xs n e k y = e k (mem_skip k (number_of x) (numbers xs) y) ∙ rw (ne_eqb (number_of x) k (λ p. differ y (rw p at n)))

  own_gone : (gs : List Line) → length gs ≤ r → New m (numbers gs) → ((k : ℕ) → mem k (numbers gs) ≡ true → f k ≡ literals_of r gs k) → Own f 2 gs
  unfolding numbers literals_of
  own_gone [] l n e = tt
  own_gone (x ∷ gs) l n e = (
    e (number_of x) (mem_here (number_of x) (numbers gs)) ∙ rw (eq-eqb (number_of x) (number_of x) refl, lt-ltb (length gs) r (omega arith)),
    own_gone gs (omega arith) n.3 (later x gs n.0 e),
  )

  own_all : (ls gs : List Line) → length gs ≡ r → New m (numbers (ls ++ gs)) → ((k : ℕ) → mem k (numbers (ls ++ gs)) ≡ true → f k ≡ literals_of r (ls ++ gs) k)
      → Own f 1 ls × Own f 2 gs
  unfolding numbers literals_of
  own_all [] gs c n e = (tt, own_gone gs (omega arith) n e)
  own_all (x ∷ ls) gs c n e =
      let i = own_all ls gs c n.3 (later x (ls ++ gs) n.0 e) in
      let q = length-append ls gs in (
        (
          e (number_of x) (mem_here (number_of x) (numbers (ls ++ gs)))
              ∙ rw (eq-eqb (number_of x) (number_of x) refl, le-ltb (length (ls ++ gs)) r (omega arith)),
          i.0,
        ),
        i.1,
      )

-- how many literals they have
own_sum : (f : ℕ → Clause) (heads : ℕ) (xs : List Line) → Own f heads xs → sum_of (λ k. length (f k)) (numbers xs) ≡ literals_after heads xs
unfolding sum_of numbers literals_after
own_sum f heads [] e = refl
own_sum f heads (x ∷ xs) e = rw (e.0, own_sum f heads xs e.1, length-drop heads x)

sum_append : (w : ℕ → ℕ) (xs ys : List ℕ) → sum_of w (xs ++ ys) ≡ sum_of w xs + sum_of w ys
unfolding sum_of
sum_append w [] ys = omega arith
sum_append w (x ∷ xs) ys = omega (arith, sum_append w xs ys)

-- whatever clause is asked for, its literals are sound
row_sound : (lim : Limits) (h : Head) (r : ℕ) (xs : List Line) (k : ℕ) → Each lim h r xs → sound_clause lim h.variables (literals_of r xs k) ≡ true
unfolding literals_of sound_clause distinct
row_sound lim h r [] k e = rw (le-leb 0 lim.clause_literals (omega arith))
row_sound lim h r (x ∷ xs) k e =
    by_eq (number_of x) k
    (λ p.
    let g = e.0 in
    let l : length (drop (heads_at (length xs) r) x) ≤ lim.clause_literals = rw (length-drop (heads_at (length xs) r) x) g.short in
    rw (eq-eqb (number_of x) k p, le-leb (length (drop (heads_at (length xs) r) x)) lim.clause_literals l, g.codes, g.once))
    (λ p. rw (ne_eqb (number_of x) k p) (row_sound lim h r xs k e.1))

-- each line of a removed clause is its number, its blocking literal, and the clause
abbrev pub GoneRows : Table → List Line → Type 0
GoneRows t [] = Unit {0}
GoneRows t (x ∷ xs) = (x ≡ number_of x ∷ blocking_of x ∷ row t (number_of x)) × GoneRows t xs

-- the clauses and the table that two parts give
abbrev pub clause_of : Head → List Line → List Line → ℕ → Clause
clause_of h ls gs = literals_of h.removals (ls ++ gs)

abbrev pub given : Head → List Line → List Line → Table
given h ls gs = table_of (joined h ls gs)

module _ (lim : Limits) (h : Head) (ls gs : List Line) (p : Parted lim h ls gs) where
  abbrev f : ℕ → Clause
  f = clause_of h ls gs

  abbrev t : Table
  t = given h ls gs

  pub new : New h.clauses (numbers (ls ++ gs))
  new = new_all lim h 0 ls gs [] p.live p.gone p.rising p.unmet

  pub full : length (numbers (ls ++ gs)) ≡ h.clauses
  full = length_numbers (ls ++ gs) ∙ length-append ls gs ∙ p.count

  pub own : Own f 1 ls × Own f 2 gs
  own = own_all h.removals h.clauses f ls gs p.gone_count new (λ k y. refl)

  pub all_literals_lem : sum_to (λ k. length (f k)) h.clauses ≡ h.literals
  all_literals_lem =
      let a = sum_all (λ (k : ℕ). length (f k)) h.clauses (numbers (ls ++ gs)) new full in
      let b : sum_of (λ (k : ℕ). length (f k)) (numbers (ls ++ gs)) ≡ h.literals =
      rw (numbers_join ls gs, sum_append (λ (k : ℕ). length (f k)) (numbers ls) (numbers gs), own_sum f 1 ls own.0, own_sum f 2 gs own.1) p.total in
      a ∙ b

  pub given_row : (k : ℕ) → 1 ≤ k → k ≤ h.clauses → row t k ≡ f k
  unfolding table_of
  given_row k l u = packed_row f h.variables h.clauses k l u

  pub given_sound : GoodHead lim h → sound lim t ≡ true
  unfolding table_of
  given_sound g =
      let a = all_literals_lem in
      packed_sound f h.variables h.clauses lim g.variables g.clauses (let b = g.literals in omega arith)
      (λ k. row_sound lim h h.removals (ls ++ gs) k (each_join lim h h.removals ls gs p.gone_count p.live p.gone))

  two_heads : (x : Line) → 2 ≤ length x → x ≡ number_of x ∷ blocking_of x ∷ drop 2 x
  two_heads [] l = absurd (omega arith)
  two_heads (a ∷ []) l = absurd (omega arith)
  two_heads (a ∷ b ∷ x) l = refl

  gone_lines : (xs : List Line) → Alike lim h 2 xs → Own f 2 xs → GoneRows t xs
  gone_lines [] a e = tt
  gone_lines (x ∷ xs) a e = (
    two_heads x a.0.long ∙ ap (λ (C : Clause). number_of x ∷ blocking_of x ∷ C) (sym (given_row (number_of x) a.0.low a.0.high ∙ e.0)),
    gone_lines xs a.1 e.1,
  )

  pub gone_rows : GoneRows t gs
  gone_rows = gone_lines gs p.gone own.1

  gone_held : (xs : List Line) → Alike lim h 2 xs → Own f 2 xs → Held t (entries_in xs)
  unfolding entries_in
  gone_held [] a e = tt
  gone_held (x ∷ xs) a e =
      (rw (given_row (number_of x) a.0.low a.0.high, e.0) a.0.blocking, gone_held xs a.1 e.1)

  pub given_stack : stack_of (joined h ls gs) ≡ entries_in gs
  unfolding stack_of
  given_stack = entries_join h.removals ls gs p.gone_count

  pub given_names : fault literal (entry_names t) (all (book_of t)) (stack_of (joined h ls gs)) ≡ 0
  given_names = rw given_stack (new_names t (entries_in gs) (rw (named_entries gs) (unfold table_of in new_gone lim h 2 gs _ p.gone p.unmet)) (gone_held gs p.gone own.1))

-- a form is its parts joined
pub joined_again : (f : Form) → joined f.head (lives f) (gones f) ≡ f
joined_again f = λ i. record { head = f.head; lines = take-append-drop (f.head.clauses - f.head.removals) f.lines i }

module _ (lim : Limits) (lay : Layout) (f : Form) (g : GoodForm lim lay f) where
  pub good_sound : sound lim (table_of f) ≡ true
  good_sound = rw (joined_again f) at (given_sound lim f.head (lives f) (gones f) (good_parted lim lay f g) g.head)

  pub good_names : fault literal (entry_names (table_of f)) (all (book_of (table_of f))) (stack_of f) ≡ 0
  good_names = rw (joined_again f) at (given_names lim f.head (lives f) (gones f) (good_parted lim lay f g))

pub read_sound : (b : List ℕ) (f : Form) → read_form base narrow b ≡ Ok f → sound base (table_of f) ≡ true
read_sound b f e = good_sound base narrow f (form_was base narrow base_narrow b f e).0

pub read_names : (b : List ℕ) (f : Form) → read_form base narrow b ≡ Ok f → fault literal (entry_names (table_of f)) (all (book_of (table_of f))) (stack_of f) ≡ 0
read_names b f e = good_names base narrow f (form_was base narrow base_narrow b f e).0
