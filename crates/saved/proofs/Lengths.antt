-- How many bytes a saved form has, piece by piece and in all. Assumes nothing.
use mathlib.Core.Path.{◌≡◌, refl, ap, ◌∙◌}
use mathlib.Core.Bool.{true, false, not}
use mathlib.Core.List.{List, [], ◌∷◌, ◌++◌}
use Prim.Native.Nat.{ℕ, zero, suc, ◌+◌, ◌-◌, ◌*◌, ◌≤◌}
use native.Mathlib.Nat.{mul-zero, mul-add}
use native.Mathlib.Omega.{arith}
use lib.ListN.{length, length-append}
use Rattle.rules.specs.Clause.{mem}
use Rattle.rules.specs.Blocking.{literal}
use Rattle.rules.specs.Book.{Live, Entry, all, after, fault}
use Rattle.rules.proofs.Logic.{by_bool}
use Rattle.table.specs.Limits.{base}
use Rattle.table.specs.Table.{Table, offset, row, book_of, sound}
use Rattle.table.specs.Inner.{Shape}
use Rattle.table.proofs.Soundness.{sound_of, row_length, climb}
use Rattle.stack.specs.Tests.{entry_names}
use Rattle.saved.specs.Bytes.{digits, bytes_of}
use Rattle.saved.specs.Field.{Layout, narrow, end_tag, field}
use Rattle.saved.specs.Form.{Head, Line, head_bytes, lines_bytes, form_bytes, live_lines, removed_lines, form_of, encode, tag_at}
use Rattle.saved.proofs.Digits.{length_digits, length_bytes}
use Rattle.saved.proofs.Places.{left, sum_of, sum_to, left_all, one, ones, ones_of}
use Rattle.saved.proofs.Named.{named, length_named, names_new, live_named}

-- a field

pub length_field : (w tag : ℕ) (xs : List ℕ) → length (field w tag xs) ≡ 3 + w * length xs
unfolding field
length_field w tag xs =
    let a = length-append (digits 2 (w * length xs)) (bytes_of w xs) in
    omega (arith, length_digits 2 (w * length xs), length_bytes w xs)

-- the header
pub length_head : (lay : Layout) (h : Head) → length (head_bytes lay h) ≡ 3 + lay.width * 4
unfolding head_bytes
length_head lay h = length_field lay.width lay.header _

-- the lines' fields: three bytes each, and their numbers
unfoldable pub numbers_in : List Line → ℕ
numbers_in [] = 0
numbers_in (x ∷ xs) = length x + numbers_in xs

pub numbers_append : (xs ys : List Line) → numbers_in (xs ++ ys) ≡ numbers_in xs + numbers_in ys
unfolding numbers_in
numbers_append [] ys = omega arith
numbers_append (x ∷ xs) ys = omega (arith, numbers_append xs ys)

pub length_lines : (lay : Layout) (r : ℕ) (xs : List Line) → length (lines_bytes lay r xs) ≡ 3 * length xs + lay.width * numbers_in xs + 3
unfolding lines_bytes numbers_in
length_lines lay r [] = length_field lay.width end_tag [] ∙ omega (arith, mul-zero lay.width)
length_lines lay r (x ∷ xs) =
    let a = length-append (field lay.width (tag_at lay (length xs) r) x) (lines_bytes lay r xs) in
    let b = length_field lay.width (tag_at lay (length xs) r) x in
    let c = length_lines lay r xs in
    let d = mul-add lay.width (length x) (numbers_in xs) in
    omega arith

-- the lines of the live clauses, and of the removed ones
module _ (t : Table) where
  abbrev pub row_numbers : ℕ → ℕ
  row_numbers k = suc (length (row t k))

  module _ (L : Live) (gone : List ℕ) where
    pub live_count : (m : ℕ) → ((k : ℕ) → 1 ≤ k → k ≤ m → L k ≡ not (mem k gone)) → length (live_lines t L m) ≡ left one m gone
    unfolding live_lines left
    live_count zero h = refl
    live_count (suc m) h =
        let i = live_count m (λ k l u. h k l (omega arith)) in
        by_bool (mem (suc m) gone)
        (λ y. let e : L (suc m) ≡ false = h (suc m) (omega arith) (omega arith) ∙ ap not y in
        rw (e, y, length-append (live_lines t L m) []) (omega arith))
        (λ n. let e : L (suc m) ≡ true = h (suc m) (omega arith) (omega arith) ∙ ap not n in
        rw (e, n, length-append (live_lines t L m) ((suc m ∷ row t (suc m)) ∷ [])) (omega arith))

    pub live_numbers : (m : ℕ) → ((k : ℕ) → 1 ≤ k → k ≤ m → L k ≡ not (mem k gone)) → numbers_in (live_lines t L m) ≡ left row_numbers m gone
    unfolding live_lines left numbers_in
    live_numbers zero h = refl
    live_numbers (suc m) h =
        let i = live_numbers m (λ k l u. h k l (omega arith)) in
        by_bool (mem (suc m) gone)
        (λ y. let e : L (suc m) ≡ false = h (suc m) (omega arith) (omega arith) ∙ ap not y in
        rw (e, y, numbers_append (live_lines t L m) []) (omega arith))
        (λ n. let e : L (suc m) ≡ true = h (suc m) (omega arith) (omega arith) ∙ ap not n in
        rw (e, n, numbers_append (live_lines t L m) ((suc m ∷ row t (suc m)) ∷ [])) (omega arith))

  pub removed_count : (s : List (Entry literal)) → length (removed_lines t s) ≡ length s
  unfolding removed_lines
  removed_count [] = refl
  removed_count (e ∷ s) = ap suc (removed_count s)

  pub removed_numbers : (s : List (Entry literal)) → numbers_in (removed_lines t s) ≡ sum_of row_numbers (named s) + length s
  unfolding removed_lines numbers_in sum_of named
  removed_numbers [] = refl
  removed_numbers (e ∷ s) = omega (arith, removed_numbers s)

  -- the numbers of all rows
  pub rows_numbers : Shape t → (m : ℕ) → m ≤ t.clauses → sum_to row_numbers m + offset t 0 ≡ m + offset t m
  unfolding sum_to
  rows_numbers h zero u = refl
  rows_numbers h (suc m) u =
      let i = rows_numbers h m (omega arith) in
      let e : suc m - 1 ≡ m = omega arith in
      let l : length (row t (suc m)) ≡ offset t (suc m) - offset t m = rw e at (row_length t h (suc m) (omega arith) u) in
      let g = climb t h m (suc m) (omega arith) u in
      omega arith

-- the lines of a table and its stack
module _ (t : Table) (s : List (Entry literal)) (h : fault literal (entry_names t) (all (book_of t)) s ≡ 0) where
  abbrev live : Live
  live = after literal (all (book_of t)) s

  abbrev lines : List Line
  lines = live_lines t live t.clauses ++ removed_lines t s

  pub lives_count : length (live_lines t live t.clauses) + length s ≡ t.clauses
  lives_count =
      let a = live_count t live (named s) t.clauses (live_named t s) in
      let b = left_all one t.clauses (named s) (names_new t s h) in
      omega (arith, ones t.clauses, ones_of (named s), length_named s)

  pub lines_count : length lines ≡ t.clauses
  lines_count = omega (arith, length-append (live_lines t live t.clauses) (removed_lines t s), removed_count t s, lives_count)

  pub lines_numbers : Shape t → offset t 0 ≡ 0 → numbers_in lines ≡ t.clauses + length s + offset t t.clauses
  lines_numbers g z =
      let a = live_numbers t live (named s) t.clauses (live_named t s) in
      let b = left_all (row_numbers t) t.clauses (named s) (names_new t s h) in
      let c = rows_numbers t g t.clauses (omega arith) in
      omega (arith, numbers_append (live_lines t live t.clauses) (removed_lines t s), removed_numbers t s)

  -- the whole form, for any layout
  pub form_length : (lay : Layout) → Shape t → offset t 0 ≡ 0
      → length (encode lay t s) ≡ 6 + lay.width * 4 + 3 * t.clauses + lay.width * (t.clauses + length s + offset t t.clauses)
  unfolding encode form_bytes form_of
  form_length lay g z =
      let a = length-append (head_bytes lay (form_of t s).head) (lines_bytes lay (length s) lines) in
      let b = length_head lay (form_of t s).head in
      let c = length_lines lay (length s) lines in
      let d = ap (λ (n : ℕ). lay.width * n) (lines_numbers g z) in
      let e = lines_count in
      omega arith

pub encode_length : (t : Table) (s : List (Entry literal)) → sound base t ≡ true → fault literal (entry_names t) (all (book_of t)) s ≡ 0
    → length (encode narrow t s) ≡ 14 + 5 * t.clauses + 2 * length s + 2 * offset t t.clauses
encode_length t s q h = let a = form_length t s h narrow (sound_of t q).shape (sound_of t q).first in omega arith

-- "The longest form has 60,014 bytes."
pub longest : (t : Table) (s : List (Entry literal)) → sound base t ≡ true → fault literal (entry_names t) (all (book_of t)) s ≡ 0
    → length (encode narrow t s) ≤ 60014
longest t s q h =
    let a = encode_length t s q h in
    let b = (sound_of t q).clauses in
    let c = (sound_of t q).total in
    let d = lives_count t s h in
    omega arith
