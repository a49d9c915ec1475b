-- The form's bytes in their parts, header, live clauses, removed clauses and end, and each part grown field by field. Assumes nothing.
use mathlib.Core.Path.{◌≡◌, refl, sym, ap, ◌∙◌}
use mathlib.Core.Bool.{Bool, true, false, cond}
use mathlib.Core.List.{List, [], ◌∷◌, ◌++◌, append_assoc, append-nil}
use Prim.Native.Nat.{ℕ, zero, suc, ◌+◌, ◌*◌, ◌≤◌, ◌<◌}
use native.Mathlib.Nat.{le_refl, le_trans}
use native.Mathlib.Numerals.{add-one}
use native.Mathlib.Omega.{arith}
use borrow.Author.Tests.{lt-ltb, le-ltb}
use lib.ListN.{length, get_or, length-append}
use Rattle.rules.specs.Walk.{upto}
use Rattle.rules.specs.Blocking.{literal}
use Rattle.rules.specs.Book.{Live, Entry, all, after}
use Rattle.rules.proofs.Logic.{by_eq}
use Rattle.table.specs.Limits.{base}
use Rattle.table.specs.Table.{Table, offset, row, book_of, sound}
use Rattle.table.specs.Stack.{entry_at, entries}
use Rattle.table.proofs.Soundness.{sound_of, row_short}
use Rattle.table.proofs.Stacks.{length_entries}
use Rattle.index.specs.Index.{live_of}
use Rattle.stack.specs.Tests.{live_after}
use Rattle.saved.specs.Field.{narrow, end_tag, field}
use Rattle.saved.specs.Form.{Line, head_bytes, lines_bytes, form_bytes, live_lines, removed_lines, form_of, encode}
use Rattle.saved.proofs.Lengths.{length_field, removed_count}
use Rattle.saved_write.specs.Inner.{fields_of, live_line, removed_line, Put}
use Rattle.saved_write.proofs.Laying.{put_none}

fields_append : (tag : ℕ) (xs ys : List Line) → fields_of tag (xs ++ ys) ≡ fields_of tag xs ++ fields_of tag ys
unfolding fields_of
fields_append tag [] ys = refl
fields_append tag (x ∷ xs) ys = rw (fields_append tag xs ys, append_assoc (field 2 tag x) (fields_of tag xs) (fields_of tag ys))

fields_one : (tag : ℕ) (x : Line) → fields_of tag (x ∷ []) ≡ field 2 tag x
unfolding fields_of
fields_one tag x = append-nil (field 2 tag x)

-- the lines of a form in their two parts
gone_fields : (r : ℕ) (gs : List Line) → length gs ≤ r → lines_bytes narrow r gs ≡ fields_of 3 gs ++ field 2 end_tag []
unfolding lines_bytes fields_of
gone_fields r [] h = refl
gone_fields r (x ∷ gs) h =
    rw (lt-ltb (length gs) r (omega arith), gone_fields r gs (omega arith), append_assoc (field 2 3 x) (fields_of 3 gs) (field 2 end_tag []))

part_fields : (r : ℕ) (ls gs : List Line) → length gs ≡ r → lines_bytes narrow r (ls ++ gs) ≡ fields_of 2 ls ++ fields_of 3 gs ++ field 2 end_tag []
unfolding lines_bytes fields_of
part_fields r [] gs h = gone_fields r gs (omega arith)
part_fields r (x ∷ ls) gs h =
    rw (
      le-ltb (length (ls ++ gs)) r (omega (arith, length-append ls gs)),
      part_fields r ls gs h,
      append_assoc (field 2 2 x) (fields_of 2 ls) (fields_of 3 gs),
      append_assoc (field 2 2 x) (fields_of 2 ls ++ fields_of 3 gs) (field 2 end_tag []),
    )

-- the header, the live clauses' fields, the removed ones', and the end
module _ (t : Table) (s : List (Entry literal)) where
  abbrev head_field : ℕ → List ℕ
  head_field r = field 2 1 (t.variables ∷ t.clauses ∷ offset t t.clauses ∷ r ∷ [])

  abbrev lives : List Line
  lives = live_lines t (after literal (all (book_of t)) s) t.clauses

  encode_parts : encode narrow t s ≡ head_field (length s) ++ fields_of 2 lives ++ fields_of 3 (removed_lines t s) ++ field 2 end_tag []
  unfolding encode form_bytes form_of head_bytes
  encode_parts =
      let h = head_field (length s) in
      let g = fields_of 3 (removed_lines t s) in
      rw (
        part_fields (length s) lives (removed_lines t s) (removed_count t s),
        append_assoc h (fields_of 2 lives) g,
        append_assoc h (fields_of 2 lives ++ g) (field 2 end_tag []),
      )

-- a list that grows is never longer than it becomes
grows : (f : ℕ → List ℕ) (g : ℕ → List ℕ) → ((k : ℕ) → f (suc k) ≡ f k ++ g k) → (k m : ℕ) → k ≤ m → length (f k) ≤ length (f m)
grows f g h k zero l = let q : k ≡ 0 = omega arith in rw q (le_refl _)
grows f g h k (suc m) l =
    let e : length (f (suc m)) ≡ length (f m) + length (g m) = ap length (h m) ∙ length-append (f m) (g m) in
    by_eq k (suc m) (λ q. rw q (le_refl _)) (λ q. le_trans (grows f g h k m (omega arith)) (omega arith))

-- the live clauses, one more
module _ (t : Table) (L : Live) where
  abbrev pub live_fields : ℕ → List ℕ
  live_fields k = fields_of 2 (live_lines t L k)

  live_next : (k : ℕ) → live_fields (suc k) ≡ live_fields k ++ fields_of 2 (live_line t L (suc k))
  unfolding live_lines live_line
  live_next k = fields_append 2 (live_lines t L k) (cond (L (suc k)) ((suc k ∷ row t (suc k)) ∷ []) [])

  pub live_more : (k : ℕ) → live_fields (k + 1) ≡ live_fields k ++ fields_of 2 (live_line t L (k + 1))
  live_more k = rw add-one (live_next k)

  pub live_room : (k m : ℕ) {old out : List ℕ} {at : ℕ} → k < m → length (live_fields m) ≤ length old → Put (live_fields k) old out at
      → at + length (fields_of 2 (live_line t L (k + 1))) ≤ length old
  live_room k m h room p =
      let a = grows live_fields (λ j. fields_of 2 (live_line t L (suc j))) live_next (suc k) m (omega arith) in
      let b = ap length (live_next k) ∙ length-append (live_fields k) (fields_of 2 (live_line t L (suc k))) in
      rw add-one (omega (arith, p.long))

  pub live_start : (old : List ℕ) → Put (live_fields 0) old old 0
  unfolding live_lines fields_of
  live_start old = put_none old

-- one clause
module _ (t : Table) (marks : List Bool) (k : ℕ) where
  line_here : get_or marks k false ≡ true → fields_of 2 (live_line t (live_of marks) k) ≡ field 2 2 (k ∷ row t k)
  unfolding live_line live_of
  line_here h = rw h (fields_one 2 (k ∷ row t k))

  pub line_gone : get_or marks k false ≡ false → fields_of 2 (live_line t (live_of marks) k) ≡ []
  unfolding live_line live_of fields_of
  line_gone h = rw h

module _ (t : Table) (s : sound base t ≡ true) (k : ℕ) (l : 1 ≤ k) (u : k ≤ t.clauses) {C : List ℕ} (e : C ≡ row t k) where
  pub live_written : (marks : List Bool) → get_or marks k false ≡ true → field 2 2 (k ∷ C) ≡ fields_of 2 (live_line t (live_of marks) k)
  live_written marks h = rw e (sym (line_here t marks k h))

  short : length C ≤ 1000
  short = rw e (row_short t (sound_of t s) k l u)

  pub live_fits : (marks : List Bool) → get_or marks k false ≡ true → {len : ℕ} → length (fields_of 2 (live_line t (live_of marks) k)) ≤ len
      → (length C ≤ 1000) × (3 + 2 * (1 + length C) ≤ len)
  live_fits marks h room =
      let a = ap length (live_written marks h) in
      let b = length_field 2 2 (k ∷ C) in
      (short, omega arith)

  pub removed_written : (x : ℕ) → field 2 3 (k ∷ x ∷ C) ≡ field 2 3 (removed_line t (k, x))
  unfolding removed_line
  removed_written x = rw e

  pub removed_fits : (x : ℕ) {len : ℕ} → length (field 2 3 (removed_line t (k, x))) ≤ len → (length C ≤ 1000) × (3 + 2 * (2 + length C) ≤ len)
  removed_fits x room =
      let a = ap length (removed_written x) in
      let b = length_field 2 3 (k ∷ x ∷ C) in
      (short, omega arith)

-- the removed clauses, one more
removed_append : (t : Table) (s : List (Entry literal)) (e : Entry literal) → removed_lines t (s ++ e ∷ []) ≡ removed_lines t s ++ removed_line t e ∷ []
unfolding removed_lines removed_line
removed_append t [] e = refl
removed_append t (x ∷ s) e = rw (removed_append t s e)

module _ (t : Table) (ws : List ℕ) where
  abbrev pub removed_fields : ℕ → List ℕ
  removed_fields c = fields_of 3 (removed_lines t (entries ws c))

  removed_next : (c : ℕ) → removed_fields (suc c) ≡ removed_fields c ++ field 2 3 (removed_line t (entry_at ws c))
  removed_next c =
      let a : removed_fields (suc c) ≡ fields_of 3 (removed_lines t (entries ws c) ++ removed_line t (entry_at ws c) ∷ []) =
      unfold entries upto in ap (fields_of 3) (removed_append t (upto (entry_at ws) c) (entry_at ws c)) in
      a
      ∙ fields_append 3 (removed_lines t (entries ws c)) (removed_line t (entry_at ws c) ∷ [])
      ∙ ap (λ (z : List ℕ). removed_fields c ++ z) (fields_one 3 (removed_line t (entry_at ws c)))

  pub removed_more : (c : ℕ) → removed_fields (c + 1) ≡ removed_fields c ++ field 2 3 (removed_line t (entry_at ws c))
  removed_more c = rw add-one (removed_next c)

  pub removed_room : (i c : ℕ) {old out : List ℕ} {at : ℕ} → i < c → length (removed_fields c) ≤ length old → Put (removed_fields i) old out at
      → at + length (field 2 3 (removed_line t (entry_at ws i))) ≤ length old
  removed_room i c h room p =
      let a = grows removed_fields (λ j. field 2 3 (removed_line t (entry_at ws j))) removed_next (suc i) c (omega arith) in
      let b = ap length (removed_next i) ∙ length-append (removed_fields i) (field 2 3 (removed_line t (entry_at ws i))) in
      omega (arith, p.long)

  pub removed_start : (old : List ℕ) → Put (removed_fields 0) old old 0
  unfolding entries upto removed_lines fields_of
  removed_start old = put_none old

-- the whole form of a table and its open stack, whose live clauses are marked
module _ (t : Table) (ws : List ℕ) (c : ℕ) (marks : List Bool) (marked : live_of marks ≡ live_after t ws c) where
  abbrev pub head_fields : List ℕ
  head_fields = field 2 1 (t.variables ∷ t.clauses ∷ offset t t.clauses ∷ c ∷ [])

  live_marked : live_of marks ≡ after literal (all (book_of t)) (entries ws c)
  unfolding live_after
  live_marked = marked

  pub form_whole : head_fields ++ live_fields t (live_of marks) t.clauses ++ removed_fields t ws c ++ field 2 end_tag [] ≡ encode narrow t (entries ws c)
  form_whole = rw (encode_parts t (entries ws c), live_marked, length_entries ws c)

  pub form_room : {len : ℕ} → length (encode narrow t (entries ws c)) ≤ len
      → 11 + length (live_fields t (live_of marks) t.clauses) + length (removed_fields t ws c) + 3 ≤ len
  form_room h =
      let l = live_fields t (live_of marks) t.clauses in
      let r = removed_fields t ws c in
      let e = ap length form_whole in
      let a = length-append (head_fields ++ l ++ r) (field 2 end_tag []) in
      let b = length-append (head_fields ++ l) r in
      let d = length-append head_fields l in
      omega (arith, length_field 2 1 (t.variables ∷ t.clauses ∷ offset t t.clauses ∷ c ∷ []), length_field 2 end_tag [])
