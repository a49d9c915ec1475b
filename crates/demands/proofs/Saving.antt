-- Demand 2, second sentence: what is written is read back, what was read is written again, and what is read passes the check. Assumes nothing.
use mathlib.Core.Path.{◌≡◌, refl, sym, ap, subst, ◌∙◌}
use mathlib.Core.Bool.{Bool, true, false}
use mathlib.Core.List.{List, [], ◌∷◌, ◌++◌}
use mathlib.Core.Option.{Option, none, some}
use mathlib.Core.Logic.{◌⊎◌, inl, inr}
use Prim.Native.Nat.{ℕ, zero, suc, ◌+◌, ◌≤◌}
use native.Mathlib.Omega.{arith}
use borrow.Author.Tests.{le-leb, leb-true}
use lib.Dec.{leb}
use lib.ListN.{length, take, drop, length-take, take-append-drop}
use lib.Seq.{take_at}
use Rattle.rules.specs.Blocking.{literal}
use Rattle.rules.specs.Book.{Entry, all, fault}
use Rattle.rules.proofs.Laws.{all_within, valid_same}
use Rattle.table.specs.Limits.{base}
use Rattle.table.specs.Table.{Table, table, offset, row, book_of, sound}
use Rattle.table.specs.Stack.{entries, words, lay}
use Rattle.table.specs.Answer.{answered, refused, test, test_at, ◌then◌, unless, outcome, decided}
use Rattle.std.specs.Prelude.{Ok, Err}
use Rattle.table.specs.Res.{Res}
use Rattle.table.specs.declared.Refusal.{Refusal}
use Rattle.table.specs.declared.Refusal.TheVariants.{NoRoom, BadValues, NotModel, NotBlocking}
use Rattle.table.proofs.Answers.{not_answered, then_none, test_none, test_at_none}
use Rattle.table.proofs.Soundness.{sound_of}
use Rattle.table.proofs.Laying.{length_lay, lay_front}
use Rattle.table.proofs.Longer.{longer, offset_longer, row_longer, longer_sound}
use Rattle.table.proofs.Stacks.{length_entries, length_words, entries_laid}
use Rattle.stack.specs.Tests.{table_tests, lent_tests, blocking_tests, bad_entry, unblocked_entry, entry_names, live_after, check}
use Rattle.stack.specs.Inner.{Passed}
use Rattle.stack.proofs.Refusals.{lent_passed}
use Rattle.rules.specs.Rebuild.{falsified}
use Rattle.table.specs.Values.{values_of, bad_value}
use Rattle.rebuild.specs.Rebuild.{rebuilding}
use Rattle.saved.specs.Field.{narrow}
use Rattle.saved.specs.Form.{Form, form_of, form_bytes, encode}
use Rattle.saved.specs.Reading.{read_form, literals_of, table_of, stack_of}
use Rattle.saved.specs.Saved.{Loaded, loaded, room_tests, unblocked, unpacked, or_kept, accepted, writing, reading}
use Rattle.saved.proofs.Lengths.{longest}
use Rattle.saved.proofs.Packed.{length_offsets, packed_offset}
use Rattle.saved.proofs.Sound.{read_sound, read_names, good_sound}
use Rattle.saved.proofs.RoundTrip.{made_good, table_back, stack_back, written_read}
use Rattle.saved.proofs.ReadBack.{good_again, read_written}
use Rattle.demands.specs.Calls.{stack}
use Rattle.demands.specs.Demands.{Checked, saved, written_to, Buffers, Roomy, read_into, SameAs, ReadsBack, LongestForm, Read, table_in, WritesBack, ReadsChecked, RebuildTakes}
use Rattle.demands.proofs.Reaching.{Valid, Right, valid_names, valid_blocks, valid_short, names_blocks, lent_tests_lem, blocking_tests_lem}

-- what the stack check accepts -------------------------------------------------

unless_none : (o : Option Refusal) → unless o (answered []) ≡ answered [] → o ≡ none
unless_none none h = refl
unless_none (some r) h = absurd (not_answered r [] (sym h))

module _ (t : Table) (ws : List ℕ) (c : ℕ) (k : Checked t ws c) where
  checks : (lent_tests base t ws c true ≡ none) × (blocking_tests t ws c ≡ none)
  unfolding check
  checks = then_none _ _ (unless_none _ k)

  passed : Passed t ws c
  passed = (lent_passed t ws c true checks.0).0

  names : fault literal (entry_names t) (all (book_of t)) (entries ws c) ≡ 0
  unfolding bad_entry
  names = passed.none_bad

  right : Right t (entries ws c)
  unfolding unblocked_entry
  right = names_blocks t (entries ws c) names (test_at_none _ _ checks.1)

-- more cells behind a sound table ------------------------------------------------

module _ (t : Table) (h : sound base t ≡ true) (lits offs : List ℕ) where
  abbrev more : Table
  more = longer t lits offs t.clauses

  rows : (k : ℕ) → 1 ≤ k → k ≤ t.clauses → row more k ≡ row t k
  rows k l u = row_longer t lits offs t.clauses k (sound_of t h).shape l u

  right_more : (es : List (Entry literal)) → Right t es → Right more es
  right_more es r = valid_same literal (book_of t) (book_of more) refl (λ k l u. sym (rows k l u)) (all (book_of t)) (all_within (book_of t)) es r

  right_less : (es : List (Entry literal)) → Right more es → Right t es
  right_less es r = valid_same literal (book_of more) (book_of t) refl rows (all (book_of more)) (all_within (book_of more)) es r

-- written, then read -------------------------------------------------------------

module _ (t : Table) (ws : List ℕ) (c : ℕ) (k : Checked t ws c) where
  abbrev es : List (Entry literal)
  es = entries ws c

  abbrev form : Form
  form = form_of t es

  t_sound : sound base t ≡ true
  t_sound = (passed t ws c k).table_sound

  written : (out : List ℕ) → length (saved t ws c) ≤ length out
      → written_to t ws c out ≡ outcome (answered (length (saved t ws c) ∷ [])) (lay (saved t ws c) out)
  unfolding writing
  written out r = rw ((checks t ws c k).0, (checks t ws c k).1, le-leb _ _ r)

  -- the table that is read has the cells that the clauses take, and t has more behind them
  back : Table
  back = table_of form

  shorter : longer back (drop (offset t t.clauses) t.lits) (drop (t.clauses + 1) t.offs) t.clauses ≡ t
  unfolding back table_of form_of
  shorter =
      let b = table_back t es t_sound (names t ws c k) in
      λ i. table t.variables t.clauses
      ((ap (λ (z : List ℕ). z ++ drop (offset t t.clauses) t.lits) b.0 ∙ take-append-drop (offset t t.clauses) t.lits) i)
      ((ap (λ (z : List ℕ). z ++ drop (t.clauses + 1) t.offs) b.1 ∙ take-append-drop (t.clauses + 1) t.offs) i)

  back_sound : sound base back ≡ true
  unfolding back
  back_sound = good_sound base narrow form (made_good t es t_sound (names t ws c k) narrow)

  none_unblocked : unblocked form ≡ 0
  unfolding unblocked back table_of form_of
  none_unblocked =
      let z = right_less back back_sound (drop (offset t t.clauses) t.lits) (drop (t.clauses + 1) t.offs) es (subst (λ x. Right x es) (sym shorter) (right t ws c k)) in
      rw (stack_back t es t_sound (names t ws c k)) (valid_blocks back es z)

  reads : (b : Buffers) → Roomy b → read_into (saved t ws c) b ≡ unpacked form b.lits b.offs b.stack
  unfolding reading
  reads b r =
      rw (
        le-leb _ _ r.literals,
        le-leb _ _ r.offsets,
        le-leb _ _ r.words,
        written_read t es t_sound (names t ws c k),
        none_unblocked,
      )

  -- the cells of t that the clauses take
  abbrev taken : List ℕ
  taken = take (offset t t.clauses) t.lits

  abbrev ends : List ℕ
  ends = take (t.clauses + 1) t.offs

  taken_length : length taken ≡ offset t t.clauses
  taken_length = simp length-take (omega (arith, (sound_of t t_sound).shape.inside t.clauses (omega arith)))

  ends_length : length ends ≡ t.clauses + 1
  ends_length = simp length-take (omega (arith, (sound_of t t_sound).shape.there))

  unpacked_is : (b : Buffers)
      → unpacked form b.lits b.offs b.stack
      ≡ loaded (answered (t.variables ∷ t.clauses ∷ c ∷ [])) (lay taken b.lits) (lay ends b.offs) (lay (words es) b.stack)
  unfolding unpacked
  unpacked_is b =
      let q = table_back t es t_sound (names t ws c k) in
      rw (q.0, q.1, stack_back t es t_sound (names t ws c k), length_entries ws c) (unfold table_of form_of in refl)

  same_as : (b : Buffers) → SameAs t ws c (unpacked form b.lits b.offs b.stack)
  same_as b = rw (unpacked_is b) (record {
    counts = refl;
    literals = lay_front taken b.lits (offset t t.clauses) taken_length;
    offsets = lay_front ends b.offs (t.clauses + 1) ends_length;
    stack_entries = ap (entries (lay (words es) b.stack)) (sym (length_entries ws c)) ∙ entries_laid es b.stack;
  })

pub reads_back : ReadsBack
reads_back t ws c k out room b roomy =
    rw (written t ws c k out room) (
      refl,
      rw (lay_front (saved t ws c) out (length (saved t ws c)) refl, reads t ws c k b roomy) (same_as t ws c k b),
    )

pub longest_form : LongestForm
longest_form t ws c k = longest t (entries ws c) (passed t ws c k).table_sound (names t ws c k)

-- read, then written -------------------------------------------------------------

-- a form that was read
record Got (bytes : List ℕ) (b : Buffers) (n m c : ℕ) : Type 0 where
  pub form : Form
  pub accepted : read_form base narrow bytes ≡ Ok form
  pub blocking : unblocked form ≡ 0
  pub words_room : 8000 ≤ length b.stack
  pub left : read_into bytes b ≡ unpacked form b.lits b.offs b.stack
  pub variables : (table_of form).variables ≡ n
  pub clauses : (table_of form).clauses ≡ m
  pub count : length (stack_of form) ≡ c

kept_answered : (o : Option Refusal) (L O S : List ℕ) (u : Loaded) (vs : List ℕ) → (or_kept o L O S u).reply ≡ answered vs → (o ≡ none) × (u.reply ≡ answered vs)
kept_answered none L O S u vs h = (refl, h)
kept_answered (some r) L O S u vs h = absurd (not_answered r vs (sym h))

read_form_lem : (x : Res Form) (L O S : List ℕ) (vs : List ℕ) → (accepted x L O S).reply ≡ answered vs
    → (f : Form) × (x ≡ Ok f) × (unblocked f ≡ 0) × ((unpacked f L O S).reply ≡ answered vs)
read_form_lem (Err r) L O S vs h = absurd (not_answered r vs (sym h))
read_form_lem (Ok f) L O S vs h =
    let q = kept_answered (test_at (unblocked f) NotBlocking) L O S (unpacked f L O S) vs h in
    (f, refl, test_at_none _ _ q.0, q.1)

form_left : (o : Option Refusal) (x : Res Form) (f : Form) (L O S : List ℕ) → o ≡ none → x ≡ Ok f → unblocked f ≡ 0 → or_kept o L O S (accepted x L O S) ≡ unpacked f L O S
form_left o x f L O S a b d = rw (a, b, d)

words_enough : (L O S : List ℕ) → room_tests base L O S ≡ none → 8000 ≤ length S
words_enough L O S h =
    let a = then_none (test (leb 16000 (length L)) NoRoom) (test (leb 4001 (length O)) NoRoom then test (leb 8000 (length S)) NoRoom) h in
    let b = then_none (test (leb 4001 (length O)) NoRoom) (test (leb 8000 (length S)) NoRoom) a.1 in
    leb-true 8000 (length S) (test_none (leb 8000 (length S)) NoRoom b.1)

got : (bytes : List ℕ) (b : Buffers) (n m c : ℕ) → Read bytes b n m c → Got bytes b n m c
got bytes b n m c r =
    let h : (or_kept (room_tests base b.lits b.offs b.stack) b.lits b.offs b.stack
    (accepted (read_form base narrow bytes) b.lits b.offs b.stack)).reply ≡ answered (n ∷ m ∷ c ∷ []) = unfold reading in r.answer in
    let a = kept_answered (room_tests base b.lits b.offs b.stack) b.lits b.offs b.stack
    (accepted (read_form base narrow bytes) b.lits b.offs b.stack) (n ∷ m ∷ c ∷ []) h in
    let q = read_form_lem (read_form base narrow bytes) b.lits b.offs b.stack (n ∷ m ∷ c ∷ []) a.1 in
    let e : answered ((table_of q.0).variables ∷ (table_of q.0).clauses ∷ length (stack_of q.0) ∷ []) ≡ answered (n ∷ m ∷ c ∷ []) = unfold unpacked in q.3 in
    record {
      form = q.0;
      accepted = q.1;
      blocking = q.2;
      words_room = words_enough b.lits b.offs b.stack a.0;
      left = unfold reading in form_left (room_tests base b.lits b.offs b.stack) (read_form base narrow bytes) q.0 b.lits b.offs b.stack a.0 q.1 q.2;
      variables = cc;
      clauses = cc;
      count = cc;
    }

-- what was read lies in the buffers with more cells behind it
module _ (bytes : List ℕ) (b : Buffers) (n m c : ℕ) (r : Read bytes b n m c) where
  abbrev g : Got bytes b n m c
  g = got bytes b n m c r

  abbrev small : Table
  small = table_of g.form

  abbrev es' : List (Entry literal)
  es' = stack_of g.form

  abbrev large : Table
  large = longer small (drop (length small.lits) b.lits) (drop (length small.offs) b.offs) small.clauses

  table_in_lem : table_in n m (read_into bytes b) ≡ large
  unfolding unpacked lay
  table_in_lem =
      ap (λ (o : Loaded). table_in n m o) g.left
      ∙ λ i. table (sym g.variables i) (sym g.clauses i) (lay small.lits b.lits) (lay small.offs b.offs)

  words_in : (read_into bytes b).stack ≡ lay (words es') b.stack
  words_in = rw g.left (unfold unpacked in refl)

  small_sound : sound base small ≡ true
  small_sound = read_sound bytes g.form g.accepted

  small_right : Right small es'
  small_right = names_blocks small es' (read_names bytes g.form g.accepted) (unfold unblocked in g.blocking)

  large_sound : sound base large ≡ true
  large_sound = longer_sound base small _ _ small_sound

  large_right : Right large es'
  large_right = right_more small small_sound _ _ es' small_right

  entries_in_lem : entries (lay (words es') b.stack) c ≡ es'
  entries_in_lem = ap (entries (lay (words es') b.stack)) (sym g.count) ∙ entries_laid es' b.stack

  words_fit : length (words es') ≤ length b.stack
  words_fit =
      let a = length_words es' in
      let d = valid_short small es' small_right in
      let e = (sound_of small small_sound).clauses in
      omega (arith, g.words_room)

  valid_in : Valid large (stack (lay (words es') b.stack) c)
  valid_in = record {
    room =
        let e = (sound_of small small_sound).clauses in
        rw (length_lay (words es') b.stack words_fit) (omega (arith, g.words_room));
    right = rw entries_in_lem large_right;
  }

  -- the tests of the calls on a table and a stack
  lent_in : (room : Bool) → room ≡ true → lent_tests base large (lay (words es') b.stack) c room ≡ none
  lent_in room h = lent_tests_lem large (stack (lay (words es') b.stack) c) valid_in large_sound room h

  blocking_in : blocking_tests large (lay (words es') b.stack) c ≡ none
  blocking_in = blocking_tests_lem large (stack (lay (words es') b.stack) c) valid_in

  -- the form of what lies in the buffers is the form that was read
  abbrev again : Form
  again = form_of large es'

  table_again : table_of again ≡ small
  unfolding table_of form_of
  table_again =
      let k = table_back large es' large_sound (valid_names large es' large_right) in
      let z : offset large small.clauses ≡ length small.lits =
      offset_longer small _ _ small.clauses small.clauses (sound_of small small_sound).shape.there ∙ small_end in
      λ i. table small.variables small.clauses
      ((k.0 ∙ take_at small.lits _ (offset large small.clauses) (sym z)) i)
      ((k.1 ∙ take_at small.offs _ (small.clauses + 1) small_many) i)
    where
      small_end : offset small small.clauses ≡ length small.lits
      small_end = unfold table_of in packed_offset (literals_of g.form.head.removals g.form.lines) g.form.head.variables g.form.head.clauses g.form.head.clauses (omega arith)

      small_many : length small.offs ≡ small.clauses + 1
      small_many = unfold table_of in length_offsets (literals_of g.form.head.removals g.form.lines) g.form.head.clauses

  written_again : encode narrow large es' ≡ bytes
  unfolding encode
  written_again =
      let n = valid_names large es' large_right in
      ap (form_bytes narrow) (sym (good_again base narrow again (made_good large es' large_sound n narrow)))
      ∙ rw (table_again, stack_back large es' large_sound n) (read_written bytes g.form r.small g.accepted)

pub reads_checked : ReadsChecked
reads_checked bytes b n m c r =
    rw (table_in_lem bytes b n m c r, words_in bytes b n m c r) (
      large_sound bytes b n m c r,
      unfold check in rw (lent_in bytes b n m c r true refl, blocking_in bytes b n m c r),
    )

pub writes_back : WritesBack
writes_back bytes b n m c r out room =
    rw (table_in_lem bytes b n m c r, words_in bytes b n m c r)
    (unfold writing in rw (
      lent_in bytes b n m c r true refl,
      blocking_in bytes b n m c r,
      entries_in_lem bytes b n m c r,
      written_again bytes b n m c r,
      le-leb _ _ room,
    ))

-- what is left of rebuild's tests
late_refusals : (bad low : ℕ) (cells new : List ℕ) (number place : ℕ)
    → (decided (test_at bad BadValues then test_at low NotModel) cells (outcome (answered []) new)).reply ≡ refused number place
    → (number ≡ 3) ⊎ (number ≡ 8) ⊎ (number ≡ 9)
late_refusals zero zero cells new number place h = absurd (let z : ◌≡◌ {A = ℕ} 0 1 = cc in omega arith)
late_refusals zero (suc low) cells new number place h = inr (inr cc)
late_refusals (suc bad) low cells new number place h = inr (inl cc)

module _ (t : Table) (ws : List ℕ) (c : ℕ) (vs : List ℕ) (number place : ℕ) where
  takes : (room : Bool) → lent_tests base t ws c true ≡ none → blocking_tests t ws c ≡ none → (bad low : ℕ) (new : List ℕ)
      → (decided (lent_tests base t ws c room then blocking_tests t ws c then test_at bad BadValues then test_at low NotModel) vs (outcome (answered []) new)).reply
      ≡ refused number place
      → (number ≡ 3) ⊎ (number ≡ 8) ⊎ (number ≡ 9)
  takes true p q bad low new h = late_refusals bad low vs new number place (rw (p, q) at h)
  takes false p q bad low new h = let e : table_tests base t ws ≡ none = (then_none _ _ p).0 in inl (let z : refused 3 0 ≡ refused number place = rw e at h in cc)

  rebuild_late : lent_tests base t ws c true ≡ none → blocking_tests t ws c ≡ none → (rebuilding base t ws c vs).reply ≡ refused number place
      → (number ≡ 3) ⊎ (number ≡ 8) ⊎ (number ≡ 9)
  unfolding rebuilding
  rebuild_late p q h = takes (leb t.variables (length vs)) p q (bad_value vs t.variables) (falsified (book_of t) (live_after t ws c) (values_of vs)) _ h

pub rebuild_takes : RebuildTakes
rebuild_takes bytes b n m c r vs number place h =
    let ws = lay (words (es' bytes b n m c r)) b.stack in
    rebuild_late (large bytes b n m c r) ws c vs number place (lent_in bytes b n m c r true refl) (blocking_in bytes b n m c r)
    (subst (λ x. (rebuilding base x ws c vs).reply ≡ refused number place) (table_in_lem bytes b n m c r)
    (subst (λ x. (rebuilding base (table_in n m (read_into bytes b)) x c vs).reply ≡ refused number place) (words_in bytes b n m c r) h))
