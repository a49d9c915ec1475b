-- What an accepted form is, and that reading accepts exactly the bytes of such forms: line by line, and whole. Assumes nothing.
use mathlib.Core.Path.{◌≡◌, refl, sym, ap, ◌∙◌}
use mathlib.Core.Bool.{Bool, true, false, cond, ◌||◌}
use mathlib.Core.List.{List, [], ◌∷◌, ◌++◌, append-nil}
use mathlib.Core.Option.{Option, none, some}
use Prim.Native.Nat.{ℕ, zero, suc, ◌+◌, ◌-◌, ◌*◌, ◌%◌, ◌^◌, ◌≤◌, ◌<◌}
use native.Mathlib.Nat.{eq_of_mul-eq-mul_left, mul-zero, mul_comm, zero-mod, mul-le-mul_left, le_of_mul-le-mul_left, mul-mod_right}
use native.Mathlib.Omega.{arith}
use lib.Dec.{eqb, leb, ltb}
use lib.ListN.{length, drop, length-drop}
use borrow.Author.Tests.{eq-eqb, eqb-true, le-leb, leb-true}
use Rattle.rules.specs.Walk.{every}
use Rattle.rules.specs.Clause.{mem}
use Rattle.rules.proofs.Logic.{and_true}
use Rattle.table.specs.Limits.{Limits, base}
use Rattle.table.specs.Table.{distinct, coded}
use Rattle.table.proofs.Answers.{then_none, test_none}
use Rattle.table.specs.Answer.{test, ◌then◌}
use Rattle.table.specs.declared.Refusal.{Refusal}
use Rattle.table.specs.declared.Refusal.TheVariants.{OverLimit, BadSaved}
use Rattle.table.proofs.Soundness.{every_mem, coded_bounds}
use Rattle.saved.specs.Bytes.{numbers_of}
use Rattle.saved.specs.Field.{Layout, narrow, end_tag, field, tag_of, length_of, value_of, whole_field}
use Rattle.saved.specs.Form.{Head, Line, Form, number_of, blocking_of, heads_at, tag_at, head_bytes, lines_bytes, form_bytes}
use Rattle.std.specs.Prelude.{Ok, Err}
use Rattle.table.specs.Res.{Res, on_ok, or_fault}
use Rattle.saved.specs.Reading.{field_tests, head_of, head_at, head_limits, head_tests, line_length, line_limits, new_number, line_sound, line_at, line_tests, end_tests, read_lines, read_form}
use Rattle.saved.proofs.Digits.{Bytes, Fit, bytes_drop, numbers_bytes}
use Rattle.saved.proofs.Lengths.{length_field}
use Rattle.saved.proofs.Fields.{written_tag, written_length, written_value, written_whole, written_rest, value_numbers, read_back}

-- tests

-- a test that was passed, and the tests after it
pub passed : (b : Bool) (r : Refusal) (o : Option Refusal) → (test b r then o) ≡ none → (b ≡ true) × (o ≡ none)
passed b r o e = let q = then_none (test b r) o e in (test_none b r q.0, q.1)

or_ok : {A : Type 0} (o : Option Refusal) (r : Res A) (a : A) → or_fault o r ≡ Ok a → (o ≡ none) × (r ≡ Ok a)
or_ok none r a e = (refl, e)
or_ok (some x) r a e = absurd (let z : ◌≡◌ {A = ℕ} 0 1 = cc in omega arith)

on_ok_lem : {A B : Type 0} (f : A → B) (r : Res A) (b : B) → on_ok f r ≡ Ok b → (a : A) × (r ≡ Ok a) × (f a ≡ b)
on_ok_lem f (Err x) b e = absurd (let z : ◌≡◌ {A = ℕ} 0 1 = cc in omega arith)
on_ok_lem f (Ok a) b e = (a, refl, cc)

-- the three tests of every field
pub field_passed : (tag : ℕ) (b : List ℕ) (at : ℕ) (right : Bool) → field_tests tag b at right ≡ none → (whole_field b ≡ true) × (tag_of b ≡ tag) × (right ≡ true)
field_passed tag b at right e =
    let p = passed (whole_field b) (BadSaved at) _ e in
    let q = passed (eqb (tag_of b) tag) (BadSaved at) _ p.1 in
    (p.0, eqb-true (tag_of b) tag q.0, test_none right (BadSaved at) q.1)

-- what is accepted

-- the limits' numbers and lengths can be said in the layout's bytes
pub record Suits (lim : Limits) (lay : Layout) : Type 0 where
  pub wide : 1 ≤ lay.width
  pub clauses : lim.clauses < 256 ^ lay.width
  pub codes : 2 * lim.variables + 1 < 256 ^ lay.width
  pub literals : lim.literals < 256 ^ lay.width
  pub line : lay.width * (lim.clause_literals + 2) < 65536
  pub header : lay.width * 4 < 65536

pub base_narrow : Suits base narrow
base_narrow = record {
  wide = omega arith;
  clauses = omega arith;
  codes = omega arith;
  literals = omega arith;
  line = omega arith;
  header = omega arith;
}

pub record GoodHead (lim : Limits) (h : Head) : Type 0 where
  pub variables : h.variables ≤ lim.variables
  pub clauses : h.clauses ≤ lim.clauses
  pub literals : h.literals ≤ lim.literals
  pub removals : h.removals ≤ h.clauses

-- what acceptance asks of a line by itself
pub record GoodLine (lim : Limits) (h : Head) (heads : ℕ) (x : Line) : Type 0 where
  pub long : heads ≤ length x
  pub short : length x - heads ≤ lim.clause_literals
  pub low : 1 ≤ number_of x
  pub high : number_of x ≤ h.clauses
  pub codes : every (coded h.variables) (drop heads x) ≡ true
  pub once : distinct (drop heads x) ≡ true
  pub blocking : (eqb heads 1 || mem (blocking_of x) (drop heads x)) ≡ true

-- of all lines, the last r of which are those of removed clauses
abbrev pub Each : Limits → Head → ℕ → List Line → Type 0
Each lim h r [] = Unit {0}
Each lim h r (x ∷ xs) = GoodLine lim h (heads_at (length xs) r) x × Each lim h r xs

-- of their numbers, after the numbers met
abbrev pub Newly : Limits → Layout → ℕ → List ℕ → List Line → Type 0
Newly lim lay r met [] = Unit {0}
Newly lim lay r met (x ∷ xs) = (new_number lim lay (heads_at (length xs) r) met (number_of x) ≡ true) × Newly lim lay r (number_of x ∷ met) xs

-- and of their literals in all
unfoldable pub literals_in : ℕ → List Line → ℕ
literals_in r [] = 0
literals_in r (x ∷ xs) = (length x - heads_at (length xs) r) + literals_in r xs

pub record GoodForm (lim : Limits) (lay : Layout) (f : Form) : Type 0 where
  pub head : GoodHead lim f.head
  pub count : length f.lines ≡ f.head.clauses
  pub each : Each lim f.head f.head.removals f.lines
  pub new : Newly lim lay f.head.removals [] f.lines
  pub total : literals_in f.head.removals f.lines ≡ f.head.literals

codes_fit : (w n : ℕ) (C : List ℕ) → 2 * n + 1 < 256 ^ w → every (coded n) C ≡ true → Fit w C
codes_fit w n [] l e = tt
codes_fit w n (x ∷ C) l e =
    let q = simp and_true at e in let b = (coded_bounds n x q.0).1 in (omega arith, codes_fit w n C l q.1)

module _ (lim : Limits) (lay : Layout) (suits : Suits lim lay) where
  -- a good line's numbers, and its length, can be said
  line_fits : (h : Head) (t : Bool) (x : Line) → GoodHead lim h → GoodLine lim h (cond t 2 1) x → Fit lay.width x
  line_fits h t [] g e = tt
  line_fits h false (k ∷ x) g e =
      let a = g.clauses in
      let b = e.high in
      let c = suits.clauses in
      let d = suits.codes in
      let v = g.variables in
      (omega arith, codes_fit lay.width h.variables x (omega arith) e.codes)
  line_fits h true (k ∷ []) g e = absurd (let z : 2 ≤ 1 = e.long in omega arith)
  line_fits h true (k ∷ l ∷ x) g e =
      let a = g.clauses in
      let b = e.high in
      let c = suits.clauses in
      let d = suits.codes in
      let v = g.variables in
      let u = (coded_bounds h.variables l (every_mem (coded h.variables) x l e.codes e.blocking)).1 in
      (omega arith, (omega arith, codes_fit lay.width h.variables x (omega arith) e.codes))

  line_small : (h : Head) (t : Bool) (x : Line) → GoodLine lim h (cond t 2 1) x → lay.width * length x < 65536
  line_small h t x e =
      let a : length x ≤ lim.clause_literals + 2 = by t e.short in
      let b = mul-le-mul_left lay.width a in
      let c = suits.line in
      omega arith
    where
      by : (t : Bool) → length x - cond t 2 1 ≤ lim.clause_literals → length x ≤ lim.clause_literals + 2
      by true l = omega arith
      by false l = omega arith

  module _ (h : Head) (g : GoodHead lim h) (c total : ℕ) (met : List ℕ) where
    abbrev heads : ℕ
    heads = heads_at c h.removals

    line_ok : (x : Line) (rest : List ℕ) (at : ℕ) → GoodLine lim h heads x → new_number lim lay heads met (number_of x) ≡ true
        → total + (length x - heads) ≤ lim.literals
        → line_tests lim lay h c total met (field lay.width (tag_at lay c h.removals) x ++ rest) at ≡ none
    unfolding line_length line_limits line_sound line_at
    line_ok x rest at e n l =
        let w = lay.width in
        let tag = tag_at lay c h.removals in
        let b = field w tag x ++ rest in
        let small = line_small h (ltb c h.removals) x e in
        let fit = line_fits h (ltb c h.removals) x g e in
        rw (
          written_whole w tag x rest small,
          eq-eqb (tag_of b) tag (written_tag w tag x rest),
          written_length w tag x rest small,
          eq-eqb (w * length x % w) 0 (mul-mod_right w (length x)),
          le-leb (w * heads) (w * length x) (mul-le-mul_left w e.long),
          written_value w tag x rest small,
          numbers_bytes w x suits.wide fit,
          le-leb (length x - heads) lim.clause_literals e.short,
          le-leb (total + (length x - heads)) lim.literals l,
          le-leb 1 (number_of x) e.low,
          le-leb (number_of x) h.clauses e.high,
          e.codes,
          e.once,
          e.blocking,
          n,
        )

    -- a line that was accepted is good, its number is new, and the bytes begin with its field
    line_good : (b : List ℕ) (at : ℕ) → line_tests lim lay h c total met b at ≡ none
        → GoodLine lim h heads (line_at lim lay b) × (new_number lim lay heads met (number_of (line_at lim lay b)) ≡ true)
        × (Bytes b → b ≡ field lay.width (tag_at lay c h.removals) (line_at lim lay b) ++ drop (3 + length_of b) b)
    unfolding line_length line_limits line_sound line_at
    line_good b at e =
        let w = lay.width in
        let x = numbers_of w (value_of b) in
        let p₁ = then_none (field_tests (tag_at lay c h.removals) b at (line_length lim lay heads (length_of b))) _ e in
        let p₂ = field_passed (tag_at lay c h.removals) b at (line_length lim lay heads (length_of b)) p₁.0 in
        let p₃ = passed (line_limits lim lay heads total x) (OverLimit at) _ p₁.1 in
        let p₄ = test_none (line_sound lim lay heads h met x) (BadSaved at) p₃.1 in
        let q₂ = simp and_true at p₂.2 in
        let q₃ = simp and_true at p₃.0 in
        let q₄ = simp and_true at p₄ in
        let m = eqb-true (length_of b % w) 0 q₂.0 in
        let n : w * length x ≡ length_of b = value_numbers b p₂.0 w suits.wide m in
        let l : w * heads ≤ w * length x = rw n (leb-true (w * heads) (length_of b) q₂.1) in (
          record {
            long = le_of_mul-le-mul_left l suits.wide;
            short = leb-true _ _ q₃.0;
            low = leb-true _ _ q₄.0.0.0.0.0;
            high = leb-true _ _ q₄.0.0.0.0.1;
            codes = q₄.0.0.0.1;
            once = q₄.0.0.1;
            blocking = q₄.0.1;
          },
          q₄.1,
          λ hb. rw p₂.1 at (read_back b p₂.0 w suits.wide hb m),
        )

  -- lists of lines
  module _ (h : Head) (g : GoodHead lim h) where
    abbrev r : ℕ
    r = h.removals

    lines_more : (x : Line) (xs : List Line) (met : List ℕ) (total at : ℕ) → GoodLine lim h (heads_at (length xs) r) x
        → new_number lim lay (heads_at (length xs) r) met (number_of x) ≡ true → total + (length x - heads_at (length xs) r) ≤ lim.literals
        → ((at : ℕ) → read_lines lim lay h (length xs) (number_of x ∷ met) (total + (length x - heads_at (length xs) r)) at (lines_bytes lay r xs) ≡ Ok xs)
        → read_lines lim lay h (suc (length xs)) met total at (lines_bytes lay r (x ∷ xs)) ≡ Ok (x ∷ xs)
    unfolding read_lines lines_bytes line_at
    lines_more x xs met total at e n l i =
        let w = lay.width in
        let tag = tag_at lay (length xs) r in
        let rest = lines_bytes lay r xs in
        let small = line_small h (ltb (length xs) r) x e in
        let fit = line_fits h (ltb (length xs) r) x g e in
        rw (
          line_ok h g (length xs) total met x rest at e n l,
          written_rest w tag x rest small,
          written_length w tag x rest small,
          written_value w tag x rest small,
          numbers_bytes w x suits.wide fit,
          i (at + (3 + w * length x)),
        )

    pub lines_read : (xs : List Line) (met : List ℕ) (total at : ℕ) → Each lim h r xs → Newly lim lay r met xs → total + literals_in r xs ≡ h.literals
        → read_lines lim lay h (length xs) met total at (lines_bytes lay r xs) ≡ Ok xs
    unfolding read_lines lines_bytes literals_in
    lines_read [] met total at e n l =
        let w = lay.width in
        let b = field w end_tag [] in
        let z : w * length {A = ℕ} [] ≡ 0 = mul-zero w in
        let small : w * length {A = ℕ} [] < 65536 = omega arith in
        let k = append-nil b in
        let whole : whole_field b ≡ true = rw k at (written_whole w end_tag [] [] small) in
        let tag : tag_of b ≡ end_tag = rw k at (written_tag w end_tag [] []) in
        let len : length_of b ≡ 0 = (rw k at (written_length w end_tag [] [] small)) ∙ z in
        let size : length b ≡ 3 = omega (arith, length_field w end_tag []) in
        rw (whole, eq-eqb (tag_of b) end_tag tag, eq-eqb (length_of b) 0 len, eq-eqb total h.literals (omega arith), eq-eqb (length b) 3 size)
    lines_read (x ∷ xs) met total at e n l =
        lines_more x xs met total at e.0 n.0 (let a = g.literals in omega arith)
        (λ at. lines_read xs (number_of x ∷ met) (total + (length x - heads_at (length xs) r)) at e.1 n.1 (omega arith))

    -- what is known of bytes that were accepted as the lines xs
    pub record Read (c : ℕ) (met : List ℕ) (total : ℕ) (b : List ℕ) (xs : List Line) : Type 0 where
      pub count : length xs ≡ c
      pub each : Each lim h r xs
      pub new : Newly lim lay r met xs
      pub sum : total + literals_in r xs ≡ h.literals
      pub bytes : Bytes b → b ≡ lines_bytes lay r xs

    no_more : (l : List ℕ) → length l ≡ 0 → l ≡ []
    no_more [] e = refl
    no_more (x ∷ l) e = absurd (omega arith)

    end_read : (met : List ℕ) (total at : ℕ) (b : List ℕ) → end_tests lim lay h total b at ≡ none → Read zero met total b []
    unfolding lines_bytes literals_in
    end_read met total at b e =
        let w = lay.width in
        let p₁ = then_none (field_tests end_tag b at (eqb (length_of b) 0)) _ e in
        let p₂ = field_passed end_tag b at (eqb (length_of b) 0) p₁.0 in
        let p₃ = passed (eqb total h.literals) (BadSaved at) _ p₁.1 in
        let n = eqb-true (length b) 3 (test_none (eqb (length b) 3) (BadSaved (at + 3)) p₃.1) in
        let l = eqb-true (length_of b) 0 p₂.2 in
        let m : length_of b % w ≡ 0 = rw l (zero-mod w) in
        let k = value_numbers b p₂.0 w suits.wide m in
        let v : numbers_of w (value_of b) ≡ [] = no_more (numbers_of w (value_of b)) (none_of (length (numbers_of w (value_of b))) (k ∙ l)) in
        let d = no_more (drop (3 + length_of b) b) (simp length-drop (omega arith)) in
        record {
          count = refl;
          each = tt;
          new = tt;
          sum = omega (arith, eqb-true total h.literals p₃.0);
          bytes = λ hb. rw (p₂.1, v, d, append-nil (field w end_tag [])) at (read_back b p₂.0 w suits.wide hb m);
        }
      where
        none_of : (n : ℕ) → lay.width * n ≡ 0 → n ≡ 0
        none_of n q = let a : lay.width * n ≤ lay.width * 0 = omega (arith, mul-zero lay.width) in let b = le_of_mul-le-mul_left a suits.wide in omega arith

    joined : (c : ℕ) (met : List ℕ) (total : ℕ) (b : List ℕ) (x : Line) (rest : List ℕ) (ys : List Line) → GoodLine lim h (heads_at c r) x
        → new_number lim lay (heads_at c r) met (number_of x) ≡ true → (Bytes b → b ≡ field lay.width (tag_at lay c r) x ++ rest) → (Bytes b → Bytes rest)
        → Read c (number_of x ∷ met) (total + (length x - heads_at c r)) rest ys → Read (suc c) met total b (x ∷ ys)
    unfolding lines_bytes literals_in
    joined c met total b x rest ys e n f k q =
        record {
          count = ap suc q.count;
          each = (rw q.count e, q.each);
          new = (rw q.count n, q.new);
          sum = let a = q.sum in rw q.count (omega arith);
          bytes = λ hb. rw (q.count, ← (q.bytes (k hb))) (f hb);
        }

    pub lines_were : (c : ℕ) (met : List ℕ) (total at : ℕ) (b : List ℕ) (xs : List Line) → read_lines lim lay h c met total at b ≡ Ok xs → Read c met total b xs
    unfolding read_lines
    lines_were zero met total at b xs e =
        let o = or_ok (end_tests lim lay h total b at) (Ok []) xs e in
        let q : [] ≡ xs = cc in
        rw (← q) (end_read met total at b o.0)
    lines_were (suc c) met total at b xs e =
        let x : Line = line_at lim lay b in
        let o = or_ok (line_tests lim lay h c total met b at) _ xs e in
        let q = on_ok_lem (λ (ys : List Line). x ∷ ys) _ xs o.1 in
        let l = line_good h g c total met b at o.0 in
        let i = lines_were c _ _ _ _ q.0 q.1 in
        rw (← q.2) (joined c met total b x (drop (3 + length_of b) b) q.0 l.0 l.1 l.2 (bytes_drop (3 + length_of b) b) i)

-- forms
abbrev head_numbers : Head → List ℕ
head_numbers h = h.variables ∷ h.clauses ∷ h.literals ∷ h.removals ∷ []

module _ (lim : Limits) (lay : Layout) (suits : Suits lim lay) where
  head_fits : (h : Head) → GoodHead lim h → Fit lay.width (head_numbers h)
  head_fits h g =
      let a = suits.clauses in
      let b = suits.codes in
      let c = suits.literals in
      let v = g.variables in
      let m = g.clauses in
      let t = g.literals in
      let r = g.removals in
      (omega arith, (omega arith, (omega arith, (omega arith, tt))))

  head_back : (h : Head) (rest : List ℕ) → GoodHead lim h → head_at lim lay (head_bytes lay h ++ rest) ≡ h
  unfolding head_bytes head_at head_of
  head_back h rest g =
      rw (written_value lay.width lay.header (head_numbers h) rest suits.header, numbers_bytes lay.width (head_numbers h) suits.wide (head_fits h g))

  head_ok : (h : Head) (rest : List ℕ) → GoodHead lim h → head_tests lim lay (head_bytes lay h ++ rest) ≡ none
  unfolding head_bytes head_limits
  head_ok h rest g =
      let w = lay.width in
      let b = field w lay.header (head_numbers h) ++ rest in
      rw (
        head_back h rest g,
        written_whole w lay.header (head_numbers h) rest suits.header,
        eq-eqb (tag_of b) lay.header (written_tag w lay.header (head_numbers h) rest),
        eq-eqb (length_of b) (4 * w) (written_length w lay.header (head_numbers h) rest suits.header ∙ mul_comm w 4),
        le-leb h.variables lim.variables g.variables,
        le-leb h.clauses lim.clauses g.clauses,
        le-leb h.literals lim.literals g.literals,
        le-leb h.removals h.clauses g.removals,
      )

  -- what was written is read
  pub form_read : (f : Form) → GoodForm lim lay f → read_form lim lay (form_bytes lay f) ≡ Ok f
  unfolding read_form form_bytes
  form_read f g =
      let w = lay.width in
      let h = f.head in
      let rest = lines_bytes lay h.removals f.lines in
      let b = head_bytes lay h ++ rest in
      let k : drop (3 + length_of b) b ≡ rest = unfold head_bytes in written_rest w lay.header (head_numbers h) rest suits.header in
      let i : (at : ℕ) → read_lines lim lay h h.clauses [] 0 at rest ≡ Ok f.lines =
      λ at. rw g.count at (lines_read lim lay suits h g.head f.lines [] 0 at g.each g.new (omega (arith, g.total))) in
      rw (head_ok h rest g.head, head_back h rest g.head, k, i (3 + length_of b))

  four : (x : List ℕ) → length x ≡ 4 → head_numbers (head_of lim lay x) ≡ x
  unfolding head_of
  four [] e = absurd (omega arith)
  four (a ∷ []) e = absurd (omega arith)
  four (a ∷ b ∷ []) e = absurd (omega arith)
  four (a ∷ b ∷ c ∷ []) e = absurd (omega arith)
  four (a ∷ b ∷ c ∷ d ∷ []) e = refl
  four (a ∷ b ∷ c ∷ d ∷ y ∷ x) e = absurd (omega arith)

  -- a header that was accepted is good, and the bytes begin with its field
  head_good : (b : List ℕ) → head_tests lim lay b ≡ none
      → GoodHead lim (head_at lim lay b) × (Bytes b → b ≡ head_bytes lay (head_at lim lay b) ++ drop (3 + length_of b) b)
  unfolding head_limits head_bytes head_at
  head_good b e =
      let w = lay.width in
      let h = head_of lim lay (numbers_of w (value_of b)) in
      let p₁ = then_none (field_tests lay.header b 0 (eqb (length_of b) (4 * w))) _ e in
      let p₂ = field_passed lay.header b 0 (eqb (length_of b) (4 * w)) p₁.0 in
      let p₃ = passed (head_limits lim lay h) (OverLimit 0) _ p₁.1 in
      let p₄ = test_none (leb h.removals h.clauses) (BadSaved 0) p₃.1 in
      let q = simp and_true at p₃.0 in
      let l : length_of b ≡ w * 4 = eqb-true (length_of b) (4 * w) p₂.2 ∙ mul_comm 4 w in
      let m : length_of b % w ≡ 0 = rw l (mul-mod_right w 4) in
      let n = value_numbers b p₂.0 w suits.wide m ∙ l in
      let v = four (numbers_of w (value_of b)) (eq_of_mul-eq-mul_left w suits.wide _ _ n) in (
        record {
          variables = leb-true _ _ q.0.0;
          clauses = leb-true _ _ q.0.1;
          literals = leb-true _ _ q.1;
          removals = leb-true _ _ p₄;
        },
        λ hb. rw p₂.1 at (read_back b p₂.0 w suits.wide hb m) ∙ ap (λ (x : List ℕ). field w lay.header x ++ drop (3 + length_of b) b) (sym v),
      )

  abbrev form : Head → List Line → Form
  form h xs = record { head = h; lines = xs }

  -- what was read is good, and is what was written
  pub form_was : (b : List ℕ) (f : Form) → read_form lim lay b ≡ Ok f → GoodForm lim lay f × (Bytes b → b ≡ form_bytes lay f)
  unfolding read_form form_bytes
  form_was b f e =
      let h : Head = head_at lim lay b in
      let o = or_ok (head_tests lim lay b) _ f e in
      let g = head_good b o.0 in
      let q = on_ok_lem (λ (xs : List Line). form h xs) _ f o.1 in
      let i = lines_were lim lay suits h g.0 h.clauses [] 0 (3 + length_of b) (drop (3 + length_of b) b) q.0 q.1 in
      rw (← q.2) (
        record { head = g.0; count = i.count; each = i.each; new = i.new; total = omega (arith, i.sum) },
        λ hb. rw (← (i.bytes (bytes_drop (3 + length_of b) b hb))) (g.1 hb),
      )
