-- The value found at a place, the header, the tests of a line's value, and the end, case by case. Assumes nothing.
use mathlib.Core.Path.{◌≡◌, refl, ap, ◌∙◌}
use mathlib.Core.Bool.{true, false, ◌&&◌}
use mathlib.Core.List.{List}
use mathlib.Core.Option.{Option, none, some}
use Prim.Native.Nat.{ℕ, ◌+◌, ◌-◌, ◌*◌, ◌/◌, ◌%◌, ◌≤◌, ◌<◌}
use native.Mathlib.Omega.{arith}
use native.Mathlib.Nat.{add-zero}
use lib.Dec.{eqb, leb}
use lib.ListN.{length, get_or, drop, length-drop}
use lib.Seq.{get_or-drop}
use borrow.Author.Tests.{eq-eqb, ne_eqb, le-leb, lt-leb, leb-true}
use Rattle.std.specs.Prelude.{Ok, Err}
use Rattle.rules.specs.Walk.{every}
use Rattle.rules.proofs.Logic.{and_true}
use Rattle.table.specs.Limits.{base}
use Rattle.table.specs.Table.{coded, distinct}
use Rattle.table.specs.Answer.{test, ◌then◌}
use Rattle.table.specs.declared.Refusal.{Refusal}
use Rattle.table.specs.declared.Refusal.TheVariants.{OverLimit, BadSaved}
use Rattle.table.proofs.Answers.{then_none, test_none}
use Rattle.table.specs.Res.{or_fault}
use Rattle.saved.specs.Bytes.{numbers_of}
use Rattle.saved.specs.Field.{narrow, tag_of, length_of, value_of, whole_field}
use Rattle.saved.specs.Form.{Head, Line, number_of}
use Rattle.saved.specs.Reading.{head_of, head_at, head_limits, line_length, line_limits, end_tests}
use Rattle.saved.proofs.Fields.{value_size}
use Rattle.saved_read.specs.Inner.{heads_of, Parts, value_at, header_of, new_on, block_on, sound_on, front_of, line_on}
use Rattle.saved_read.specs.declared.Kind.{Kind}
use Rattle.saved_read.proofs.Numbers.{length_numbers}

-- a value that comes after tests

pub given_by : {A : Type 0} (o : Option Refusal) (a v : A) → Ok a ≡ or_fault o (Ok v) → (o ≡ none) × (a ≡ v)
given_by none a v e = (refl, cc)
given_by (some r) a v e = absurd (cc)

pub refused_by : {A : Type 0} (o : Option Refusal) (x : Refusal) (v : A) → Err x ≡ or_fault o (Ok v) → o ≡ some x
refused_by none x v e = absurd (cc)
refused_by (some r) x v e = cc

-- the two first tests of a field
pub first_two : (w t r rest : Option Refusal) (x : Refusal) → (w then t) ≡ some x → ((w then t then r) then rest) ≡ some x
first_two none none r rest x e = absurd (cc)
first_two none (some y) r rest x e = e
first_two (some y) t r rest x e = e

module _ (b : List ℕ) (at tag : ℕ) where
  tag_at : tag_of (drop at b) ≡ get_or b at 0
  unfolding tag_of
  tag_at = get_or-drop at b 0 0 ∙ ap (λ (i : ℕ). get_or b i 0) (add-zero at)

  pub value_cut : length (drop at b) < 3 → value_at b at tag ≡ Err (BadSaved at)
  unfolding value_at whole_field
  value_cut h = rw (lt-leb 3 (length (drop at b)) h)

  pub value_short : 3 ≤ length (drop at b) → length (drop at b) - 3 < length_of (drop at b) → value_at b at tag ≡ Err (BadSaved at)
  unfolding value_at whole_field
  value_short l h = rw (le-leb 3 (length (drop at b)) l, lt-leb (length_of (drop at b)) (length (drop at b) - 3) h)

  whole_is : 3 ≤ length (drop at b) → length_of (drop at b) ≤ length (drop at b) - 3 → whole_field (drop at b) ≡ true
  unfolding whole_field
  whole_is l h = rw (le-leb 3 (length (drop at b)) l, le-leb (length_of (drop at b)) (length (drop at b) - 3) h)

  pub value_other : 3 ≤ length (drop at b) → length_of (drop at b) ≤ length (drop at b) - 3 → (tag_of (drop at b) ≡ tag → ⊥) → value_at b at tag ≡ Err (BadSaved at)
  unfolding value_at
  value_other l h t = rw (whole_is l h, ne_eqb (tag_of (drop at b)) tag t)

  pub value_whole : 3 ≤ length (drop at b) → length_of (drop at b) ≤ length (drop at b) - 3 → tag_of (drop at b) ≡ tag
      → value_at b at tag ≡ Ok (value_of (drop at b))
  unfolding value_at
  value_whole l h t = rw (whole_is l h, eq-eqb (tag_of (drop at b)) tag t)

  -- the value that was found
  pub record Found (v : List ℕ) : Type 0 where
    pub whole : whole_field (drop at b) ≡ true
    pub tagged : eqb (tag_of (drop at b)) tag ≡ true
    pub value : v ≡ value_of (drop at b)
    pub size : length v ≡ length_of (drop at b)
    pub within : at + 3 + length v ≤ length b

  pub whole_within : whole_field (drop at b) ≡ true → at + 3 + length_of (drop at b) ≤ length b
  unfolding whole_field
  whole_within w =
      let q = simp and_true at w in
      let p₁ = leb-true 3 (length (drop at b)) q.0 in
      let p₂ = leb-true (length_of (drop at b)) (length (drop at b) - 3) q.1 in
      let l = length-drop at b in
      omega arith

  pub value_found : (v : List ℕ) → Ok v ≡ value_at b at tag → Found v
  unfolding value_at
  value_found v e =
      let o = given_by (test (whole_field (drop at b)) (BadSaved at) then test (eqb (tag_of (drop at b)) tag) (BadSaved at)) v (value_of (drop at b)) e in
      let p = then_none (test (whole_field (drop at b)) (BadSaved at)) _ o.0 in
      let w = test_none (whole_field (drop at b)) (BadSaved at) p.0 in
      let s : length v ≡ length_of (drop at b) = ap length o.1 ∙ value_size (drop at b) w in
      let l = whole_within w in
      record {
        whole = w;
        tagged = test_none (eqb (tag_of (drop at b)) tag) (BadSaved at) p.1;
        value = o.1;
        size = s;
        within = omega arith;
      }

  pub lost : (x : Refusal) → Err x ≡ value_at b at tag → (test (whole_field (drop at b)) (BadSaved at) then test (eqb (tag_of (drop at b)) tag) (BadSaved at)) ≡ some x
  unfolding value_at
  lost x e = refused_by _ x (value_of (drop at b)) e

-- the header

pub head_lost : (b : List ℕ) (x : Refusal) → Err x ≡ value_at b 0 1 → header_of b ≡ Err x
unfolding header_of
head_lost b x e = rw (first_two (test (whole_field b) (BadSaved 0)) (test (eqb (tag_of b) 1) (BadSaved 0)) _ _ x (lost b 0 1 x e))

module _ (b v : List ℕ) (f : Found b 0 1 v) where
  pub head_other : (length v ≡ 8 → ⊥) → header_of b ≡ Err (BadSaved 0)
  unfolding header_of
  head_other h = rw (f.whole, f.tagged, ← f.size, ne_eqb (length v) 8 h)

  pub head_is : (h : Head) → length v ≡ 8 → h.variables ≡ get_or (numbers_of 2 v) 0 0 → h.clauses ≡ get_or (numbers_of 2 v) 1 0
      → h.literals ≡ get_or (numbers_of 2 v) 2 0 → h.removals ≡ get_or (numbers_of 2 v) 3 0
      → header_of b
      ≡ or_fault (test (leb h.variables 2_000 && leb h.clauses 4_000 && leb h.literals 16_000) (OverLimit 0) then test (leb h.removals h.clauses) (BadSaved 0)) (Ok h)
  unfolding header_of head_at head_of head_limits
  head_is h l p q s t = rw (f.whole, f.tagged, ← f.size, eq-eqb (length v) 8 l, ← f.value, ← p, ← q, ← s, ← t)

-- a line's value

module _ (kind : Kind) (h : Head) (last : ℕ) (parts : Parts) (x : Line) where
  pub sound_low : number_of x < 1 → sound_on kind h last parts x ≡ false
  unfolding sound_on
  sound_low i = rw (lt-leb 1 (number_of x) i)

  pub sound_high : 1 ≤ number_of x → h.clauses < number_of x → sound_on kind h last parts x ≡ false
  unfolding sound_on
  sound_high l i = rw (le-leb 1 (number_of x) l, lt-leb (number_of x) h.clauses i)

  pub sound_is : 1 ≤ number_of x → number_of x ≤ h.clauses
      → sound_on kind h last parts x
      ≡ (every (coded h.variables) (drop (heads_of kind) x) && distinct (drop (heads_of kind) x) && block_on kind x && new_on kind last parts (number_of x))
  unfolding sound_on
  sound_is l i = rw (le-leb 1 (number_of x) l, le-leb (number_of x) h.clauses i)

module _ (kind : Kind) (h : Head) (total last : ℕ) (parts : Parts) (v : List ℕ) (at : ℕ) where
  abbrev H : ℕ
  H = heads_of kind

  pub line_odd : (length v % 2 ≡ 0 → ⊥) → line_on kind h total last parts v at ≡ Err (BadSaved at)
  unfolding line_on line_length
  line_odd o = rw (ne_eqb (length v % 2) 0 o)

  pub line_short : length v % 2 ≡ 0 → length v < 2 * H → line_on kind h total last parts v at ≡ Err (BadSaved at)
  unfolding line_on line_length
  line_short e o = rw (eq-eqb (length v % 2) 0 e, lt-leb (2 * H) (length v) o)

  pub line_many : length v % 2 ≡ 0 → 2 * H ≤ length v → 1_000 < length v / 2 - H → line_on kind h total last parts v at ≡ Err (OverLimit at)
  unfolding line_on line_length line_limits
  line_many e o l = rw (eq-eqb (length v % 2) 0 e, le-leb (2 * H) (length v) o, length_numbers v, lt-leb (length v / 2 - H) 1_000 l)

  pub line_full : length v % 2 ≡ 0 → 2 * H ≤ length v → length v / 2 - H ≤ 1_000 → 16_000 < total + (length v / 2 - H)
      → line_on kind h total last parts v at ≡ Err (OverLimit at)
  unfolding line_on line_length line_limits
  line_full e o l u =
      rw (
        eq-eqb (length v % 2) 0 e,
        le-leb (2 * H) (length v) o,
        length_numbers v,
        le-leb (length v / 2 - H) 1_000 l,
        lt-leb (total + (length v / 2 - H)) 16_000 u,
      )

  pub line_is : length v % 2 ≡ 0 → 2 * H ≤ length v → length v / 2 - H ≤ 1_000 → total + (length v / 2 - H) ≤ 16_000
      → line_on kind h total last parts v at ≡ or_fault (test (sound_on kind h last parts (numbers_of 2 v)) (BadSaved at)) (Ok (front_of kind (numbers_of 2 v)))
  unfolding line_on line_length line_limits
  line_is e o l u =
      rw (
        eq-eqb (length v % 2) 0 e,
        le-leb (2 * H) (length v) o,
        length_numbers v,
        le-leb (length v / 2 - H) 1_000 l,
        le-leb (total + (length v / 2 - H)) 16_000 u,
      )

-- the end

module _ (b : List ℕ) (at : ℕ) (h : Head) (total : ℕ) where
  pub end_lost : (x : Refusal) → Err x ≡ value_at b at 127 → end_tests base narrow h total (drop at b) at ≡ some x
  end_lost x e = first_two (test (whole_field (drop at b)) (BadSaved at)) (test (eqb (tag_of (drop at b)) 127) (BadSaved at)) _ _ x (lost b at 127 x e)

  module _ (v : List ℕ) (f : Found b at 127 v) where
    pub end_long : (length v ≡ 0 → ⊥) → end_tests base narrow h total (drop at b) at ≡ some (BadSaved at)
    end_long l = rw (f.whole, f.tagged, ← f.size, ne_eqb (length v) 0 l)

    pub end_total : length v ≡ 0 → (total ≡ h.literals → ⊥) → end_tests base narrow h total (drop at b) at ≡ some (BadSaved at)
    end_total l u = rw (f.whole, f.tagged, ← f.size, eq-eqb (length v) 0 l, ne_eqb total h.literals u)

    pub end_more : length v ≡ 0 → total ≡ h.literals → at + 3 < length b → end_tests base narrow h total (drop at b) at ≡ some (BadSaved (at + 3))
    end_more l u n =
        let d = length-drop at b in
        rw (f.whole, f.tagged, ← f.size, eq-eqb (length v) 0 l, eq-eqb total h.literals u, ne_eqb (length (drop at b)) 3 (λ e. omega arith))

    pub end_right : length v ≡ 0 → total ≡ h.literals → length b ≤ at + 3 → end_tests base narrow h total (drop at b) at ≡ none
    end_right l u n =
        let d = length-drop at b in
        let w = f.within in
        rw (f.whole, f.tagged, ← f.size, eq-eqb (length v) 0 l, eq-eqb total h.literals u, eq-eqb (length (drop at b)) 3 (omega arith))
