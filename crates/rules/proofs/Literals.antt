-- Blocking by one literal is sound: the flip makes the removed clause true and keeps every other true. Assumes nothing.
use mathlib.Core.Path.{◌≡◌, refl, sym, ◌∙◌, ap}
use mathlib.Core.Bool.{true, false, not}
use mathlib.Core.List.{◌++◌}
use mathlib.Core.Logic.{◌≢◌, ⊎_elim}
use Prim.Native.Nat.{ℕ, ◌+◌, ◌-◌, ◌*◌, ◌/◌, ◌%◌, ◌≤◌}
use native.Mathlib.Omega.{arith}
use lib.Dec.{eqb}
use borrow.Author.Tests.{eq-eqb, ne_eqb}
use Rattle.rules.specs.Walk.{any}
use Rattle.rules.specs.Clause.{Clause, Values, neg, mem, without, tautology, value, holds, flip}
use Rattle.rules.specs.Blocking.{resists, literal}
use Rattle.rules.proofs.Logic.{by_bool, by_eq, differ, not_not}
use Rattle.rules.proofs.Members.{any_mem, mem_any, any_false, mem_append, mem_without, mem_in}
use Rattle.rules.proofs.Laws.{Sound}

pub neg_neg : (l : ℕ) → neg (neg l) ≡ l
unfolding neg
neg_neg l = omega arith

pub neg_half : (l : ℕ) → neg l / 2 ≡ l / 2
unfolding neg
neg_half l = omega arith

-- the negation of a variable's code or of its negation's is such a code
pub neg_coded : (n l : ℕ) → l ≤ 2 * n + 1 → neg l ≤ 2 * n + 1
unfolding neg
neg_coded n l h = omega arith

neg_odd : (l : ℕ) → neg l % 2 ≡ 1 - l % 2
unfolding neg
neg_odd l = omega arith

pub value_neg : (v : Values) (l : ℕ) → value v (neg l) ≡ not (value v l)
unfolding value
value_neg v l =
    rw (neg_half, neg_odd)
    (by_eq (l % 2) 0 (λ e. rw e) (λ n. let e : l % 2 ≡ 1 = omega arith in rw e (sym (not_not _))))

pub value_flip : (v : Values) (l : ℕ) → value (flip v l) l ≡ not (value v l)
unfolding value flip
value_flip v l = rw (eq-eqb (l / 2) (l / 2) refl) (by_bool (eqb (l % 2) 0) (λ t. rw t) (λ f. rw f))

pub value_flip_other : (v : Values) (l x : ℕ) → x ≢ l → x ≢ neg l → value (flip v l) x ≡ value v x
unfolding value flip neg
value_flip_other v l x n m = rw (ne_eqb (x / 2) (l / 2) (λ e. omega arith))

-- the values after a flip of a false literal: every literal but its negation that was true is true
kept : (v : Values) (l x : ℕ) → value v l ≡ false → x ≢ neg l → value v x ≡ true → value (flip v l) x ≡ true
kept v l x f n t = by_eq x l (λ e. differ (rw e at t) f) (λ m. rw (value_flip_other v l x m n) t)

-- a tautology is true under all values
pub tautology_holds : (v : Values) (C : Clause) → tautology C ≡ true → holds v C ≡ true
unfolding tautology holds
tautology_holds v C h =
    let q = mem_any (λ x. mem (neg x) C) C h in
    by_bool (value v q.0) (λ t. any_mem (value v) C q.0 q.1 t)
    (λ f. any_mem (value v) C (neg q.0) q.2 (value_neg v q.0 ∙ ap not f))

literal_own : (v : Values) (C : Clause) (l : ℕ) → mem l C ≡ true → holds v C ≡ false → holds (flip v l) C ≡ true
unfolding holds
literal_own v C l m h = any_mem _ C l m (value_flip v l ∙ ap not (any_false (value v) C l h m))

literal_other : (v : Values) (C D : Clause) (l : ℕ) → mem l C ≡ true
    → resists C l D ≡ false → holds v C ≡ false → holds v D ≡ true → holds (flip v l) D ≡ true
unfolding holds tautology resists
literal_other v C D l m free h t =
    by_bool (mem (neg l) D)
    (λ y. let tau = by_bool (tautology (C ++ W)) (λ a. a) (λ a. cc) in
    let q = mem_any (value v) (C ++ W) (tautology_holds v (C ++ W) tau) in
    ⊎_elim (λ c. differ q.2 (any_false (value v) C q.0 h c))
    (λ w. let r = mem_without q.0 (neg l) D w in win q.0 r.0 r.1 q.2)
    (mem_append q.0 C W q.1))
    (λ n. let r = mem_any (value v) D t in win r.0 r.1 (λ e. differ (rw e at r.1) n) r.2)
  where
    W : Clause
    W = without (neg l) D

    win : (x : ℕ) → mem x D ≡ true → x ≢ neg l → value v x ≡ true → any (value (flip v l)) D ≡ true
    win x d n a = any_mem _ D x d (kept v l x (any_false (value v) C l h m) n a)

pub literal_sound : Sound literal
literal_sound = record {
  listed = λ C l h. (l, mem_in l C h, h, λ D n. n);
  own = λ v C l f h. literal_own v C l f h;
  other = λ v C D l f n h t. literal_other v C D l f n h t;
}
