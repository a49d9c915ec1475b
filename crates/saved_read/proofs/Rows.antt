-- The table filled from the places remembered, clause by clause. Assumes nothing.
use mathlib.Core.Path.{◌≡◌, refl, sym, ap, ◌∙◌}
use mathlib.Core.List.{List, []}
use Prim.Native.Nat.{ℕ, zero, suc, ◌+◌, ◌-◌, ◌≤◌, ◌<◌}
use native.Mathlib.Omega.{arith}
use native.Mathlib.Numerals.{add-one}
use lib.ListN.{length, take, drop, set, length-append}
use borrow.Rule.Slice.PartMut.{put_mid}
use Rattle.rules.specs.Walk.{upto}
use Rattle.rules.specs.Clause.{Clause}
use Rattle.rules.proofs.Walks.{upto_same}
use Rattle.rules.proofs.Logic.{by_eq}
use Rattle.table.specs.Stack.{lay}
use Rattle.saved.specs.Reading.{all_literals, all_offsets}
use Rattle.saved.proofs.Packed.{length_offsets}
use Rattle.table.proofs.Laying.{set_lay, lay_over, tail_laid}

module _ (f : ℕ → Clause) where
  pub length_more : (k : ℕ) → length (all_literals f (k + 1)) ≡ length (all_literals f k) + length (f (k + 1))
  length_more k = rw (add-one k) (unfold all_literals in length-append (all_literals f k) (f (suc k)))

  last : (m : ℕ) → length (all_literals f m) ≤ length (all_literals f (suc m))
  unfolding all_literals
  last m = let z = length-append (all_literals f m) (f (suc m)) in omega arith

  pub length_most : (m k : ℕ) → k ≤ m → length (all_literals f k) ≤ length (all_literals f m)
  length_most zero k u = let e : k ≡ 0 = omega arith in rw e (omega arith)
  length_most (suc m) k u =
      by_eq k (suc m) (λ e. rw e (omega arith))
      (λ e. let a = length_most m k (omega arith) in let z = last m in omega arith)

  pub literals_start : (o : List ℕ) → o ≡ lay (all_literals f 0) o
  unfolding all_literals lay
  literals_start o = refl

  pub offsets_start : (o : List ℕ) → 0 < length o → set o 0 0 ≡ lay (all_offsets f 0) o
  unfolding all_offsets all_literals upto lay
  offsets_start o h = set_lay [] o 0 0 refl h

  pub offsets_begin : (o : List ℕ) → 0 < length o → set o 0 0 ≡ lay (all_offsets f 0) (set o 0 0)
  offsets_begin o h = offsets_start o h ∙ sym (lay_over (all_offsets f 0) o 0 (omega (arith, length_offsets f 0)))

  pub literals_none : 0 ≡ length (all_literals f 0)
  unfolding all_literals
  literals_none = refl

  pub literals_more : (k at : ℕ) (old out ys : List ℕ) → out ≡ lay (all_literals f k) old → at ≡ length (all_literals f k)
      → ys ≡ lay (f (k + 1)) (take (length out - at) (drop at out)) → put_mid at (length out - at) out ys ≡ lay (all_literals f (k + 1)) old
  literals_more k at old out ys e h y =
      tail_laid (all_literals f k) (f (k + 1)) old out ys at e (sym h) y ∙ rw (add-one k) (unfold all_literals in refl)

  pub offsets_more : (k x : ℕ) (old out : List ℕ) → out ≡ lay (all_offsets f k) old → k + 1 < length old → x ≡ length (all_literals f (k + 1))
      → set out (k + 1) x ≡ lay (all_offsets f (k + 1)) old
  offsets_more k x old out e l h =
      rw (e, h) (set_lay (all_offsets f k) old (length (all_literals f (k + 1))) (k + 1) (length_offsets f k) l ∙ rw (add-one k) (unfold all_offsets upto in refl))

-- the same clauses give the same lists
pub literals_same : (f g : ℕ → Clause) (m : ℕ) → ((k : ℕ) → f k ≡ g k) → all_literals f m ≡ all_literals g m
unfolding all_literals
literals_same f g zero h = refl
literals_same f g (suc m) h = rw (literals_same f g m h, h (suc m))

pub offsets_same : (f g : ℕ → Clause) (m : ℕ) → ((k : ℕ) → f k ≡ g k) → all_offsets f m ≡ all_offsets g m
unfolding all_offsets
offsets_same f g m h =
    upto_same (λ (k : ℕ). length (all_literals f k)) (λ (k : ℕ). length (all_literals g k)) (suc m) (λ k u. ap length (literals_same f g k h))
