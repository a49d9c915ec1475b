-- That the executable test says what Definition 2 says as a proposition. Assumes nothing.
use mathlib.Core.Path.{◌≡◌}
use mathlib.Core.Bool.{true, false}
use mathlib.Core.List.{◌++◌}
use mathlib.Core.Logic.{◌↔◌, inl, inr}
use Prim.Native.Nat.{ℕ}
use borrow.Author.Tests.{not-true}
use Rattle.rules.specs.Clause.{Clause, neg, mem, without, tautology}
use Rattle.rules.specs.Blocking.{resists, literal}
use Rattle.rules.specs.Book.{Book, Live, blocks}
use Rattle.rules.specs.Proposition.{◌∈◌, InUnion, Blocks}
use Rattle.rules.proofs.Logic.{by_bool, by_or, differ, and_true, not_false}
use Rattle.rules.proofs.Members.{any_mem, mem_any, append_l, append_r, mem_append, mem_without, without_mem, mem_in, in_mem}
use Rattle.rules.proofs.Laws.{blocks_fits, blocks_free, blocks_intro}

pub union_is : (C : Clause) (z : ℕ) (D : Clause) (x : ℕ) → (x ∈ (C ++ without z D)) ↔ InUnion C z D x
union_is C z D x = (
  λ h. by_or (mem_append x C (without z D) (in_mem x (C ++ without z D) h)) (λ c. inl (mem_in x C c))
      (λ d. let q = mem_without x z D d in inr (mem_in x D q.0, q.1)),
  λ h. mem_in x (C ++ without z D) (by_or h (λ c. append_l x C (without z D) (in_mem x C c))
      (λ d. append_r x C (without z D) (without_mem x z D (in_mem x D d.0) d.1))),
)

-- a variable and its negation, both in the clause
pub tautology_is : (C : Clause) → (tautology C ≡ true) ↔ ((x : ℕ) × (x ∈ C) × (neg x ∈ C))
unfolding tautology
tautology_is C = (
  λ h. let q = mem_any (λ x. mem (neg x) C) C h in (q.0, mem_in q.0 C q.1, mem_in (neg q.0) C q.2),
  λ p. any_mem (λ x. mem (neg x) C) C p.0 (in_mem p.0 C p.1) (in_mem (neg p.0) C p.2),
)

-- and both in C together with D without z
pub clash_is : (C : Clause) (z : ℕ) (D : Clause) → (tautology (C ++ without z D) ≡ true) ↔ ((x : ℕ) × InUnion C z D x × InUnion C z D (neg x))
clash_is C z D = (
  λ h. let p = (tautology_is (C ++ without z D)).0 h in (p.0, (union_is C z D p.0).0 p.1, (union_is C z D (neg p.0)).0 p.2),
  λ p. (tautology_is (C ++ without z D)).1 (p.0, (union_is C z D p.0).1 p.1, (union_is C z D (neg p.0)).1 p.2),
)

-- a clause that holds the negation of l does not keep it from blocking C exactly where there is such a clash
free_clash : (C : Clause) (l : ℕ) (D : Clause) → resists C l D ≡ false → neg l ∈ D → tautology (C ++ without (neg l) D) ≡ true
unfolding resists
free_clash C l D h m = let t = in_mem (neg l) D m in by_bool (tautology (C ++ without (neg l) D)) (λ a. a) (λ a. cc)

clash_free : (C : Clause) (l : ℕ) (D : Clause) → (neg l ∈ D → tautology (C ++ without (neg l) D) ≡ true) → resists C l D ≡ false
unfolding resists
clash_free C l D h = not_false _ (λ t. let q = simp and_true at t in differ (h (mem_in (neg l) D q.0)) (not-true _ q.1))

pub definition_2 : (b : Book) (L : Live) (k l : ℕ) → (blocks literal b L k l ≡ true) ↔ Blocks b L k l
definition_2 b L k l = (
  λ h. record {
    own = mem_in l (b.clause k) (blocks_fits literal b L k l h);
    clash = λ j o u a m. (clash_is (b.clause k) (neg l) (b.clause j)).0 (free_clash (b.clause k) l (b.clause j) (blocks_free literal b L k l h j o u a) m);
  },
  λ p. blocks_intro literal b L k l (in_mem l (b.clause k) p.own)
      (λ j o u a. clash_free (b.clause k) l (b.clause j) (λ m. (clash_is (b.clause k) (neg l) (b.clause j)).1 (p.clash j o u a m))),
)
