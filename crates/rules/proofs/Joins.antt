-- The literal test from the two clauses as they stand, with no copy of either. Assumes nothing.
use mathlib.Core.Path.{◌≡◌, refl, sym, ap, ◌∙◌}
use mathlib.Core.Bool.{Bool, true, false, not, ◌&&◌, ◌||◌}
use mathlib.Core.List.{◌++◌}
use mathlib.Core.Logic.{◌↔◌, inl, inr, ◌≢◌}
use Prim.Native.Nat.{ℕ}
use borrow.Author.Tests.{eqb-false, ne_eqb, not-true}
use Rattle.rules.specs.Walk.{any}
use Rattle.rules.specs.Clause.{Clause, neg, mem, without, tautology}
use Rattle.rules.specs.Blocking.{resists}
use Rattle.rules.specs.Inner.{opposed, opposed_but}
use Rattle.rules.specs.Proposition.{◌∈◌, InUnion}
use Rattle.rules.proofs.Logic.{by_or, differ, and_true, or_true, or_yes, or_no, not_false, same}
use Rattle.rules.proofs.Members.{any_mem, mem_any, mem_in, in_mem}
use Rattle.rules.proofs.Literals.{neg_neg}
use Rattle.rules.proofs.Definition.{tautology_is, clash_is}

-- the test of one literal, and of one that is not z
opposed_is : (D : Clause) (z x : ℕ) → (opposed D z x ≡ true) ↔ ((neg x ∈ D) × (neg x ≢ z))
unfolding opposed
opposed_is D z x = (
  λ h. let q = simp and_true at h in (mem_in (neg x) D q.1, eqb-false (neg x) z (not-true _ q.0)),
  λ h. rw (ne_eqb (neg x) z h.1, in_mem (neg x) D h.0),
)

but_is : (D : Clause) (z x : ℕ) → (opposed_but D z x ≡ true) ↔ ((x ≢ z) × (opposed D z x ≡ true))
unfolding opposed_but
but_is D z x = (λ h. let q = simp and_true at h in (eqb-false x z (not-true _ q.0), q.1), λ h. rw (ne_eqb x z h.0, h.1))

-- a literal of D and one of C clash, whichever of the two is sought first
across : (C D : Clause) (z : ℕ) → any (opposed C (neg z)) D ≡ true → any (opposed D z) C ≡ true
across C D z h =
    let q = mem_any (opposed C (neg z)) D h in
    let r = (opposed_is C (neg z) q.0).0 q.2 in
    any_mem (opposed D z) C (neg q.0) (in_mem (neg q.0) C r.0)
    ((opposed_is D z (neg q.0)).1 (rw (neg_neg q.0) (mem_in q.0 D q.1), λ e. r.1 (ap neg (sym (neg_neg q.0) ∙ e))))

-- so a clash may be sought from either clause
pub opposed_either : (C D : Clause) (z : ℕ) → any (opposed C (neg z)) D ≡ any (opposed D z) C
opposed_either C D z = same _ _ (across C D z) (λ h. across D C (neg z) (rw (neg_neg z) h))

-- C together with D without z: a variable and its negation stand across the two, or both within D, or both within C
pub tautology_join : (C : Clause) (z : ℕ) (D : Clause)
    → tautology (C ++ without z D) ≡ (any (opposed D z) C || any (opposed_but D z) D || tautology C)
tautology_join C z D = same _ _ (λ h. parts ((clash_is C z D).0 h)) (λ h. (clash_is C z D).1 (whole h))
  where
    Parts : Type 0
    Parts = (any (opposed D z) C || any (opposed_but D z) D || tautology C) ≡ true

    Clash : Type 0
    Clash = (x : ℕ) × InUnion C z D x × InUnion C z D (neg x)

    across : (x : ℕ) → x ∈ C → neg x ∈ D → neg x ≢ z → Parts
    across x c d n = rw (any_mem (opposed D z) C x (in_mem x C c) ((opposed_is D z x).1 (d, n)))

    within : (x : ℕ) → x ∈ D → x ≢ z → neg x ∈ D → neg x ≢ z → Parts
    within x c m d n =
        rw (any_mem (opposed_but D z) D x (in_mem x D c) ((but_is D z x).1 (m, (opposed_is D z x).1 (d, n))), or_yes (any (opposed D z) C))

    own : (x : ℕ) → x ∈ C → neg x ∈ C → Parts
    own x c d = rw ((tautology_is C).1 (x, c, d)) (or_yes (any (opposed D z) C || any (opposed_but D z) D))

    parts : Clash → Parts
    parts p =
        by_or p.1
        (λ c. by_or p.2 (λ e. own p.0 c e) (λ e. across p.0 c e.0 e.1))
        (λ d. by_or p.2 (λ e. across (neg p.0) e (rw neg_neg d.0) (rw neg_neg d.1))
        (λ e. within p.0 d.0 d.1 e.0 e.1))

    whole : Parts → Clash
    whole h =
        by_or (or_true _ _ h)
        (λ a. by_or (or_true _ _ a)
        (λ b. let q = mem_any (opposed D z) C b in (q.0, inl (mem_in q.0 C q.1), inr ((opposed_is D z q.0).0 q.2)))
        (λ b. let q = mem_any (opposed_but D z) D b in
        let r = (but_is D z q.0).0 q.2 in
        (q.0, inr (mem_in q.0 D q.1, r.0), inr ((opposed_is D z q.0).0 r.1))))
        (λ a. let p = (tautology_is C).0 a in (p.0, inl p.1, inl p.2))

-- a clause that is no tautology is none without z either
plain_within : (D : Clause) (z : ℕ) → tautology D ≡ false → any (opposed_but D z) D ≡ false
plain_within D z p =
    not_false _ (λ t. let q = mem_any (opposed_but D z) D t in
    let r = (opposed_is D z q.0).0 ((but_is D z q.0).0 q.2).1 in
    differ ((tautology_is D).1 (q.0, mem_in q.0 D q.1, r.0)) p)

apart : (m a b c : Bool) → (m && not ((a || b) || c)) ≡ (m && not a && not b && not c)
apart false a b c = refl
apart true true b c = refl
apart true false true c = refl
apart true false false c = refl

-- the literal test by parts
pub resists_parts : (C : Clause) (l : ℕ) (D : Clause)
    → resists C l D ≡ (mem (neg l) D && not (any (opposed D (neg l)) C) && not (any (opposed_but D (neg l)) D) && not (tautology C))
unfolding resists
resists_parts C l D = rw (tautology_join C (neg l) D) (apart _ _ _ _)

pub resists_plain : (C : Clause) (l : ℕ) (D : Clause) → tautology C ≡ false → tautology D ≡ false
    → resists C l D ≡ (mem (neg l) D && not (any (opposed D (neg l)) C))
unfolding resists
resists_plain C l D c d = rw (tautology_join C (neg l) D, plain_within D (neg l) d, c) (simp or_no)
