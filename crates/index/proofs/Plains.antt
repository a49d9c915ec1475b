-- Marks of the plain clauses: a clause without a clash, literal by literal, and one mark more. Assumes nothing.
use mathlib.Core.Path.{◌≡◌, refl, sym, ◌∙◌}
use mathlib.Core.Bool.{Bool, true, false}
use mathlib.Core.List.{List}
use mathlib.Core.Logic.{◌⊎◌, inl, inr}
use Prim.Native.Nat.{ℕ, suc, ◌+◌, ◌≤◌, ◌<◌}
use native.Mathlib.Numerals.{add-one}
use native.Mathlib.Omega.{arith}
use borrow.Author.Tests.{eqb-true, eq-eqb, ne_eqb}
use lib.ListN.{length, get_or, take, set}
use lib.Seq.{take_all, get_or-set_same, get_or-set_other}
use Rattle.rules.specs.Clause.{Clause, neg, mem, tautology}
use Rattle.rules.specs.Proposition.{◌∈◌}
use Rattle.rules.proofs.Logic.{by_eq, by_or, differ, and_true, or_true, not_false}
use Rattle.rules.proofs.Members.{mem_in, in_mem, mem_at, mem_next}
use Rattle.rules.proofs.Literals.{neg_neg, neg_coded}
use Rattle.rules.proofs.Definition.{tautology_is}
use Rattle.table.specs.Limits.{base}
use Rattle.table.specs.Table.{Table, row, coded, sound_clause}
use Rattle.table.proofs.Soundness.{Sound, every_mem, coded_bounds, fresh_at}
use Rattle.table.proofs.Stamps.{Marked, marked_next}
use Rattle.index.specs.Index.{PlainTo, Plain}

-- no literal is its own negation
neg_other : (x : ℕ) → neg x ≡ x → ⊥
unfolding neg
neg_other x e = omega arith

pub plain_none : (C : Clause) → tautology (take 0 C) ≡ false
unfolding tautology
plain_none C = refl

-- one literal more, whose negation is not among those before it
plain_next : (C : Clause) (i : ℕ) → i < length C → tautology (take i C) ≡ false → mem (neg (get_or C i 0)) (take i C) ≡ false
    → tautology (take (suc i) C) ≡ false
plain_next C i l p n = not_false _ (λ t. clash ((tautology_is (take (suc i) C)).0 t))
  where
    either : (x : ℕ) → x ∈ take (suc i) C → (mem x (take i C) ≡ true) ⊎ (x ≡ get_or C i 0)
    either x m = by_or (or_true _ _ (sym (mem_next x C i l) ∙ in_mem x (take (suc i) C) m)) (λ a. inl a) (λ e. inr (eqb-true x _ e))

    clash : (x : ℕ) × (x ∈ take (suc i) C) × (neg x ∈ take (suc i) C) → ⊥
    clash q =
        by_or (either q.0 q.1)
        (λ a. by_or (either (neg q.0) q.2)
        (λ b. differ ((tautology_is (take i C)).1 (q.0, mem_in q.0 (take i C) a, mem_in (neg q.0) (take i C) b)) p)
        (λ e. differ (rw (← e, neg_neg) a) n))
        (λ a. by_or (either (neg q.0) q.2) (λ b. differ (rw a at b) n) (λ e. neg_other q.0 (e ∙ sym a)))

-- the literals of a sound clause, and their negations, have stamps
module _ (n : ℕ) (few : n ≤ 2000) (C : Clause) (s : sound_clause base n C ≡ true) (i : ℕ) (l : i < length C) where
  code_at : coded n (get_or C i 0) ≡ true
  unfolding sound_clause
  code_at = every_mem (coded n) C (get_or C i 0) (simp and_true at s).0.1 (mem_at C i l)

  pub stamps_there : (get_or C i 0 < 4002) × (neg (get_or C i 0) < 4002)
  stamps_there = let q = (coded_bounds n (get_or C i 0) code_at).1 in (omega arith, omega (arith, neg_coded n (get_or C i 0) q))

  -- one literal more is stamped, and clashes with none before it where its negation has another stamp
  module _ (k : ℕ) (seen : List ℕ) (known : Marked n C k seen i) where
    pub stamp_next : Marked n C k (set seen (get_or C i 0) k) (i + 1)
    unfolding sound_clause
    stamp_next =
        let fresh : mem (get_or C i 0) (take i C) ≡ false = fresh_at C i (simp and_true at s).1 l in
        marked_next n C k seen i known few l code_at (λ e. differ (known.marks (get_or C i 0) ∙ eq-eqb _ k e) fresh)

    pub plain_more : tautology (take i C) ≡ false → (z : ℕ) → z ≡ neg (get_or C i 0) → (get_or seen z 0 ≡ k → ⊥) → tautology (take (i + 1) C) ≡ false
    plain_more p z e f = rw add-one (plain_next C i l p (rw (← e) (known.marks z ∙ ne_eqb _ k f)))

pub plain_end : (C : Clause) (i : ℕ) → length C ≤ i → tautology (take i C) ≡ false → tautology C ≡ false
plain_end C i l p = rw (take_all i C l) at p

-- the stretch of a clause of a sound table is sound, and one that is marked is no tautology
module _ (t : Table) (k : ℕ) (C : Clause) (whole : C ≡ row t k) (low : 1 ≤ k) (high : k ≤ t.clauses) where
  pub row_sound : Sound t → sound_clause base t.variables C ≡ true
  row_sound s = rw whole (s.clause k low high)

  pub row_plain : {ms : List Bool} → Plain t ms → get_or ms k false ≡ true → tautology C ≡ false
  row_plain p h = rw whole (p.told k low high h)

-- one mark more
pub plain_mark : (t : Table) (ms : List Bool) (k : ℕ) (C : Clause) → C ≡ row t (k + 1) → (r : Bool) → (r ≡ true → tautology C ≡ false) → k + 1 < length ms
    → PlainTo t ms k → PlainTo t (set ms (k + 1) r) (k + 1)
plain_mark t ms k C w r f h p j a b e =
    by_eq j (k + 1)
    (λ q. rw (q, ← w) (f (sym (get_or-set_same ms (k + 1) r false h) ∙ rw q at e)))
    (λ n. p j a (omega arith) (sym (get_or-set_other ms (k + 1) j r false n) ∙ e))
