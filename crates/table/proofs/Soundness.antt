-- What a sound table gives: its limits, its shape, and that every clause of it is sound. Assumes nothing.
use mathlib.Core.Path.{◌≡◌}
use mathlib.Core.Bool.{Bool, true, false, ◌&&◌}
use mathlib.Core.List.{[], ◌∷◌}
use mathlib.Core.Logic.{⊎_elim}
use Prim.Native.Nat.{ℕ, zero, suc, ◌+◌, ◌-◌, ◌*◌, ◌≤◌, ◌<◌}
use native.Mathlib.Nat.{le_refl, le_trans}
use native.Mathlib.Omega.{arith}
use mir.Syntax.{w32, w64}
use mir.Val.{Fits}
use borrow.Author.Tests.{eqb-true, leb-true, le-leb, lt-leb, not-true}
use lib.ListN.{length, get_or, take, length-take, length-drop}
use lib.Seq.{get_or-take, get_or-drop}
use Rattle.rules.specs.Walk.{every, every_to}
use Rattle.rules.specs.Clause.{Clause, mem}
use Rattle.rules.proofs.Logic.{by_eq, and_true, differ, not_false, same}
use Rattle.rules.proofs.Walks.{every_to_at}
use Rattle.rules.proofs.Members.{mem_nil, mem_cons, mem_at}
use Rattle.table.specs.Limits.{Limits, base}
use Rattle.table.specs.Table.{Table, offset, row, distinct, coded, sound_clause, rises, sound_row, sound, names}
use Rattle.table.specs.Inner.{Shape, ends_sound}

pub record Sound (t : Table) : Type 0 where
  pub variables : t.variables ≤ 2000
  pub clauses : t.clauses ≤ 4000
  pub first : offset t 0 ≡ 0
  pub total : offset t t.clauses ≤ 16000
  pub shape : Shape t
  pub clause : (k : ℕ) → 1 ≤ k → k ≤ t.clauses → sound_clause base t.variables (row t k) ≡ true

-- offsets that never fall are all at most the last one
pub climbs : (t : Table) (m : ℕ) → every_to (rises t) m ≡ true → (k : ℕ) → k ≤ m → offset t k ≤ offset t m
unfolding rises
climbs t zero h k l = let q : k ≡ 0 = omega arith in rw q (le_refl _)
climbs t (suc m) h k l =
    let one : suc m - 1 ≡ m = omega arith in
    let up : offset t (suc m - 1) ≤ offset t (suc m) = leb-true _ _ (every_to_at (rises t) (suc m) (suc m) h (omega arith) (omega arith)) in
    let step : offset t m ≤ offset t (suc m) = rw one at up in
    by_eq k (suc m) (λ e. rw e (le_refl (offset t (suc m))))
    (λ e. le_trans (climbs t m (unfold every_to in (simp and_true at h).0) k (omega arith)) step)

pub shape_of : (t : Table) → t.clauses < length t.offs → every_to (rises t) t.clauses ≡ true → offset t t.clauses ≤ length t.lits → Shape t
unfolding rises
shape_of t a r e = record {
  there = a;
  rising = λ k l u. leb-true _ _ (every_to_at (rises t) t.clauses k r l u);
  inside = λ k u. le_trans (climbs t t.clauses r k u) e;
}

pub sound_of : (t : Table) → sound base t ≡ true → Sound t
unfolding sound sound_row
sound_of t h =
    let q = simp and_true at h in
    let many : t.clauses + 1 ≤ length t.offs = leb-true _ _ q.0.0.0.0.0.1 in
    record {
      variables = leb-true _ _ q.0.0.0.0.0.0.0;
      clauses = leb-true _ _ q.0.0.0.0.0.0.1;
      first = eqb-true _ 0 q.0.0.0.0.1;
      total = leb-true _ _ q.0.0.1;
      shape = shape_of t (omega arith) q.0.0.0.1 (leb-true _ _ q.0.1);
      clause = λ k l u. every_to_at (sound_row base t) t.clauses k q.1 l u;
    }

-- offsets that may be read never fall, and twice an offset, its bytes, can be counted
pub climb : (t : Table) → Shape t → (j k : ℕ) → j ≤ k → k ≤ t.clauses → offset t j ≤ offset t k
climb t s j zero h u = let q : j ≡ 0 = omega arith in rw q (le_refl _)
climb t s j (suc k) h u =
    let one : suc k - 1 ≡ k = omega arith in
    let step : offset t k ≤ offset t (suc k) = rw one at (s.rising (suc k) (omega arith) u) in
    by_eq j (suc k) (λ e. rw e (le_refl (offset t (suc k)))) (λ e. le_trans (climb t s j k (omega arith) (omega arith)) step)

pub doubled_fits : {n : ℕ} → Fits w32 n → Fits w64 (n * 2)
doubled_fits {n} h = omega arith

-- a clause by its places in the literal buffer
module _ (t : Table) (shape : Shape t) (k : ℕ) (low : 1 ≤ k) (high : k ≤ t.clauses) where
  pub row_length : length (row t k) ≡ offset t k - offset t (k - 1)
  unfolding row
  row_length = simp (length-take, length-drop) (omega (arith, shape.rising k low high, shape.inside k high))

  pub row_at : (i : ℕ) → i < length (row t k) → get_or (row t k) i 0 ≡ get_or t.lits (offset t (k - 1) + i) 0
  row_at i l = at i (omega (arith, row_length))
    where
      at : (i : ℕ) → i < offset t k - offset t (k - 1) → get_or (row t k) i 0 ≡ get_or t.lits (offset t (k - 1) + i) 0
      at i h = unfold row in rw (get_or-take, get_or-drop)

-- every literal of a clause passes what every literal passes
pub every_mem : (p : ℕ → Bool) (C : Clause) (x : ℕ) → every p C ≡ true → mem x C ≡ true → p x ≡ true
every_mem p [] x h m = differ m (mem_nil x)
every_mem p (y ∷ C) x h m = let q = simp and_true at h in ⊎_elim (λ e. rw e q.0) (λ i. every_mem p C x q.1 i) (mem_cons x y C m)

pub coded_bounds : (n x : ℕ) → coded n x ≡ true → (2 ≤ x) × (x ≤ 2 * n + 1)
unfolding coded
coded_bounds n x h = let q = simp and_true at h in (leb-true _ _ q.0, leb-true _ _ q.1)

-- a literal of a clause of a sound table is the code of a variable from 1 to n or of its negation
pub literal_coded : (t : Table) → Sound t → (k x : ℕ) → 1 ≤ k → k ≤ t.clauses → mem x (row t k) ≡ true → (2 ≤ x) × (x ≤ 2 * t.variables + 1)
unfolding sound_clause
literal_coded t s k x l u m =
    let q = simp and_true at (s.clause k l u) in
    coded_bounds t.variables x (every_mem (coded t.variables) (row t k) x q.0.1 m)

pub row_distinct : (t : Table) → Sound t → (k : ℕ) → 1 ≤ k → k ≤ t.clauses → distinct (row t k) ≡ true
unfolding sound_clause
row_distinct t s k l u = (simp and_true at (s.clause k l u)).1

-- the literal at a place of a clause in which none stands twice is not among those before it
pub fresh_at : (C : Clause) (i : ℕ) → distinct C ≡ true → i < length C → mem (get_or C i 0) (take i C) ≡ false
unfolding distinct
fresh_at [] i d h = absurd (omega arith)
fresh_at (y ∷ C) zero d h = mem_nil y
fresh_at (y ∷ C) (suc i) d h =
    let q = simp and_true at d in
    let own : mem (get_or C i 0) C ≡ true = mem_at C i (omega arith) in
    not_false _ (λ m. ⊎_elim
    (λ e. differ (rw e at own) (not-true _ q.0))
    (λ r. differ r (fresh_at C i q.1 (omega arith)))
    (mem_cons (get_or C i 0) y (take i C) m))

-- one offset against the next
pub rises_at : (t : Table) (k : ℕ) → get_or t.offs k 0 ≤ get_or t.offs (k + 1) 0 → rises t (k + 1) ≡ true
unfolding rises offset
rises_at t k h = let e : k + 1 - 1 ≡ k = omega arith in rw e (le-leb _ _ h)

pub falls_at : (t : Table) (k : ℕ) → get_or t.offs (k + 1) 0 < get_or t.offs k 0 → rises t (k + 1) ≡ false
unfolding rises offset
falls_at t k h = let e : k + 1 - 1 ≡ k = omega arith in rw e (lt-leb _ _ h)

-- soundness as it is tested: the ends, then the offsets between them, then the clauses
pub sound_parts : (lim : Limits) (t : Table) → sound lim t ≡ (ends_sound lim t && every_to (rises t) t.clauses && every_to (sound_row lim t) t.clauses)
unfolding sound ends_sound
sound_parts lim t =
    same _ _
    (λ h. let q = simp and_true at h in simp and_true (((((q.0.0.0.0, q.0.0.1), q.0.1), q.0.0.0.1), q.1)))
    (λ h. let q = simp and_true at h in simp and_true (((((q.0.0.0.0, q.0.1), q.0.0.0.1), q.0.0.1), q.1)))

module _ (t : Table) (ends : ends_sound base t ≡ true) where
  pub ends_limits : (t.variables ≤ 2000) × (t.clauses ≤ 4000)
  unfolding ends_sound
  ends_limits = let q = simp and_true at ends in (leb-true _ _ q.0.0.0.0.0, leb-true _ _ q.0.0.0.0.1)

  pub ends_there : t.clauses < length t.offs
  unfolding ends_sound
  ends_there = let q = simp and_true at ends in let h : t.clauses + 1 ≤ length t.offs = leb-true _ _ q.0.0.0.1 in omega arith

  pub ends_shape : every_to (rises t) t.clauses ≡ true → Shape t
  unfolding ends_sound
  ends_shape r = shape_of t ends_there r (leb-true _ _ (simp and_true at ends).1)

-- the stretch of a clause, tested
pub row_tested : (lim : Limits) (t : Table) (k : ℕ) (C : Clause) → C ≡ row t k → sound_clause lim t.variables C ≡ sound_row lim t k
unfolding sound_row
row_tested lim t k C e = rw e

-- a number from 1 to m names a clause of a sound table
pub names_clause : (lim : Limits) (t : Table) (k : ℕ) → sound lim t ≡ true → 1 ≤ k → k ≤ t.clauses → names lim t k ≡ true
unfolding names
names_clause lim t k h l u = rw (h, le-leb 1 k l, le-leb k t.clauses u)

-- a clause of a sound table has at most 1,000 literals
pub row_short : (t : Table) → Sound t → (k : ℕ) → 1 ≤ k → k ≤ t.clauses → length (row t k) ≤ 1000
unfolding sound_clause
row_short t s k l u = leb-true _ _ (simp and_true at (s.clause k l u)).0.0
