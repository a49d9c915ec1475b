-- A clause tested by stamps: of the literals passed each is coded, none stands twice, and exactly those bear the clause's stamp. Assumes nothing.
use mathlib.Core.Path.{◌≡◌, refl, sym, ◌∙◌}
use mathlib.Core.Bool.{Bool, true, false, not, ◌&&◌, ◌||◌}
use mathlib.Core.List.{List, [], ◌∷◌}
use mathlib.Core.Logic.{◌≢◌, ⊎_elim}
use Prim.Native.Nat.{ℕ, zero, suc, ◌+◌, ◌-◌, ◌≤◌, ◌<◌}
use native.Mathlib.Nat.{le_refl}
use native.Mathlib.Numerals.{add-one}
use native.Mathlib.Omega.{arith}
use borrow.Author.Tests.{eq-eqb, ne_eqb, le-leb, lt-leb, not-true}
use lib.Dec.{eqb, leb}
use lib.ListN.{length, get_or, take, set, replicate, length-set}
use lib.Seq.{take_all, get_or-set_same, get_or-set_other}
use Rattle.rules.specs.Walk.{every}
use Rattle.rules.specs.Clause.{Clause, mem}
use Rattle.rules.proofs.Logic.{by_bool, by_eq, differ, and_true, and_no, or_no, or_yes, not_false}
use Rattle.rules.proofs.Members.{mem_nil, mem_cons, mem_here, mem_skip, mem_at, mem_next}
use Rattle.table.specs.Limits.{Limits}
use Rattle.table.specs.Table.{distinct, coded, sound_clause}
use Rattle.table.specs.Inner.{Stamped}
use Rattle.table.proofs.Soundness.{every_mem, coded_bounds}

-- one more literal
every_next : (p : ℕ → Bool) (C : Clause) (i : ℕ) → i < length C → every p (take i C) ≡ true → p (get_or C i 0) ≡ true → every p (take (suc i) C) ≡ true
every_next p [] i l h e = absurd (omega arith)
every_next p (y ∷ C) zero l h e = rw e
every_next p (y ∷ C) (suc i) l h e = by_bool (p y) (λ a. rw a (every_next p C i (omega arith) (rw a at h) e)) (λ a. differ h (rw a))

distinct_next : (C : Clause) (i : ℕ) → i < length C → distinct (take i C) ≡ true → mem (get_or C i 0) (take i C) ≡ false → distinct (take (suc i) C) ≡ true
unfolding distinct
distinct_next [] i l h f = absurd (omega arith)
distinct_next (y ∷ C) zero l h f = rw (mem_nil y)
distinct_next (y ∷ C) (suc i) l h f =
    let q = simp and_true at h in
    let new : mem (get_or C i 0) (take i C) ≡ false = not_false _ (λ m. differ (mem_skip (get_or C i 0) y (take i C) m) f) in
    let other : y ≢ get_or C i 0 = λ e. differ (rw (← e) (mem_here y (take i C))) f in
    let out : mem y (take (suc i) C) ≡ false = mem_next y C i (omega arith) ∙ rw (not-true (mem y (take i C)) q.0, ne_eqb y (get_or C i 0) other) in
    rw out (distinct_next C i (omega arith) q.1 new)

repeated : (C : Clause) (i : ℕ) → i < length C → mem (get_or C i 0) (take i C) ≡ true → distinct C ≡ false
unfolding distinct
repeated [] i l h = absurd (omega arith)
repeated (y ∷ C) zero l h = differ h (mem_nil y)
repeated (y ∷ C) (suc i) l h =
    ⊎_elim
    (λ e. let m : mem y C ≡ true = rw e at (mem_at C i (omega arith)) in rw m)
    (λ m. rw (repeated C i (omega arith) m) (and_no (not (mem y C))))
    (mem_cons (get_or C i 0) y (take i C) h)

-- what a clause's test knows after i literals
pub record Marked (n : ℕ) (C : Clause) (k : ℕ) (seen : List ℕ) (i : ℕ) : Type 0 where
  pub within : i ≤ length C
  pub size : length seen ≡ 4002
  pub codes : every (coded n) (take i C) ≡ true
  pub fresh : distinct (take i C) ≡ true
  pub marks : (x : ℕ) → mem x (take i C) ≡ eqb (get_or seen x 0) k
  pub stamps : Stamped seen k

pub marked_start : (n : ℕ) (C : Clause) (k : ℕ) (seen : List ℕ) → 1 ≤ k → length seen ≡ 4002 → Stamped seen (k - 1) → Marked n C k seen 0
unfolding distinct
marked_start n C k seen l s h = record {
  within = omega arith;
  size = s;
  codes = refl;
  fresh = refl;
  marks = λ x. mem_nil x ∙ sym (ne_eqb (get_or seen x 0) k (λ e. omega (arith, h x)));
  stamps = λ x. omega (arith, h x);
}

-- a coded literal's stamp is there
pub stamp_there : (n x : ℕ) (seen : List ℕ) → n ≤ 2000 → length seen ≡ 4002 → coded n x ≡ true → x < length seen
stamp_there n x seen l s h = omega (arith, (coded_bounds n x h).1)

module _ (n : ℕ) (C : Clause) (k : ℕ) (seen : List ℕ) (i : ℕ) (known : Marked n C k seen i) where
  pub marked_next : n ≤ 2000 → i < length C → coded n (get_or C i 0) ≡ true → (get_or seen (get_or C i 0) 0 ≡ k → ⊥) → Marked n C k (set seen (get_or C i 0) k) (i + 1)
  marked_next b l h f = rw add-one (record {
    within = omega arith;
    size = length-set seen (get_or C i 0) k ∙ known.size;
    codes = every_next (coded n) C i l known.codes h;
    fresh = distinct_next C i l known.fresh (known.marks (get_or C i 0) ∙ ne_eqb (get_or seen (get_or C i 0) 0) k f);
    marks = λ x. mem_next x C i l ∙ mark x (get_or C i 0) (mem x (take i C)) (known.marks x) (stamp_there n (get_or C i 0) seen b known.size h);
    stamps = stamp (get_or C i 0) (stamp_there n (get_or C i 0) seen b known.size h);
  })
    where
      mark : (x y : ℕ) (b : Bool) → b ≡ eqb (get_or seen x 0) k → y < length seen → (b || eqb x y) ≡ eqb (get_or (set seen y k) x 0) k
      mark x y b e u =
          by_eq x y
          (λ p. rw (p, get_or-set_same seen y k 0 u, eq-eqb k k refl, eq-eqb y y refl) (or_yes b))
          (λ d. rw (get_or-set_other seen y x k 0 d, ne_eqb x y d) (or_no b ∙ e))

      stamp : (y : ℕ) → y < length seen → Stamped (set seen y k) k
      stamp y u x = by_eq x y (λ p. rw (p, get_or-set_same seen y k 0 u) (le_refl k)) (λ d. rw (get_or-set_other seen y x k 0 d) (known.stamps x))

  pub marked_twice : (lim : Limits) → i < length C → get_or seen (get_or C i 0) 0 ≡ k → sound_clause lim n C ≡ false
  unfolding sound_clause
  marked_twice lim l e = rw (repeated C i l (known.marks (get_or C i 0) ∙ eq-eqb (get_or seen (get_or C i 0) 0) k e)) (and_no (leb (length C) lim.clause_literals && every (coded n) C))

  pub marked_end : (lim : Limits) → length C ≤ lim.clause_literals → length C ≤ i → sound_clause lim n C ≡ true
  unfolding sound_clause
  marked_end lim b l =
      let whole = take_all i C l in
      let codes : every (coded n) C ≡ true = rw whole at known.codes in
      let fresh : distinct C ≡ true = rw whole at known.fresh in
      rw (le-leb (length C) lim.clause_literals b, codes, fresh)

-- a clause that is too long, or has a literal that is no code
pub long_unsound : (lim : Limits) (n : ℕ) (C : Clause) → lim.clause_literals < length C → sound_clause lim n C ≡ false
unfolding sound_clause
long_unsound lim n C l = rw (lt-leb (length C) lim.clause_literals l)

pub uncoded_unsound : (lim : Limits) (n : ℕ) (C : Clause) (i : ℕ) → i < length C → coded n (get_or C i 0) ≡ false → sound_clause lim n C ≡ false
unfolding sound_clause
uncoded_unsound lim n C i l f =
    not_false _ (λ h. differ (every_mem (coded n) C (get_or C i 0) (simp and_true at h).0.1 (mem_at C i l)) f)

-- a fresh array reads 0 everywhere, so before the first clause no code has a stamp
pub zeros : (n x : ℕ) → get_or {A = ℕ} (replicate n 0) x 0 ≡ 0
zeros zero x = refl
zeros (suc n) zero = refl
zeros (suc n) (suc x) = zeros n x

pub stamped_zeros : (n : ℕ) → Stamped (replicate n 0) 0
stamped_zeros n x = omega (arith, zeros n x)
