-- The first entry of a stack that fails a test, from the oldest on. Assumes nothing.
use mathlib.Core.Path.{◌≡◌, refl}
use mathlib.Core.Bool.{true, false, ◌&&◌}
use mathlib.Core.List.{List, [], ◌∷◌}
use Prim.Native.Nat.{ℕ, zero, suc, ◌<◌}
use native.Mathlib.Omega.{arith}
use lib.ListN.{length, get_or, take}
use Rattle.rules.specs.Blocking.{Notion}
use Rattle.rules.specs.Book.{Book, Live, less, Entry, after, blocks, valid, one_later, Test, fault}
use Rattle.rules.proofs.Logic.{by_bool, and_true}

module _ (N : Notion) where
  later_zero : (n : ℕ) → one_later n ≡ 0 → n ≡ 0
  later_zero zero h = refl
  later_zero (suc n) h = absurd (omega arith)

  pub fault_head : (t : Test N) (L : Live) (e : Entry N) (s : List (Entry N)) → fault N t L (e ∷ s) ≡ 0
      → (t L e ≡ true) × (fault N t (less L e.0) s ≡ 0)
  unfolding fault
  fault_head t L e s h =
      by_bool (t L e) (λ y. (y, later_zero _ (rw y at h)))
      (λ n. absurd (let z : ◌≡◌ {A = ℕ} 1 0 = rw n at h in omega arith))

  -- two tests, one after the other over the whole stack, are both at each entry
  pub fault_both : (t u : Test N) (L : Live) (s : List (Entry N)) → fault N t L s ≡ 0 → fault N u L s ≡ 0
      → fault N (λ M e. t M e && u M e) L s ≡ 0
  unfolding fault
  fault_both t u L [] h k = refl
  fault_both t u L (e ∷ s) h k =
      let p = fault_head t L e s h in
      let q = fault_head u L e s k in
      rw (p.0, q.0, fault_both t u (less L e.0) s p.1 q.1)

  -- a test that implies another
  pub fault_weaker : (t u : Test N) → ((M : Live) (e : Entry N) → t M e ≡ true → u M e ≡ true) → (L : Live) (s : List (Entry N))
      → fault N t L s ≡ 0 → fault N u L s ≡ 0
  unfolding fault
  fault_weaker t u w L [] h = refl
  fault_weaker t u w L (e ∷ s) h =
      let p = fault_head t L e s h in
      rw (w L e p.0, fault_weaker t u w (less L e.0) s p.1)

  -- a loop over the entries: none of the first i failed
  pub fault_next : (t : Test N) (L : Live) (s : List (Entry N)) (i : ℕ) (d : Entry N) → i < length s → fault N t L (take i s) ≡ 0
      → t (after N L (take i s)) (get_or s i d) ≡ true → fault N t L (take (suc i) s) ≡ 0
  unfolding fault after
  fault_next t L [] i d h f y = absurd (omega arith)
  fault_next t L (e ∷ s) zero d h f y = rw y
  fault_next t L (e ∷ s) (suc i) d h f y =
      let q = fault_head t L e (take i s) f in
      rw (q.0, fault_next t (less L e.0) s i d (omega arith) q.1 y)

  pub fault_stop : (t : Test N) (L : Live) (s : List (Entry N)) (i : ℕ) (d : Entry N) → i < length s → fault N t L (take i s) ≡ 0
      → t (after N L (take i s)) (get_or s i d) ≡ false → fault N t L s ≡ suc i
  unfolding fault after
  fault_stop t L [] i d h f y = absurd (omega arith)
  fault_stop t L (e ∷ s) zero d h f y = rw y
  fault_stop t L (e ∷ s) (suc i) d h f y =
      let q = fault_head t L e (take i s) f in
      rw (q.0, fault_stop t (less L e.0) s i d (omega arith) q.1 y)

  -- where no entry fails, each passes among the clauses live at that time
  pub fault_at : (t : Test N) (L : Live) (s : List (Entry N)) (i : ℕ) (d : Entry N) → i < length s → fault N t L s ≡ 0
      → t (after N L (take i s)) (get_or s i d) ≡ true
  unfolding after
  fault_at t L [] i d h f = absurd (omega arith)
  fault_at t L (e ∷ s) zero d h f = (fault_head t L e s f).0
  fault_at t L (e ∷ s) (suc i) d h f = fault_at t (less L e.0) s i d (omega arith) (fault_head t L e s f).1

  -- one more entry takes its clause away
  pub after_next : (L : Live) (s : List (Entry N)) (i : ℕ) (d : Entry N) → i < length s
      → after N L (take (suc i) s) ≡ less (after N L (take i s)) (get_or s i d).0
  unfolding after
  after_next L [] i d h = absurd (omega arith)
  after_next L (e ∷ s) zero d h = refl
  after_next L (e ∷ s) (suc i) d h = after_next (less L e.0) s i d (omega arith)

  module _ (b : Book) where
    -- a stack is valid exactly where no entry fails
    abbrev pub right : Test N
    right L e = L e.0 && blocks N b L e.0 e.1

    pub fault_valid : (L : Live) (s : List (Entry N)) → fault N right L s ≡ 0 → valid N b L s ≡ true
    unfolding valid
    fault_valid L [] h = refl
    fault_valid L (e ∷ s) h =
        let q = fault_head right L e s h in simp and_true (simp and_true at q.0, fault_valid (less L e.0) s q.1)

    pub valid_fault : (L : Live) (s : List (Entry N)) → valid N b L s ≡ true → fault N right L s ≡ 0
    unfolding valid fault
    valid_fault L [] h = refl
    valid_fault L (e ∷ s) h =
        let q = simp and_true at h in
        let r : right L e ≡ true = simp and_true q.0 in
        rw (r, valid_fault (less L e.0) s q.1)
