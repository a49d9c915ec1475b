-- The clauses that hold a literal, as a chain: the lowest holder above a clause, and what a walk along the chain has passed. Assumes nothing.
use mathlib.Core.Path.{◌≡◌, sym, ◌∙◌}
use mathlib.Core.Bool.{Bool, true, false}
use mathlib.Core.Logic.{by_cases}
use Prim.Native.Nat.{ℕ, zero, suc, ◌+◌, ◌-◌, ◌≤◌, ◌<◌}
use native.Mathlib.Decide.{dec_lt}
use native.Mathlib.Omega.{arith}
use borrow.Author.Tests.{ltb-true, lt-ltb, le-ltb}
use Rattle.rules.specs.Walk.{least}
use Rattle.rules.specs.Clause.{mem}
use Rattle.rules.proofs.Logic.{by_eq, differ, and_true, not_false, same}
use Rattle.rules.proofs.Walks.{least_none, none_least, least_found, least_stop, least_same}
use Rattle.table.specs.Table.{Table, row}
use Rattle.index.specs.Index.{holds_above, holder_above}

module _ (t : Table) (x j k : ℕ) where
  holds_above_lem : j < k → mem x (row t k) ≡ true → holds_above t x j k ≡ true
  unfolding holds_above
  holds_above_lem l m = rw (lt-ltb j k l, m)

  not_above : k ≤ j → holds_above t x j k ≡ false
  unfolding holds_above
  not_above l = rw (le-ltb j k l)

  above_holds : holds_above t x j k ≡ true → (j < k) × (mem x (row t k) ≡ true)
  unfolding holds_above
  above_holds h = let q = simp and_true at h in (ltb-true j k q.0, q.1)

-- From the clause before clause k the lowest holder above is clause k, if it holds the literal, else the same as from clause k. None is above the
-- last clause.
pub holder_here : (t : Table) (x k : ℕ) → 1 ≤ k → k ≤ t.clauses → mem x (row t k) ≡ true → holder_above t x (k - 1) ≡ k
unfolding holder_above
holder_here t x k l u m =
    let e : k - 1 + 1 ≡ k = omega arith in
    least_stop (holds_above t x (k - 1)) t.clauses (k - 1) (none_least _ (k - 1) (λ i a b. not_above t x (k - 1) i b))
    (rw e (holds_above_lem t x (k - 1) k (omega arith) m)) (omega arith) ∙ e

pub holder_skips : (t : Table) (x k : ℕ) → 1 ≤ k → mem x (row t k) ≡ false → holder_above t x (k - 1) ≡ holder_above t x k
unfolding holder_above
holder_skips t x k l n =
    least_same (holds_above t x (k - 1)) (holds_above t x k) t.clauses (λ i a b. same _ _
    (λ h. let q = above_holds t x (k - 1) i h in by_eq i k (λ e. differ (rw e at q.1) n) (λ d. holds_above_lem t x k i (omega arith) q.1))
    (λ h. let q = above_holds t x k i h in holds_above_lem t x (k - 1) i (omega arith) q.1))

pub holder_none : (t : Table) (x : ℕ) → holder_above t x t.clauses ≡ 0
unfolding holder_above
holder_none t x = none_least _ t.clauses (λ i a b. not_above t x t.clauses i b)

-- A walk along the chain of x, for a test that no clause passes but those that hold x. It stands at clause j, or at 0 behind the last one, and no
-- clause below passes the test.
pub record Walked (t : Table) (x : ℕ) (p : ℕ → Bool) (j : ℕ) : Type 0 where
  pub within : j ≤ t.clauses
  pub holder : 1 ≤ j → mem x (row t j) ≡ true
  pub passed : (i : ℕ) → 1 ≤ i → i ≤ t.clauses → (1 ≤ j → i < j) → p i ≡ false

module _ (t : Table) (x : ℕ) (p : ℕ → Bool) (holders : (i : ℕ) → mem x (row t i) ≡ false → p i ≡ false) where
  between : (j i : ℕ) → ((i : ℕ) → 1 ≤ i → i ≤ j → p i ≡ false) → (j < i → mem x (row t i) ≡ false) → 1 ≤ i → p i ≡ false
  between j i q n a = by_cases (dec_lt j i) (λ l. holders i (n l)) (λ g. q i a (omega arith))

  -- on to the lowest holder above clause j, where no clause up to j passes
  walk_above : (j n : ℕ) → holder_above t x j ≡ n → ((i : ℕ) → 1 ≤ i → i ≤ j → p i ≡ false) → Walked t x p n
  unfolding holder_above
  walk_above j zero h q = record {
    within = omega arith;
    holder = λ l. absurd (omega arith);
    passed = λ i a b c. between j i q (λ l. not_false _ (λ m. differ (holds_above_lem t x j i l m) (least_none _ _ h i a b))) a;
  }
  walk_above j (suc n) h q =
      let f = least_found _ _ n h in
      record {
        within = f.1;
        holder = λ l. (above_holds t x j (suc n) f.0).1;
        passed = λ i a b c. between j i q (λ l. not_false _ (λ m. differ (holds_above_lem t x j i l m) (f.2 i a (omega (arith, c (omega arith)))))) a;
      }

  pub walk_start : (j : ℕ) → j ≡ holder_above t x 0 → Walked t x p j
  walk_start j e = walk_above 0 j (sym e) (λ i a b. absurd (omega arith))

  pub walk_next : (j n : ℕ) → Walked t x p j → 1 ≤ j → p j ≡ false → n ≡ holder_above t x j → Walked t x p n
  walk_next j n w l f e = walk_above j n (sym e) (λ i a b. by_eq i j (λ e. rw e f) (λ n. w.passed i a (omega (arith, w.within)) (λ l. omega arith)))

-- the lowest clause that passes the test: where the walk stops, or none
pub walk_stop : (t : Table) (x : ℕ) (p : ℕ → Bool) (j : ℕ) → Walked t x p j → 1 ≤ j → p j ≡ true → least p t.clauses ≡ j
walk_stop t x p j w l h =
    let e : j - 1 + 1 ≡ j = omega arith in
    least_stop p t.clauses (j - 1) (none_least p (j - 1) (λ i a b. w.passed i a (omega (arith, w.within)) (λ c. omega arith)))
    (rw e h) (omega (arith, w.within)) ∙ e

pub walk_end : (t : Table) (x : ℕ) (p : ℕ → Bool) → Walked t x p 0 → least p t.clauses ≡ 0
walk_end t x p w = none_least p t.clauses (λ i a b. w.passed i a b (λ l. absurd (omega arith)))

-- how far the walk has to go at most
abbrev pub ahead : ℕ → ℕ → ℕ
ahead m zero = 0
ahead m (suc j) = m - j

pub ahead_less : (t : Table) (x j n : ℕ) → 1 ≤ j → j ≤ t.clauses → n ≡ holder_above t x j → ahead t.clauses n < ahead t.clauses j
unfolding holder_above
ahead_less t x zero n l u e = absurd (omega arith)
ahead_less t x (suc j) zero l u e = omega arith
ahead_less t x (suc j) (suc n) l u e =
    let f = least_found (holds_above t x (suc j)) t.clauses n (sym e) in omega (arith, (above_holds t x (suc j) (suc n) f.0).0, f.1)
