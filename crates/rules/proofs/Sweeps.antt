-- Elimination by sweeps: a valid sequence of removals that ends where nothing is blocked. Assumes nothing.
use mathlib.Core.Path.{◌≡◌, refl, sym, subst}
use mathlib.Core.Bool.{Bool, true, false, cond}
use mathlib.Core.List.{List, [], ◌∷◌, ◌++◌}
use mathlib.Core.Logic.{◌≢◌}
use Prim.Native.Nat.{ℕ, zero, suc, ◌+◌, ◌≤◌, ◌<◌}
use native.Mathlib.Omega.{arith}
use lib.ListN.{length}
use borrow.Author.Tests.{eq-eqb, ne_eqb}
use Rattle.rules.specs.Blocking.{Notion}
use Rattle.rules.specs.Book.{Book, Live, all, less, Entry, after, blocks, valid}
use Rattle.rules.specs.Elimination.{or_list, joined, first_reason, turn, turns, sweeps, eliminate, remainder, next_blocked}
use Rattle.rules.specs.Proposition.{◌∈◌, here, there}
use Rattle.rules.proofs.Logic.{by_bool, by_eq, by_list, differ, and_true, not_false, append_empty}
use Rattle.rules.proofs.Laws.{Sound, Within, all_within, Stuck, after_in, less_in, blocks_fits, blocks_free, blocks_intro, confluent}

-- how many of the clauses 1 to n are live
unfoldable pub tally : Live → ℕ → ℕ
tally L zero = 0
tally L (suc n) = tally L n + cond (L (suc n)) 1 0

cond_le : (b : Bool) → cond b 1 0 ≤ 1
cond_le true = omega arith
cond_le false = omega arith

pub tally_le : (L : Live) (n : ℕ) → tally L n ≤ n
unfolding tally
tally_le L zero = omega arith
tally_le L (suc n) = omega (arith, tally_le L n, cond_le (L (suc n)))

pub less_other : (L : Live) (k j : ℕ) → j ≢ k → less L k j ≡ L j
unfolding less
less_other L k j n = rw (ne_eqb j k n) (by_bool (L j) (λ t. cc) (λ f. cc))

pub less_same : (L : Live) (k : ℕ) → less L k k ≡ false
unfolding less
less_same L k = rw (eq-eqb k k refl) (by_bool (L k) (λ t. cc) (λ f. cc))

tally_below : (L : Live) (k n : ℕ) → n < k → tally (less L k) n ≡ tally L n
unfolding tally
tally_below L k zero h = refl
tally_below L k (suc n) h = rw (tally_below L k n (omega arith), less_other L k (suc n) (λ e. omega arith))

pub tally_less : (L : Live) (k n : ℕ) → 1 ≤ k → k ≤ n → L k ≡ true → tally L n ≡ suc (tally (less L k) n)
unfolding tally
tally_less L k zero l u t = absurd (omega arith)
tally_less L k (suc n) l u t =
    by_eq k (suc n)
    (λ e. rw (← e, less_same L k, t, tally_below L k n (omega arith)) (omega arith))
    (λ e. rw (less_other L k (suc n) (λ p. e (sym p)), tally_less L k n l (omega arith) t) (omega arith))

module _ (N : Notion) (b : Book) where
  pub after_append : (L : Live) (s t : List (Entry N)) → after N L (s ++ t) ≡ after N (after N L s) t
  unfolding after
  after_append L [] t = refl
  after_append L (e ∷ s) t = after_append (less L e.0) s t

  pub valid_append : (L : Live) (s t : List (Entry N)) → valid N b L s ≡ true → valid N b (after N L s) t ≡ true → valid N b L (s ++ t) ≡ true
  unfolding valid after
  valid_append L [] t h i = i
  valid_append L (e ∷ s) t h i = let q = simp and_true at h in simp and_true (q.0, valid_append (less L e.0) s t q.1 i)

  pub within_after : (L : Live) (s : List (Entry N)) → Within b L → Within b (after N L s)
  within_after L s wi k t = wi k (after_in N b L s k t)

  -- as many clauses go as the stack has entries
  pub removed : (L : Live) (s : List (Entry N)) → Within b L → valid N b L s ≡ true
      → tally L b.count ≡ length s + tally (after N L s) b.count
  unfolding valid after
  removed L [] wi h = omega arith
  removed L (e ∷ s) wi h =
      let q = simp and_true at h in
      let i = wi e.0 q.0.0 in
      omega (arith, tally_less L e.0 b.count i.0 i.1 q.0.0, removed (less L e.0) s (λ k t. wi k (less_in L e.0 k t)) q.1)

  reason_valid : (L : Live) (k : ℕ) → L k ≡ true → (rs : List N.Reason) → valid N b L (first_reason N b L k rs) ≡ true
  unfolding valid first_reason
  reason_valid L k t [] = refl
  reason_valid L k t (r ∷ rs) = by_bool (blocks N b L k r) (λ y. rw (y, t, y)) (λ n. rw n (reason_valid L k t rs))

  pub turn_valid : (L : Live) (k : ℕ) → valid N b L (turn N b L k) ≡ true
  unfolding turn valid
  turn_valid L k = by_bool (L k) (λ t. rw t (reason_valid L k t (N.reasons (b.clause k)))) (λ f. rw f)

  pub turns_valid : (L : Live) (n : ℕ) → valid N b L (turns N b L n) ≡ true
  unfolding turns valid
  turns_valid L zero = refl
  turns_valid L (suc n) = valid_append L (turns N b L n) _ (turns_valid L n) (turn_valid _ (suc n))

  -- a sweep that removes nothing ends it
  pub sweeps_end : (f : ℕ) (L : Live) → turns N b L b.count ≡ [] → sweeps N b f L ≡ []
  unfolding sweeps
  sweeps_end zero L h = refl
  sweeps_end (suc f) L h = rw h

  joined_append : {A : Type 0} (s t : List A) → (s ≡ [] → t ≡ []) → joined s t ≡ s ++ t
  joined_append [] t h = sym (h refl)
  joined_append (x ∷ s) t h = refl

  pub sweeps_more : (f : ℕ) (L : Live) → sweeps N b (suc f) L ≡ turns N b L b.count ++ sweeps N b f (after N L (turns N b L b.count))
  unfolding sweeps after
  sweeps_more f L =
      joined_append (turns N b L b.count) (sweeps N b f (after N L (turns N b L b.count)))
      (λ e. sweeps_end f (after N L (turns N b L b.count)) (rw (e, e)))

  pub sweeps_valid : (f : ℕ) (L : Live) → valid N b L (sweeps N b f L) ≡ true
  unfolding valid
  sweeps_valid zero L = unfold sweeps in refl
  sweeps_valid (suc f) L =
      rw (sweeps_more f L)
      (valid_append L (turns N b L b.count) _ (turns_valid L b.count) (sweeps_valid f (after N L (turns N b L b.count))))

  module _ (sound : Sound N) where
    reason_none : (L : Live) (k : ℕ) (rs : List N.Reason) → first_reason N b L k rs ≡ [] → (r : N.Reason) → r ∈ rs → blocks N b L k r ≡ false
    unfolding first_reason
    reason_none L k [] h r m = elim m [ ]
    reason_none L k (q ∷ rs) h r (here) = by_bool (blocks N b L k q) (λ t. cc) (λ f. f)
    reason_none L k (q ∷ rs) h r (there m) = by_bool (blocks N b L k q) (λ t. cc) (λ f. reason_none L k rs (rw f at h) r m)

    pub turn_empty : (L : Live) (k : ℕ) → L k ≡ true → turn N b L k ≡ [] → (r : N.Reason) → blocks N b L k r ≡ false
    unfolding turn
    turn_empty L k t h r = not_false _ (λ y.
        let q = sound.listed (b.clause k) r (blocks_fits N b L k r y) in
        differ (blocks_intro N b L k q.0 q.2 (λ j l u a. q.3 (b.clause j) (blocks_free N b L k r y j l u a)))
        (reason_none L k (N.reasons (b.clause k)) (rw t at h) q.0 q.1))

    turns_empty : (L : Live) (n : ℕ) → turns N b L n ≡ [] → (k : ℕ) → 1 ≤ k → k ≤ n → L k ≡ true → (r : N.Reason) → blocks N b L k r ≡ false
    unfolding turns after
    turns_empty L zero h k l u t = absurd (omega arith)
    turns_empty L (suc n) h k l u t =
        let q = append_empty (turns N b L n) _ h in
        by_eq k (suc n) (λ e. turn_empty L k t (rw (← e, q.0) at q.1)) (λ e. turns_empty L n q.0 k l (omega arith) t)

    sweep_stuck : (L : Live) → Within b L → turns N b L b.count ≡ [] → Stuck N b L
    sweep_stuck L wi h k r t = turns_empty L b.count h k (wi k t).0 (wi k t).1 t r

    pub sweeps_stuck : (f : ℕ) (L : Live) → Within b L → tally L b.count ≤ f → Stuck N b (after N L (sweeps N b f L))
    sweeps_stuck zero L wi h = λ k r t. absurd (unfold sweeps after in omega (arith, tally_less L k b.count (wi k (after_in N b L (sweeps N b 0 L) k t)).0 (wi k (after_in N b L (sweeps N b 0 L) k t)).1 (after_in N b L (sweeps N b 0 L) k t)))
    sweeps_stuck (suc f) L wi h =
        by_list (turns N b L b.count)
        (λ e. subst (λ (s : List (Entry N)). Stuck N b (after N L s)) (sym (sweeps_end (suc f) L e)) (unfold after in sweep_stuck L wi e))
        (λ n. rw (sweeps_more f L, after_append)
        (sweeps_stuck f (after N L (turns N b L b.count)) (within_after L (turns N b L b.count) wi)
        (omega (arith, removed L (turns N b L b.count) wi (turns_valid L b.count)))))

    -- demand 2, over the definitions: elimination is a valid sequence of removals, and nothing is blocked in what it leaves
    pub eliminate_valid : valid N b (all b) (eliminate N b) ≡ true
    unfolding eliminate
    eliminate_valid = sweeps_valid (suc b.count) (all b)

    pub remainder_stuck : Stuck N b (remainder N b)
    unfolding eliminate remainder
    remainder_stuck = sweeps_stuck (suc b.count) (all b) (all_within b) (omega (arith, tally_le (all b) b.count))

    -- and every other order that ends where nothing is blocked leaves the same clauses
    pub remainder_unique : (s : List (Entry N)) → valid N b (all b) s ≡ true → Stuck N b (after N (all b) s) → after N (all b) s ≡ remainder N b
    unfolding remainder
    remainder_unique s v st = confluent N b (all b) s (eliminate N b) v eliminate_valid st remainder_stuck

  -- the question
  or_empty : (s t : List (Entry N)) → or_list s t ≡ [] → (s ≡ []) × (t ≡ [])
  or_empty [] t h = (refl, h)
  or_empty (x ∷ s) t h = (cc, cc)

  pub next_none : (L : Live) (n : ℕ) → next_blocked N b L n ≡ [] → (k : ℕ) → 1 ≤ k → k ≤ n → turn N b L k ≡ []
  unfolding next_blocked
  next_none L zero h k l u = absurd (omega arith)
  next_none L (suc n) h k l u =
      let q = or_empty (next_blocked N b L n) (turn N b L (suc n)) h in
      by_eq k (suc n) (λ e. rw e q.1) (λ e. next_none L n q.0 k l (omega arith))

  pub next_stuck : Sound N → (L : Live) → Within b L → next_blocked N b L b.count ≡ [] → Stuck N b L
  next_stuck sound L wi h k r t = turn_empty sound L k t (next_none L b.count h k (wi k t).0 (wi k t).1) r

  -- a loop over the clauses: none of 1 to i is blocked
  pub next_more : (L : Live) (i : ℕ) → next_blocked N b L i ≡ [] → turn N b L (suc i) ≡ [] → next_blocked N b L (suc i) ≡ []
  unfolding next_blocked
  next_more L i h e = rw (h, e)

  pub next_here : (L : Live) (n i : ℕ) (e : Entry N) → next_blocked N b L i ≡ [] → turn N b L (suc i) ≡ e ∷ [] → i < n → next_blocked N b L n ≡ e ∷ []
  unfolding next_blocked
  next_here L zero i e h t l = absurd (omega arith)
  next_here L (suc n) i e h t l = by_eq i n (λ q. rw (← q, h, t)) (λ q. rw (next_here L n i e h t (omega arith)))

  -- where nothing is blocked the question finds nothing
  reason_stuck : (L : Live) (k : ℕ) (rs : List N.Reason) → ((r : N.Reason) → blocks N b L k r ≡ false) → first_reason N b L k rs ≡ []
  unfolding first_reason
  reason_stuck L k [] h = refl
  reason_stuck L k (r ∷ rs) h = rw (h r) (reason_stuck L k rs h)

  turn_stuck : (L : Live) (k : ℕ) → Stuck N b L → turn N b L k ≡ []
  unfolding turn
  turn_stuck L k h = by_bool (L k) (λ t. rw t (reason_stuck L k (N.reasons (b.clause k)) (λ r. h k r t))) (λ f. rw f)

  pub stuck_next : (L : Live) → Stuck N b L → (n : ℕ) → next_blocked N b L n ≡ []
  unfolding next_blocked
  stuck_next L h zero = refl
  stuck_next L h (suc n) = rw (stuck_next L h n) (turn_stuck L (suc n) h)
