-- The laws of elimination and rebuild, over any notion of blocking. Assumes nothing.
use mathlib.Core.Path.{◌≡◌, ap, fun_ext}
use mathlib.Core.Bool.{true, false, not}
use mathlib.Core.List.{List, [], ◌∷◌}
use mathlib.Core.Logic.{◌↔◌, ◌≢◌}
use Prim.Native.Nat.{ℕ, ◌≤◌}
use borrow.Author.Tests.{eqb-true, eq-eqb, ne_eqb, leb-true}
use Rattle.rules.specs.Clause.{Clause, Values, holds}
use Rattle.rules.specs.Blocking.{Notion}
use Rattle.rules.specs.Book.{Book, Live, one_to, all, less, Entry, after, bars, obstacle, blocks, valid}
use Rattle.rules.specs.Rebuild.{mended, walk}
use Rattle.rules.specs.Proposition.{◌∈◌}
use Rattle.rules.proofs.Logic.{by_bool, by_eq, differ, and_true, not_false, same}
use Rattle.rules.proofs.Walks.{least_none, none_least}

abbrev pub ◌⊆◌ : Live → Live → Type 0
A ⊆ B = (k : ℕ) → A k ≡ true → B k ≡ true

infix 40 ◌⊆◌
-- what an instance shows of its notion, clause by clause:
--     listed    for each reason that fits, one of the list fits and is hindered by no more clauses
--     own       mending for r makes a false clause true that r fits
--     other     and keeps true each clause that does not hinder r
pub record Sound (N : Notion) : Type 0 where
  pub listed : (C : Clause) (r : N.Reason) → N.fits C r ≡ true
      → (q : N.Reason) × (q ∈ N.reasons C) × (N.fits C q ≡ true) × ((D : Clause) → N.hinders C r D ≡ false → N.hinders C q D ≡ false)
  pub own : (v : Values) (C : Clause) (r : N.Reason) → N.fits C r ≡ true → holds v C ≡ false → holds (N.mend v r) C ≡ true
  pub other : (v : Values) (C D : Clause) (r : N.Reason) → N.fits C r ≡ true → N.hinders C r D ≡ false
      → holds v C ≡ false → holds v D ≡ true → holds (N.mend v r) D ≡ true

pub less_in : (L : Live) (k : ℕ) → less L k ⊆ L
unfolding less
less_in L k j h = (simp and_true at h).0

pub less_not : (L : Live) (k j : ℕ) → less L k j ≡ true → j ≢ k
unfolding less
less_not L k j h e = differ (simp and_true at h).1 (ap not (eq-eqb j k e))

pub less_keeps : (L : Live) (k j : ℕ) → L j ≡ true → j ≢ k → less L k j ≡ true
unfolding less
less_keeps L k j h e = rw (h, ne_eqb j k e)

pub ⊆_eq : (A B : Live) → A ⊆ B → B ⊆ A → A ≡ B
⊆_eq A B f g = fun_ext (λ k. same (A k) (B k) (f k) (g k))

abbrev pub Within : Book → Live → Type 0
Within b L = (k : ℕ) → L k ≡ true → (1 ≤ k) × (k ≤ b.count)

pub all_within : (b : Book) → Within b (all b)
unfolding one_to
all_within b k h = let q = simp and_true at h in (leb-true 1 k q.0, leb-true k b.count q.1)

module _ (N : Notion) (b : Book) where
  -- what `blocks` says, and how it is shown
  pub blocks_fits : (L : Live) (k : ℕ) (r : N.Reason) → blocks N b L k r ≡ true → N.fits (b.clause k) r ≡ true
  unfolding blocks
  blocks_fits L k r h = (simp and_true at h).0

  pub blocks_free : (L : Live) (k : ℕ) (r : N.Reason) → blocks N b L k r ≡ true → (j : ℕ) → 1 ≤ j → j ≤ b.count → L j ≡ true
      → N.hinders (b.clause k) r (b.clause j) ≡ false
  unfolding blocks obstacle bars
  blocks_free L k r h j l u a =
      let z = least_none _ b.count (eqb-true _ 0 (simp and_true at h).1) j l u in
      not_false _ (λ t. differ (cc) z)

  pub blocks_intro : (L : Live) (k : ℕ) (r : N.Reason) → N.fits (b.clause k) r ≡ true
      → ((j : ℕ) → 1 ≤ j → j ≤ b.count → L j ≡ true → N.hinders (b.clause k) r (b.clause j) ≡ false) → blocks N b L k r ≡ true
  unfolding blocks obstacle bars
  blocks_intro L k r f g =
      simp and_true (f, eq-eqb _ 0 (none_least _ b.count (λ j l u. not_false _ (λ t. let q = simp and_true at t in differ q.1 (g j l u q.0)))))

  pub antitone : (A B : Live) → A ⊆ B → (k : ℕ) (r : N.Reason) → blocks N b B k r ≡ true → blocks N b A k r ≡ true
  antitone A B i k r h = blocks_intro A k r (blocks_fits B k r h) (λ j l u a. blocks_free B k r h j l u (i j a))

  pub after_in : (L : Live) (s : List (Entry N)) → after N L s ⊆ L
  unfolding after
  after_in L [] k h = h
  after_in L (e ∷ s) k h = less_in L e.0 k (after_in (less L e.0) s k h)

  -- (i) a stuck set survives every valid sequence of removals
  abbrev pub Stuck : Live → Type 0
  Stuck S = (k : ℕ) (r : N.Reason) → S k ≡ true → blocks N b S k r ≡ false

  pub survives : (S L : Live) → Stuck S → S ⊆ L → (s : List (Entry N)) → valid N b L s ≡ true → S ⊆ after N L s
  unfolding valid after
  survives S L st i [] h = i
  survives S L st i (e ∷ s) h =
      let q = simp and_true at h in
      survives S (less L e.0) st
      (λ j t. less_keeps L e.0 j (i j t) (λ p. differ (antitone S L i e.0 e.1 q.0.1) (st e.0 e.1 (rw p at t))))
      s q.1

  -- (ii) the remainder does not depend on the order
  pub confluent : (L : Live) (s t : List (Entry N)) → valid N b L s ≡ true → valid N b L t ≡ true
      → Stuck (after N L s) → Stuck (after N L t) → after N L s ≡ after N L t
  confluent L s t vs vt ss st =
      ⊆_eq _ _ (survives _ L ss (after_in L s) t vt) (survives _ L st (after_in L t) s vs)

  -- (iii) rebuild
  abbrev pub Model : Live → Values → Type 0
  Model L v = (k : ℕ) → L k ≡ true → holds v (b.clause k) ≡ true

  module _ (sound : Sound N) where
    mended_model : (L : Live) (e : Entry N) (w : Values) → Within b L → blocks N b L e.0 e.1 ≡ true
        → Model (less L e.0) w → Model L (mended N b w e)
    unfolding mended
    mended_model L e w wi bl m k t =
        by_bool (holds w (b.clause e.0))
        (λ y. rw y (by_eq k e.0 (λ p. rw p y) (λ p. m k (less_keeps L e.0 k t p))))
        (λ n. rw n (by_eq k e.0
        (λ p. rw p (sound.own w (b.clause e.0) e.1 fit n))
        (λ p. sound.other w (b.clause e.0) (b.clause k) e.1 fit (blocks_free L e.0 e.1 bl k (wi k t).0 (wi k t).1 t) n (m k (less_keeps L e.0 k t p)))))
      where
        fit : N.fits (b.clause e.0) e.1 ≡ true
        fit = blocks_fits L e.0 e.1 bl

    pub rebuilt : (L : Live) (s : List (Entry N)) (v : Values) → Within b L → valid N b L s ≡ true
        → Model (after N L s) v → Model L (walk N b v s)
    unfolding valid after walk
    rebuilt L [] v wi h m = m
    rebuilt L (e ∷ s) v wi h m =
        let q = simp and_true at h in
        mended_model L e (walk N b v s) wi q.0.1
        (rebuilt (less L e.0) s v (λ k t. wi k (less_in L e.0 k t)) q.1 m)

    -- (iv) satisfiable before exactly if satisfiable after
    pub satisfiable : (L : Live) (s : List (Entry N)) → Within b L → valid N b L s ≡ true
        → ((v : Values) × Model L v) ↔ ((v : Values) × Model (after N L s) v)
    satisfiable L s wi h =
        (λ m. (m.0, λ k t. m.1 k (after_in L s k t)), λ m. (walk N b m.0 s, rebuilt L s m.0 wi h m.1))

-- two books of as many clauses, and the same ones, have the same valid stacks
module _ (N : Notion) (b c : Book) (many : b.count ≡ c.count) (same : (k : ℕ) → 1 ≤ k → k ≤ b.count → b.clause k ≡ c.clause k) where
  blocks_same : (L : Live) (k : ℕ) (r : N.Reason) → 1 ≤ k → k ≤ b.count → blocks N b L k r ≡ true → blocks N c L k r ≡ true
  blocks_same L k r l u h =
      blocks_intro N c L k r (rw (← same k l u) (blocks_fits N b L k r h))
      (λ j a z live. rw (← same k l u, ← same j a (rw many z)) (blocks_free N b L k r h j a (rw many z) live))

  pub valid_same : (L : Live) → Within b L → (s : List (Entry N)) → valid N b L s ≡ true → valid N c L s ≡ true
  unfolding valid
  valid_same L w [] h = h
  valid_same L w (e ∷ s) h =
      let q = simp and_true at h in
      let z = w e.0 q.0.0 in
      simp and_true ((q.0.0, blocks_same L e.0 e.1 z.0 z.1 q.0.1), valid_same (less L e.0) (λ k y. w k (less_in L e.0 k y)) s q.1)
