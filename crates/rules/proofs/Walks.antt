-- What a loop knows of the walks: of a list's elements from i on or before i, of the numbers from 1 to i, of a list made by index. Assumes nothing.
use mathlib.Core.Path.{◌≡◌, refl, ◌∙◌}
use mathlib.Core.Bool.{Bool, true, false, cond}
use mathlib.Core.List.{List, [], ◌∷◌}
use Prim.Native.Nat.{ℕ, zero, suc, ◌+◌, ◌≤◌, ◌<◌}
use native.Mathlib.Omega.{arith}
use native.Mathlib.Numerals.{add-one}
use lib.ListN.{length, get_or, drop, length-append, get_or-append, drop_of_length-le}
use lib.Seq.{drop-cons, get_or_at}
use Rattle.rules.specs.Walk.{any, every_to, or_else, least, upto}
use Rattle.rules.proofs.Logic.{by_eq, and_true, and_no}

-- the elements of a list: what is asked of those from i on
pub any_here : (p : ℕ → Bool) (C : List ℕ) (i : ℕ) → i < length C → p (get_or C i 0) ≡ true → any p (drop i C) ≡ true
any_here p C i h t = rw (drop-cons C i 0, t)

pub any_next : (p : ℕ → Bool) (C : List ℕ) (i : ℕ) → i < length C → p (get_or C i 0) ≡ false → any p (drop (i + 1) C) ≡ any p (drop i C)
any_next p C i h f = rw (add-one, drop-cons C i 0, f)

pub any_end : (p : ℕ → Bool) (C : List ℕ) (i : ℕ) → length C ≤ i → any p (drop i C) ≡ false
any_end p C i h = rw (drop_of_length-le C h)

-- the numbers from 1 to n, all of which pass
pub every_to_next : (p : ℕ → Bool) (i : ℕ) → every_to p i ≡ true → p (i + 1) ≡ true → every_to p (i + 1) ≡ true
unfolding every_to
every_to_next p i h e = rw add-one (let g : p (suc i) ≡ true = rw add-one at e in rw (h, g))

pub every_to_fails : (p : ℕ → Bool) (n i : ℕ) → p (i + 1) ≡ false → i < n → every_to p n ≡ false
unfolding every_to
every_to_fails p zero i f l = absurd (omega arith)
every_to_fails p (suc n) i f l =
    by_eq i n (λ e. let g : p (suc n) ≡ false = rw (e, add-one) at f in rw g (and_no (every_to p n))) (λ e. rw (every_to_fails p n i f (omega arith)))

pub every_to_end : (p : ℕ → Bool) (n i : ℕ) → every_to p i ≡ true → i ≤ n → n ≤ i → every_to p n ≡ true
every_to_end p n i h a b = let e : i ≡ n = omega arith in rw e at h

pub every_to_all : (p : ℕ → Bool) (n : ℕ) → ((k : ℕ) → 1 ≤ k → k ≤ n → p k ≡ true) → every_to p n ≡ true
unfolding every_to
every_to_all p zero h = refl
every_to_all p (suc n) h = rw (every_to_all p n (λ k l u. h k l (omega arith)), h (suc n) (omega arith) (omega arith))

pub every_to_at : (p : ℕ → Bool) (n k : ℕ) → every_to p n ≡ true → 1 ≤ k → k ≤ n → p k ≡ true
unfolding every_to
every_to_at p zero k h l u = absurd (omega arith)
every_to_at p (suc n) k h l u =
    let q = simp and_true at h in by_eq k (suc n) (λ e. rw e q.1) (λ e. every_to_at p n k q.0 l (omega arith))

-- the numbers from 1 to n, of which the lowest that passes is looked for
or_else_zero : (a b : ℕ) → or_else a b ≡ 0 → (a ≡ 0) × (b ≡ 0)
or_else_zero zero b h = (refl, h)
or_else_zero (suc a) b h = absurd (omega arith)

cond_zero : (b : Bool) (n : ℕ) → cond b (suc n) 0 ≡ 0 → b ≡ false
cond_zero true n h = absurd (omega arith)
cond_zero false n h = refl

pub least_none : (p : ℕ → Bool) (n : ℕ) → least p n ≡ 0 → (k : ℕ) → 1 ≤ k → k ≤ n → p k ≡ false
unfolding least
least_none p zero h k l u = absurd (omega arith)
least_none p (suc n) h k l u =
    let z = or_else_zero (least p n) (cond (p (suc n)) (suc n) 0) h in
    by_eq k (suc n) (λ e. rw e (cond_zero _ n z.1)) (λ e. least_none p n z.0 k l (omega arith))

pub none_least : (p : ℕ → Bool) (n : ℕ) → ((k : ℕ) → 1 ≤ k → k ≤ n → p k ≡ false) → least p n ≡ 0
unfolding least
none_least p zero h = refl
none_least p (suc n) h = rw (none_least p n (λ k l u. h k l (omega arith)), h (suc n) (omega arith) (omega arith))

abbrev pub Found : (ℕ → Bool) → ℕ → ℕ → Type 0
Found p n k = (p (suc k) ≡ true) × (suc k ≤ n) × ((j : ℕ) → 1 ≤ j → j ≤ k → p j ≡ false)

least_step : (p : ℕ → Bool) (n k a : ℕ) (b : Bool) → least p n ≡ a → p (suc n) ≡ b → or_else a (cond b (suc n) 0) ≡ suc k
    → (least p n ≡ suc k → Found p n k) → Found p (suc n) k
least_step p n k zero true ea eb h ih =
    let e : k ≡ n = omega arith in
    (rw e eb, omega arith, λ j l u. least_none p n ea j l (omega arith))
least_step p n k zero false ea eb h ih = absurd (omega arith)
least_step p n k (suc a) b ea eb h ih = let r = ih (ea ∙ h) in (r.0, omega arith, r.2)

pub least_found : (p : ℕ → Bool) (n k : ℕ) → least p n ≡ suc k → Found p n k
unfolding least
least_found p zero k h = absurd (omega arith)
least_found p (suc n) k h = least_step p n k (least p n) (p (suc n)) refl refl h (least_found p n k)

-- a loop over 1 to n: none of 1 to i passed
pub least_next : (p : ℕ → Bool) (i : ℕ) → least p i ≡ 0 → p (i + 1) ≡ false → least p (i + 1) ≡ 0
unfolding least
least_next p i h f = rw add-one (let g : p (suc i) ≡ false = rw add-one at f in rw (h, g))

pub least_stop : (p : ℕ → Bool) (n i : ℕ) → least p i ≡ 0 → p (i + 1) ≡ true → i < n → least p n ≡ i + 1
unfolding least
least_stop p zero i h t u = absurd (omega arith)
least_stop p (suc n) i h t u =
    by_eq i n (λ e. let g : p (suc i) ≡ true = rw add-one at t in rw (← e, h, g) (omega arith)) (λ e. rw (least_stop p n i h t (omega arith), add-one))

pub least_end : (p : ℕ → Bool) (n i : ℕ) → least p i ≡ 0 → i ≤ n → n ≤ i → least p n ≡ 0
least_end p n i h a b = let e : i ≡ n = omega arith in rw e at h

pub least_same : (p q : ℕ → Bool) (n : ℕ) → ((k : ℕ) → 1 ≤ k → k ≤ n → p k ≡ q k) → least p n ≡ least q n
unfolding least
least_same p q zero h = refl
least_same p q (suc n) h = rw (least_same p q n (λ k l u. h k l (omega arith)), h (suc n) (omega arith) (omega arith))

-- a list made by index
module _ {A : Type 0} where
  pub length_upto : (f : ℕ → A) (n : ℕ) → length (upto f n) ≡ n
  unfolding upto
  length_upto f zero = refl
  length_upto f (suc n) = length-append (upto f n) (f n ∷ []) ∙ omega (arith, length_upto f n)

  pub upto_same : (f g : ℕ → A) (n : ℕ) → ((i : ℕ) → i < n → f i ≡ g i) → upto f n ≡ upto g n
  unfolding upto
  upto_same f g zero h = refl
  upto_same f g (suc n) h = rw (upto_same f g n (λ i l. h i (omega arith)), h n (omega arith))

  pub get_d_upto : (f : ℕ → A) (n i : ℕ) (d : A) → i < n → get_or (upto f n) i d ≡ f i
  unfolding upto
  get_d_upto f zero i d h = absurd (omega arith)
  get_d_upto f (suc n) i d h =
      by_eq i n (λ e. rw e (get_or_at (upto f n) (f n) [] d n (length_upto f n)))
      (λ e. get_or-append (upto f n) (f n ∷ []) d i (omega (arith, length_upto f n)) ∙ get_d_upto f n i d (omega arith))

  upto_first : (f : ℕ → A) (n : ℕ) → upto f (suc n) ≡ f 0 ∷ upto (λ i. f (suc i)) n
  unfolding upto
  upto_first f zero = refl
  upto_first f (suc n) = rw (upto_first f n)

  -- a list is made by the index into it
  pub upto_at : (f : ℕ → A) (d : A) (s : List A) → ((i : ℕ) → i < length s → f i ≡ get_or s i d) → upto f (length s) ≡ s
  upto_at f d [] h = unfold upto in refl
  upto_at f d (x ∷ s) h =
      upto_first f (length s) ∙ rw (h 0 (omega arith), upto_at (λ i. f (suc i)) d s (λ i l. h (suc i) (omega arith)))
