-- Numbers from 1 to m, and those that a list of new ones leaves: sums over the one and the other, and that m new ones leave none. Assumes nothing.
use mathlib.Core.Path.{◌≡◌, refl, sym, ap, ◌∙◌}
use mathlib.Core.Bool.{true, false, cond}
use mathlib.Core.List.{List, [], ◌∷◌, ◌++◌}
use Prim.Native.Nat.{ℕ, zero, suc, ◌+◌, ◌≤◌, ◌<◌}
use native.Mathlib.Omega.{arith}
use lib.ListN.{length}
use Rattle.rules.specs.Clause.{mem}
use Rattle.rules.proofs.Logic.{by_bool, by_eq, differ, not_false}
use Rattle.rules.proofs.Members.{mem_nil, mem_here, mem_other, append_r}

-- numbers from 1 to m, each new
abbrev pub New : ℕ → List ℕ → Type 0
New m [] = Unit {0}
New m (g ∷ gs) = (mem g gs ≡ false) × (1 ≤ g) × (g ≤ m) × New m gs

pub new_within : (m : ℕ) (gs : List ℕ) → New m gs → (k : ℕ) → mem k gs ≡ true → (1 ≤ k) × (k ≤ m)
new_within m [] n k y = differ y (mem_nil k)
new_within m (g ∷ gs) n k y = by_eq k g (λ p. rw p (n.1, n.2)) (λ p. new_within m gs n.3 k (sym (mem_other k g gs p) ∙ y))

-- no number is in both parts
pub new_apart : (m : ℕ) (gs hs : List ℕ) → New m (gs ++ hs) → (k : ℕ) → mem k gs ≡ true → mem k hs ≡ false
new_apart m [] hs n k y = differ y (mem_nil k)
new_apart m (g ∷ gs) hs n k y =
    by_eq k g
    (λ p. not_false _ (λ z. differ (append_r g gs hs (rw p at z)) n.0))
    (λ p. new_apart m gs hs n.3 k (sym (mem_other k g gs p) ∙ y))

-- the sum of w over the numbers 1 to m that are not in the list
unfoldable pub left : (ℕ → ℕ) → ℕ → List ℕ → ℕ
left w zero gs = 0
left w (suc m) gs = left w m gs + cond (mem (suc m) gs) 0 (w (suc m))

-- the sum of w over the list
unfoldable pub sum_of : (ℕ → ℕ) → List ℕ → ℕ
sum_of w [] = 0
sum_of w (g ∷ gs) = w g + sum_of w gs

-- the sum of w over the numbers 1 to m
unfoldable pub sum_to : (ℕ → ℕ) → ℕ → ℕ
sum_to w zero = 0
sum_to w (suc m) = sum_to w m + w (suc m)

pub sum_to_same : (v w : ℕ → ℕ) (m : ℕ) → ((k : ℕ) → 1 ≤ k → k ≤ m → v k ≡ w k) → sum_to v m ≡ sum_to w m
unfolding sum_to
sum_to_same v w zero h = refl
sum_to_same v w (suc m) h = rw (sum_to_same v w m (λ k l u. h k l (omega arith)), h (suc m) (omega arith) (omega arith))

module _ (w : ℕ → ℕ) where
  left_out : (m g : ℕ) (gs : List ℕ) → m < g → left w m (g ∷ gs) ≡ left w m gs
  unfolding left
  left_out zero g gs h = refl
  left_out (suc m) g gs h = rw (mem_other (suc m) g gs (λ e. absurd (omega arith)), left_out m g gs (omega arith))

  left_one : (m g : ℕ) (gs : List ℕ) → mem g gs ≡ false → 1 ≤ g → g ≤ m → left w m (g ∷ gs) + w g ≡ left w m gs
  unfolding left
  left_one zero g gs n l h = absurd (omega arith)
  left_one (suc m) g gs n l h =
      by_eq (suc m) g
      (λ e.
      let a : mem (suc m) (g ∷ gs) ≡ true = rw e (mem_here g gs) in
      let b : mem (suc m) gs ≡ false = rw e n in
      let c : w (suc m) ≡ w g = ap w e in
      rw (a, b, left_out m g gs (omega arith)) (omega arith))
      (λ e.
      let i = left_one m g gs n l (omega arith) in
      rw (mem_other (suc m) g gs e) (omega arith))

  pub left_none : (m : ℕ) → left w m [] ≡ sum_to w m
  unfolding left sum_to mem
  left_none zero = refl
  left_none (suc m) = rw (left_none m)

  -- what a list of new numbers leaves, and the list, are all
  pub left_all : (m : ℕ) (gs : List ℕ) → New m gs → left w m gs + sum_of w gs ≡ sum_to w m
  unfolding sum_of
  left_all m [] h = omega (arith, left_none m)
  left_all m (g ∷ gs) h =
      let a = left_one m g gs h.0 h.1 h.2 in
      let b = left_all m gs h.3 in
      omega arith

  left_zero : (m : ℕ) (gs : List ℕ) → ((k : ℕ) → 1 ≤ k → k ≤ m → mem k gs ≡ true) → left w m gs ≡ 0
  unfolding left
  left_zero zero gs h = refl
  left_zero (suc m) gs h = rw (left_zero m gs (λ k l u. h k l (omega arith)), h (suc m) (omega arith) (omega arith))

abbrev pub one : ℕ → ℕ
one k = 1

pub ones : (m : ℕ) → sum_to one m ≡ m
unfolding sum_to
ones zero = refl
ones (suc m) = rw (ones m) (omega arith)

pub ones_of : (gs : List ℕ) → sum_of one gs ≡ length gs
unfolding sum_of
ones_of [] = refl
ones_of (g ∷ gs) = rw (ones_of gs) (omega arith)

none_left : (m : ℕ) (gs : List ℕ) → left one m gs ≡ 0 → (k : ℕ) → 1 ≤ k → k ≤ m → mem k gs ≡ true
unfolding left
none_left zero gs h k l u = absurd (omega arith)
none_left (suc m) gs h k l u =
    by_bool (mem (suc m) gs)
    (λ t. by_eq k (suc m) (λ e. rw e t) (λ e. none_left m gs h_left k l (omega arith)))
    (λ f. absurd (let z = rw f at h in omega arith))
  where
    h_left : left one m gs ≡ 0
    h_left = omega arith

-- m new numbers from 1 to m are all of them
pub all_there : (m : ℕ) (gs : List ℕ) → New m gs → length gs ≡ m → (k : ℕ) → 1 ≤ k → k ≤ m → mem k gs ≡ true
all_there m gs n e k l u =
    none_left m gs (let a = left_all one m gs n in let b = ones m in let c = ones_of gs in omega arith) k l u

pub sum_all : (w : ℕ → ℕ) (m : ℕ) (gs : List ℕ) → New m gs → length gs ≡ m → sum_to w m ≡ sum_of w gs
sum_all w m gs n e = let a = left_all w m gs n in let b = left_zero w m gs (all_there m gs n e) in omega arith
