-- Clauses as sets: what is in a clause, in a join of two, and in a clause less a literal. Assumes nothing.
use mathlib.Core.Path.{◌≡◌, refl, sym, ◌∙◌, ap}
use mathlib.Core.Bool.{Bool, true, false, ◌||◌}
use mathlib.Core.List.{[], ◌∷◌, ◌++◌}
use mathlib.Core.Logic.{◌≢◌, ◌⊎◌, inl, inr, ⊎_elim}
use Prim.Native.Nat.{ℕ, zero, suc, ◌+◌, ◌≤◌, ◌<◌}
use native.Mathlib.Omega.{arith}
use native.Mathlib.Numerals.{add-one}
use mir.Val.{bool_byte}
use lib.Dec.{eqb, ltb}
use lib.ListN.{length, get_or, take}
use lib.Seq.{take-suc}
use borrow.Author.Tests.{eqb-true, eqb-false, eq-eqb, ne_eqb, le-leb}
use Rattle.rules.specs.Walk.{any}
use Rattle.rules.specs.Clause.{Clause, mem, without}
use Rattle.rules.specs.Proposition.{◌∈◌, here, there}
use Rattle.rules.proofs.Logic.{by_bool, by_eq, by_or, differ, not_false, or_yes, or_no, same}
use Rattle.std.proofs.lemmas.List.Folds.{list_any-append}

pub any_mem : (p : ℕ → Bool) (C : Clause) (x : ℕ) → mem x C ≡ true → p x ≡ true → any p C ≡ true
unfolding mem
any_mem p [] x h t = h
any_mem p (y ∷ C) x h t =
    by_eq x y (λ e. let q : p y ≡ true = rw e at t in cc)
    (λ n. let f = ne_eqb x y n in let i : any p C ≡ true = any_mem p C x (cc) t in by_bool (p y) (λ a. cc) (λ a. cc))

pub mem_nil : (x : ℕ) → mem x [] ≡ false
unfolding mem
mem_nil x = refl

pub mem_skip : (x y : ℕ) (C : Clause) → mem x C ≡ true → mem x (y ∷ C) ≡ true
unfolding mem
mem_skip x y C h = by_bool (eqb x y) (λ t. cc) (λ f. cc)

pub mem_any : (p : ℕ → Bool) (C : Clause) → any p C ≡ true → (x : ℕ) × (mem x C ≡ true) × (p x ≡ true)
unfolding mem
mem_any p [] h = (0, h, differ h refl)
mem_any p (y ∷ C) h =
    by_bool (p y) (λ t. (y, rw (eq-eqb y y refl), t))
    (λ f. let r = mem_any p C (cc) in (r.0, mem_skip r.0 y C r.1, r.2))

pub any_false : (p : ℕ → Bool) (C : Clause) (x : ℕ) → any p C ≡ false → mem x C ≡ true → p x ≡ false
any_false p C x h m = not_false (p x) (λ t. differ (any_mem p C x m t) h)

pub mem_cons : (x y : ℕ) (C : Clause) → mem x (y ∷ C) ≡ true → (x ≡ y) ⊎ (mem x C ≡ true)
unfolding mem
mem_cons x y C h = by_bool (eqb x y) (λ t. inl (eqb-true x y t)) (λ f. inr (cc))

pub mem_here : (x : ℕ) (C : Clause) → mem x (x ∷ C) ≡ true
unfolding mem
mem_here x C = rw (eq-eqb x x refl)

pub mem_other : (x y : ℕ) (C : Clause) → x ≢ y → mem x (y ∷ C) ≡ mem x C
unfolding mem
mem_other x y C n = rw (ne_eqb x y n)

-- what is not in a longer list is not its first, and not in the rest
pub mem_not : (x y : ℕ) (C : Clause) → mem x (y ∷ C) ≡ false → (x ≢ y) × (mem x C ≡ false)
mem_not x y C h =
    let n : x ≢ y = λ e. differ (rw e (mem_here y C)) h in
    (n, sym (mem_other x y C n) ∙ h)

pub append_l : (x : ℕ) (C D : Clause) → mem x C ≡ true → mem x (C ++ D) ≡ true
append_l x [] D h = differ h (mem_nil x)
append_l x (y ∷ C) D h = ⊎_elim (λ e. rw e (mem_here y (C ++ D))) (λ m. mem_skip x y (C ++ D) (append_l x C D m)) (mem_cons x y C h)

pub append_r : (x : ℕ) (C D : Clause) → mem x D ≡ true → mem x (C ++ D) ≡ true
append_r x [] D h = h
append_r x (y ∷ C) D h = mem_skip x y (C ++ D) (append_r x C D h)

pub mem_append : (x : ℕ) (C D : Clause) → mem x (C ++ D) ≡ true → (mem x C ≡ true) ⊎ (mem x D ≡ true)
unfolding mem
mem_append x [] D h = inr h
mem_append x (y ∷ C) D h =
    by_bool (eqb x y) (λ t. inl (cc)) (λ f. ⊎_elim (λ a. inl (cc)) (λ a. inr a) (mem_append x C D (cc)))

pub mem_without : (x y : ℕ) (C : Clause) → mem x (without y C) ≡ true → (mem x C ≡ true) × (x ≢ y)
unfolding mem without
mem_without x y [] h = (h, λ e. differ h refl)
mem_without x y (z ∷ C) h =
    by_bool (eqb y z)
    (λ t. let r = mem_without x y C (cc) in (mem_skip x z C r.0, r.1))
    (λ f. by_eq x z
    (λ e. (rw (eq-eqb x z e), λ p. eqb-false y z f (sym p ∙ e)))
    (λ n. let g = ne_eqb x z n in let r = mem_without x y C (cc) in (mem_skip x z C r.0, r.1)))

pub without_mem : (x y : ℕ) (C : Clause) → mem x C ≡ true → x ≢ y → mem x (without y C) ≡ true
unfolding without
without_mem x y [] h n = h
without_mem x y (z ∷ C) h n =
    by_bool (eqb y z)
    (λ t. rw t (⊎_elim (λ e. absurd (n (e ∙ sym (eqb-true y z t)))) (λ m. without_mem x y C m n) (mem_cons x z C h)))
    (λ f. rw f (⊎_elim (λ e. rw e (mem_here z (without y C))) (λ m. mem_skip x z (without y C) (without_mem x y C m n)) (mem_cons x z C h)))

pub mem_in : (x : ℕ) (C : Clause) → mem x C ≡ true → x ∈ C
unfolding mem
mem_in x [] h = differ h refl
mem_in x (y ∷ C) h = by_eq x y (λ e. rw e (◌∈◌.here)) (λ n. let f = ne_eqb x y n in ◌∈◌.there (mem_in x C (cc)))

pub in_mem : (x : ℕ) (C : Clause) → x ∈ C → mem x C ≡ true
in_mem x [] m = elim m [ ]
in_mem x (y ∷ C) (here) = mem_here y C
in_mem x (y ∷ C) (there m) = mem_skip x y C (in_mem x C m)

-- the literal at a place of a clause is in the clause, also where the clause goes by another name
pub mem_at : (C : Clause) (i : ℕ) → i < length C → mem (get_or C i 0) C ≡ true
mem_at [] i h = absurd (omega arith)
mem_at (y ∷ C) zero h = mem_here y C
mem_at (y ∷ C) (suc i) h = mem_skip (get_or C i 0) y C (mem_at C i (omega arith))

pub own_at : (C D : Clause) → D ≡ C → (i : ℕ) → i < length D → mem (get_or D i 0) C ≡ true
own_at C D e i h = sym (ap (mem (get_or D i 0)) e) ∙ mem_at D i h

-- one literal more of a clause
pub mem_next : (x : ℕ) (C : Clause) (i : ℕ) → i < length C → mem x (take (suc i) C) ≡ (mem x (take i C) || eqb x (get_or C i 0))
unfolding mem
mem_next x C i h =
    rw (take-suc C i 0) (list_any-append (eqb x) (take i C) (get_or C i 0 ∷ []) ∙ ap (λ (b : Bool). any (eqb x) (take i C) || b) (or_no _))

-- no literal of a clause is as large as l
pub absent : (n l : ℕ) (C : Clause) → ((i : ℕ) → get_or C i 0 < n) → n ≤ l → mem l C ≡ false
unfolding mem
absent n l [] h b = refl
absent n l (x ∷ C) h b = rw (ne_eqb l x (λ e. omega (arith, h 0)), absent n l C (λ i. h (suc i)) b)

-- a clause gone through part by part
module _ (l : ℕ) (all part rest : Clause) (e : all ≡ part ++ rest) where
  pub part_holds : mem l part ≡ true → mem l all ≡ true
  part_holds h = rw e (append_l l part rest h)

  pub part_passed : mem l part ≡ false → mem l rest ≡ mem l all
  part_passed n = rw e (same (mem l rest) (mem l (part ++ rest)) (append_r l part rest) (λ y. by_or (mem_append l part rest y) (λ p. differ p n) (λ r. r)))

-- a part gone through to its end: how often the literal was met
pub met_next : (l : ℕ) (C : Clause) (i many one : ℕ) → i < length C → ltb 0 many ≡ mem l (take i C) → one ≡ bool_byte (eqb (get_or C i 0) l)
    → (one ≤ 1) × (ltb 0 (many + one) ≡ mem l (take (i + 1) C))
met_next l C i many one h k e =
    by_eq (get_or C i 0) l
    (λ y. let o : one ≡ 1 = rw (eq-eqb (get_or C i 0) l y) at e in
    (omega arith, rw (add-one, mem_next l C i h, eq-eqb l (get_or C i 0) (sym y), or_yes, o) (le-leb 1 (many + 1) (omega arith))))
    (λ n. let o : one ≡ 0 = rw (ne_eqb (get_or C i 0) l n) at e in
    let z : many + one ≡ many = omega arith in
    (omega arith, rw (add-one, mem_next l C i h, ne_eqb l (get_or C i 0) (λ y. n (sym y)), or_no, z) k))
