-- Truth values: how a test is taken apart. Assumes nothing.
use mathlib.Core.Path.{◌≡◌, refl, sym}
use mathlib.Core.Bool.{Bool, true, false, not, ◌&&◌, ◌||◌}
use mathlib.Core.List.{List, [], ◌∷◌, ◌++◌}
use mathlib.Core.Logic.{◌↔◌, ◌⊎◌, inl, inr, ◌≢◌, by_cases}
use Prim.Native.Nat.{ℕ, ◌≤◌}
use native.Mathlib.Omega.{arith}
use native.Mathlib.Decide.{ℕ_discrete}
use lib.ListN.{length}

pub by_bool {ℓ} : {P : Type ℓ} (b : Bool) → (b ≡ true → P) → (b ≡ false → P) → P
by_bool true t f = t refl
by_bool false t f = f refl

pub differ {ℓ} : {P : Type ℓ} {b : Bool} → b ≡ true → b ≡ false → P
differ {P = P} t f = absurd (let z : ◌≡◌ {A = ℕ} 0 1 = cc in omega arith)

pub and_true : (a b : Bool) → ((a && b) ≡ true) ↔ ((a ≡ true) × (b ≡ true))
and_true true b = (λ h. (refl, h), λ h. h.1)
and_true false b = (λ h. (h, cc), λ h. h.0)

pub or_true : (a b : Bool) → (a || b) ≡ true → (a ≡ true) ⊎ (b ≡ true)
or_true true b h = inl refl
or_true false b h = inr h

pub by_or {ℓ} : {A B : Type 0} {P : Type ℓ} → A ⊎ B → (A → P) → (B → P) → P
by_or (inl a) f g = f a
by_or (inr b) f g = g b

pub or_yes : (b : Bool) → (b || true) ≡ true
or_yes true = refl
or_yes false = refl

pub or_no : (b : Bool) → (b || false) ≡ b
or_no true = refl
or_no false = refl

pub and_no : (b : Bool) → (b && false) ≡ false
and_no true = refl
and_no false = refl

pub not_not : (b : Bool) → not (not b) ≡ b
not_not true = refl
not_not false = refl

pub not_false : (b : Bool) → (b ≡ true → ⊥) → b ≡ false
not_false true n = absurd (n refl)
not_false false n = refl

-- two tests that imply each other are equal
pub same : (a b : Bool) → (a ≡ true → b ≡ true) → (b ≡ true → a ≡ true) → a ≡ b
same true b f g = sym (f refl)
same false true f g = g refl
same false false f g = refl

pub by_eq {ℓ} : {P : Type ℓ} (a b : ℕ) → (a ≡ b → P) → (a ≢ b → P) → P
by_eq a b t f = by_cases (ℕ_discrete a b) t f

-- an empty list, or one with an element
pub by_list : {A P : Type 0} (s : List A) → (s ≡ [] → P) → (1 ≤ length s → P) → P
by_list [] e n = e refl
by_list (x ∷ s) e n = n (omega arith)

pub append_empty : {A : Type 0} (s t : List A) → s ++ t ≡ [] → (s ≡ []) × (t ≡ [])
append_empty [] t h = (refl, h)
append_empty (x ∷ s) t h = (cc, cc)
