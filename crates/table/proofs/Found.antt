-- A number that was found, or none: what each says of the number, which is 0 for none. Assumes nothing.
use mathlib.Core.Path.{◌≡◌, refl, sym, ap}
use mathlib.Core.Logic.{◌≢◌}
use Prim.Native.Nat.{ℕ, zero, suc, ◌≤◌}
use native.Mathlib.Omega.{arith}
use mathlib.Core.Bool.{true, false}
use Rattle.std.specs.Option.{is_some}
use Rattle.std.specs.Prelude.{Option, None, Some}
use Rattle.rules.specs.Walk.{found}

-- the number, and 0 for none
abbrev pub or_zero : Option ℕ → ℕ
or_zero None = 0
or_zero (Some k) = k

pub found_none : (n : ℕ) → None ≡ found n → n ≡ 0
found_none zero h = refl
found_none (suc n) h = cc

pub found_some : (n : ℕ) {k : ℕ} → Some k ≡ found n → (n ≡ k) × (n ≢ 0)
found_some zero h = cc
found_some (suc n) h = (cc, λ e. omega arith)

pub found_number : (n : ℕ) → or_zero (found n) ≡ n
found_number zero = refl
found_number (suc n) = refl

pub some_found : {k : ℕ} → 1 ≤ k → Some k ≡ found k
some_found {k = zero} h = absurd (omega arith)
some_found {k = suc k} h = refl

-- what was found is what its number finds
pub found_again : (n : ℕ) → found n ≡ found (or_zero (found n))
found_again n = ap found (sym (found_number n))

pub positive : (o : Option ℕ) {k : ℕ} → o ≡ found (or_zero o) → o ≡ Some k → 1 ≤ k
positive o {k = k} h e = let g : Some k ≡ found k = rw e at h in let n = (found_some k g).1 in omega arith

-- what the question whether there is one says of the number
pub none_is : (n : ℕ) → is_some (found n) ≡ false → n ≡ 0
none_is zero h = refl
none_is (suc n) h = cc

pub some_is : (n : ℕ) → is_some (found n) ≡ true → n ≢ 0
some_is zero h e = cc
some_is (suc n) h e = omega arith
