-- Readings that can be refused: a success is no refusal, and what a success of two steps had between them. Assumes nothing.
use mathlib.Core.Path.{◌≡◌, refl}
use Prim.Native.Nat.{ℕ}
use native.Mathlib.Omega.{arith}
use Rattle.table.specs.declared.Refusal.{Refusal}
use Rattle.table.specs.Res.{Res, ◌>>=◌}
use Rattle.std.specs.Prelude.{Err, Ok}

pub never : {A : Type 0} (r : Res A) (a : A) (x : Refusal) → r ≡ Ok a → r ≡ Err x → ⊥
never r a x e f = let z : ◌≡◌ {A = ℕ} 0 1 = cc in omega arith

pub ok_same : {A : Type 0} (a b : A) → ◌≡◌ {A = Res A} (Ok a) (Ok b) → a ≡ b
ok_same a b e = cc

pub both : {A B : Type 0} (r : Res A) (f : A → Res B) (b : B) → (r >>= f) ≡ Ok b → (a : A) × (r ≡ Ok a) × (f a ≡ Ok b)
both (Err x) f b e = absurd (never (Err x) b x e refl)
both (Ok a) f b e = (a, refl, e)
