-- A call by what its tests come to, and the count that a refusal leaves. Assumes nothing.
use mathlib.Core.Path.{◌≡◌, refl}
use mathlib.Core.Option.{Option, none, some}
use Prim.Native.Nat.{ℕ}
use Rattle.table.specs.Answer.{paper}
use Rattle.table.specs.declared.Refusal.{Refusal}
use Rattle.table.specs.declared.Refusal.TheVariants.{BadText, OverLimit, NoRoom, BadTable, BadStack, NotBlocking, BadName, BadValues, NotModel, BadSaved}
use Rattle.demands.specs.Calls.{new_count}

pub by_tests {ℓ} : {P : Type ℓ} (o : Option Refusal) → (o ≡ none → P) → ((r : Refusal) → o ≡ some r → P) → P
by_tests none f g = f refl
by_tests (some r) f g = g r refl

pub paper_count : (r : Refusal) (c : ℕ) → new_count (paper r) c ≡ c
paper_count (BadText p) c = refl
paper_count (OverLimit p) c = refl
paper_count NoRoom c = refl
paper_count BadTable c = refl
paper_count (BadStack p) c = refl
paper_count (NotBlocking p) c = refl
paper_count BadName c = refl
paper_count (BadValues p) c = refl
paper_count (NotModel p) c = refl
paper_count (BadSaved p) c = refl
