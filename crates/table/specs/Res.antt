-- What reading comes to: a value, or a refusal. Assumes nothing.
use Rattle.std.specs.Prelude.{Result, Ok, Err}
use Rattle.std.proofs.Math.Option.{Option, none, some}
use Rattle.table.specs.declared.Refusal.{Refusal}

abbrev pub Res : Type 0 → Type 0
Res A = Result A Refusal

infixl 10 ◌>>=◌
-- the first fault counts
abbrev pub ◌>>=◌ : {A B : Type 0} → Result A Refusal → (A → Result B Refusal) → Result B Refusal
Err r >>= f = Err r
Ok a >>= f = f a

abbrev pub on_ok : {A B : Type 0} → (A → B) → Result A Refusal → Result B Refusal
on_ok f (Err r) = Err r
on_ok f (Ok a) = Ok (f a)

-- the reading, unless a test refuses
abbrev pub or_fault : {A : Type 0} → Option Refusal → Result A Refusal → Result A Refusal
or_fault none r = r
or_fault (some x) r = Err x
