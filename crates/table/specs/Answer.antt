-- What a call answers, in document 01's numbers: values, or a refusal's number and place ('Refusal numbers'). Assumes nothing.
use Rattle.std.specs.Prelude.{Bool, true, false, ◌&&◌, List, [], ℕ, zero, suc, eqb, Result, Ok, Err}
use Rattle.std.proofs.Math.Option.{Option, none, some}
use Rattle.rules.specs.Walk.{same}
use Rattle.table.specs.declared.Refusal.{Refusal}
use Rattle.table.specs.declared.Refusal.TheVariants.{BadText, OverLimit, NoRoom, BadTable, BadStack, NotBlocking, BadName, BadValues, NotModel, BadSaved}

pub data Reply : Type 0 where
  answered : List ℕ → Reply
  refused : ℕ → ℕ → Reply

-- the two replies are equal
unfoldable pub same_reply : Reply → Reply → Bool
same_reply (answered vs) (answered ws) = same vs ws
same_reply (answered vs) (refused n p) = false
same_reply (refused n p) (answered ws) = false
same_reply (refused n p) (refused m q) = eqb n m && eqb p q

-- the number and the place of each refusal
abbrev pub paper : Refusal → Reply
paper (BadText place) = refused 1 place
paper (OverLimit place) = refused 2 place
paper NoRoom = refused 3 0
paper BadTable = refused 4 0
paper (BadStack entry) = refused 5 entry
paper (NotBlocking place) = refused 6 place
paper BadName = refused 7 0
paper (BadValues variable) = refused 8 variable
paper (NotModel clause) = refused 9 clause
paper (BadSaved place) = refused 10 place

-- the answer of a call: its values, as the function tells them, or the refusal
abbrev pub reply_of : {A : Type 0} → (A → List ℕ) → Result A Refusal → Reply
reply_of values (Ok a) = answered (values a)
reply_of values (Err r) = paper r

-- the answer of a call that has no value to give
abbrev pub verdict : Result (Unit {0}) Refusal → Reply
verdict r = reply_of (λ _. []) r

-- the verdict of a list of tests
abbrev pub as_verdict : Option Refusal → Result (Unit {0}) Refusal
as_verdict none = Ok tt
as_verdict (some r) = Err r

-- the refusal that is given exactly where the test fails
abbrev pub test : Bool → Refusal → Option Refusal
test true r = none
test false r = some r

-- the refusal at the first place where something is wrong, unless that is 0: then nothing is
abbrev pub test_at : ℕ → (ℕ → Refusal) → Option Refusal
test_at zero r = none
test_at (suc place) r = some (r (suc place))

-- the first refusal counts
abbrev pub ◌then◌ : Option Refusal → Option Refusal → Option Refusal
none then b = b
some r then b = some r

infixr 30 ◌then◌
-- the answer, unless a test refuses
abbrev pub unless : Option Refusal → Reply → Reply
unless none a = a
unless (some r) a = paper r

-- what a call with one lent buffer comes to: its reply, and every cell of the buffer afterwards
pub record Outcome : Type 0 where
  pub reply : Reply
  pub cells : List ℕ

abbrev pub outcome : Reply → List ℕ → Outcome
outcome a cells = record { reply = a; cells = cells }

-- the outcome, unless a test refuses: a refusal leaves the buffer with the contents it came with
abbrev pub decided : Option Refusal → List ℕ → Outcome → Outcome
decided none cells o = o
decided (some r) cells o = outcome (paper r) cells
