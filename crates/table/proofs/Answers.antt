-- Answers in document 01's numbers: the map from the enums is one to one. And tests one after the other: when all of them pass. Assumes nothing.
use mathlib.Core.Path.{◌≡◌, refl, sym, ◌∙◌, ap}
use mathlib.Core.Bool.{Bool, true, false}
use mathlib.Core.List.{List, []}
use mathlib.Core.Option.{Option, none, some}
use Prim.Native.Nat.{ℕ, zero, suc, ◌-◌, ◌≤◌, ◌<◌}
use native.Mathlib.Omega.{arith}
use Rattle.std.specs.Prelude.{Result, Ok, Err, Some}
use Rattle.rules.specs.Walk.{found}
use Rattle.table.proofs.Found.{found_some}
use Rattle.table.specs.declared.Refusal.{Refusal}
use Rattle.table.specs.declared.Refusal.TheVariants.{BadText, OverLimit, NoRoom, BadTable, BadStack, NotBlocking, BadName, BadValues, NotModel, BadSaved}
use Rattle.table.specs.Answer.{Reply, answered, refused, paper, reply_of, verdict, as_verdict, test, test_at, ◌then◌, outcome, decided}

-- the number and the place that are told of a refusal
number : Reply → ℕ
number (answered vs) = 0
number (refused n p) = n

place : Reply → ℕ
place (answered vs) = 0
place (refused n p) = p

-- the refusal with a place that has the number
abbrev named : ℕ → ℕ → Refusal
named n p = elim (n - 1) [ zero ↦ BadText p | suc a ↦ elim a [ zero ↦ OverLimit p | suc b ↦ elim b [ zero ↦ NoRoom | suc d ↦ elim d [ zero ↦ BadTable | suc e ↦ elim e [ zero ↦ BadStack p | suc f ↦ elim f [ zero ↦ NotBlocking p | suc g ↦ elim g [ zero ↦ BadName | suc h ↦ elim h [ zero ↦ BadValues p | suc i ↦ elim i [ zero ↦ NotModel p | suc j ↦ BadSaved p ] ] ] ] ] ] ] ] ]

back : (r : Refusal) → named (number (paper r)) (place (paper r)) ≡ r
unfolding number place
back (BadText p) = refl
back (OverLimit p) = refl
back NoRoom = refl
back BadTable = refl
back (BadStack p) = refl
back (NotBlocking p) = refl
back BadName = refl
back (BadValues p) = refl
back (NotModel p) = refl
back (BadSaved p) = refl

-- a refusal is no answer
pub not_answered : (r : Refusal) (vs : List ℕ) → answered vs ≡ paper r → ⊥
unfolding number
not_answered (BadText p) vs h = let z : ◌≡◌ {A = ℕ} 0 1 = ap number h in omega arith
not_answered (OverLimit p) vs h = let z : ◌≡◌ {A = ℕ} 0 2 = ap number h in omega arith
not_answered NoRoom vs h = let z : ◌≡◌ {A = ℕ} 0 3 = ap number h in omega arith
not_answered BadTable vs h = let z : ◌≡◌ {A = ℕ} 0 4 = ap number h in omega arith
not_answered (BadStack p) vs h = let z : ◌≡◌ {A = ℕ} 0 5 = ap number h in omega arith
not_answered (NotBlocking p) vs h = let z : ◌≡◌ {A = ℕ} 0 6 = ap number h in omega arith
not_answered BadName vs h = let z : ◌≡◌ {A = ℕ} 0 7 = ap number h in omega arith
not_answered (BadValues p) vs h = let z : ◌≡◌ {A = ℕ} 0 8 = ap number h in omega arith
not_answered (NotModel p) vs h = let z : ◌≡◌ {A = ℕ} 0 9 = ap number h in omega arith
not_answered (BadSaved p) vs h = let z : ◌≡◌ {A = ℕ} 0 10 = ap number h in omega arith

pub paper_one_to_one : (a b : Refusal) → paper a ≡ paper b → a ≡ b
paper_one_to_one a b h = sym (back a) ∙ ap (λ (r : Reply). named (number r) (place r)) h ∙ back b

-- the values that are told of an answer
told : Reply → List ℕ
told (answered vs) = vs
told (refused n p) = []

-- an answer is told one to one where its values are
pub reply_one_to_one : {A : Type 0} (values : A → List ℕ) → ((x y : A) → values x ≡ values y → x ≡ y) → (a b : Result A Refusal) → reply_of values a ≡ reply_of values b → a ≡ b
unfolding told
reply_one_to_one values apart (Ok a) (Ok b) h = ap Ok (apart a b (ap told h))
reply_one_to_one values apart (Ok a) (Err r) h = absurd (not_answered r (values a) h)
reply_one_to_one values apart (Err r) (Ok b) h = absurd (not_answered r (values b) (sym h))
reply_one_to_one values apart (Err r) (Err q) h = ap Err (paper_one_to_one r q h)

pub verdict_one_to_one : (a b : Result (Unit {0}) Refusal) → verdict a ≡ verdict b → a ≡ b
verdict_one_to_one a b h = reply_one_to_one _ (λ _ _ _. refl) a b h

-- tests one after the other all pass exactly where each does
pub then_none : (a b : Option Refusal) → (a then b) ≡ none → (a ≡ none) × (b ≡ none)
then_none none b h = (refl, h)
then_none (some r) b h = (h, cc)

pub test_none : (b : Bool) (r : Refusal) → test b r ≡ none → b ≡ true
test_none true r h = refl
test_none false r h = cc

pub test_at_none : (place : ℕ) (f : ℕ → Refusal) → test_at place f ≡ none → place ≡ 0
test_at_none zero f h = refl
test_at_none (suc place) f h = cc

-- a place that is not 0 refuses
pub test_at_some : (place : ℕ) (f : ℕ → Refusal) {found : ℕ} → found ≡ place → 0 < found → test_at place f ≡ some (f found)
test_at_some zero f e h = absurd (omega arith)
test_at_some (suc place) f e h = rw e

-- a place that was found refuses
pub test_found : (place : ℕ) (f : ℕ → Refusal) {k : ℕ} → Some k ≡ found place → test_at place f ≡ some (f k)
test_found zero f e = cc
test_found (suc n) f {k = k} e = let q : suc n ≡ k = (found_some (suc n) e).0 in ap (λ (m : ℕ). some (f m)) q

-- a place that was found is 0, unless it is above
pub nowhere : (place : ℕ) {found : ℕ} → found ≡ place → found ≤ 0 → place ≡ 0
nowhere place e h = omega arith

-- what a verdict says of the tests
pub tests_pass : (o : Option Refusal) {v : Result (Unit {0}) Refusal} → v ≡ as_verdict o → v ≡ Ok tt → o ≡ none
tests_pass none e h = refl
tests_pass (some r) e h = cc

pub tests_refuse : (o : Option Refusal) (r : Refusal) {v : Result (Unit {0}) Refusal} → v ≡ as_verdict o → v ≡ Err r → o ≡ some r
tests_refuse none r e h = cc
tests_refuse (some q) r e h = cc

-- a refusal keeps the buffer, whatever the tests and the outcome of a success
pub decided_keeps : (o : Option Refusal) (cells new vs : List ℕ) (number place : ℕ)
    → (decided o cells (outcome (answered vs) new)).reply ≡ refused number place → (decided o cells (outcome (answered vs) new)).cells ≡ cells
decided_keeps none cells new vs number place h = cc
decided_keeps (some r) cells new vs number place h = refl
