-- The answers are told one to one, no second answer meets the reader's contract, and a refusal keeps the three buffers. Assumes nothing.
use mathlib.Core.Path.{◌≡◌, refl, sym, ap, ◌∙◌}
use mathlib.Core.List.{List, [], ◌∷◌}
use mathlib.Core.Option.{Option, none, some}
use Prim.Native.Nat.{ℕ}
use native.Mathlib.Omega.{arith}
use Rattle.std.specs.Prelude.{Result, Ok, Err}
use Rattle.table.specs.Limits.{base}
use Rattle.table.specs.Answer.{answered, refused, test_at}
use Rattle.table.specs.declared.Refusal.{Refusal}
use Rattle.table.specs.declared.Refusal.TheVariants.{NotBlocking}
use Rattle.table.proofs.Answers.{reply_one_to_one}
use Rattle.saved.specs.Field.{narrow}
use Rattle.saved.specs.Form.{Form}
use Rattle.table.specs.Res.{Res}
use Rattle.saved.specs.Reading.{read_form}
use Rattle.saved.specs.Saved.{Loaded, loaded, or_kept, accepted, unblocked, unpacked, room_tests, reading}
use Rattle.saved_read.specs.Restored.{restored}
use Rattle.saved_read.specs.declared.Restored.{Restored}

pub restored_one_to_one : (a b : Result Restored Refusal) → restored a ≡ restored b → a ≡ b
restored_one_to_one a b h = reply_one_to_one _ (λ x y e. counts x y e) a b h
  where
    counts : (x y : Restored) → (x.variables ∷ x.clauses ∷ x.removals ∷ []) ≡ (y.variables ∷ y.clauses ∷ y.removals ∷ []) → x ≡ y
    counts x y e =
        let p : x.variables ≡ y.variables = cc in
        let q : x.clauses ≡ y.clauses = cc in
        let r : x.removals ≡ y.removals = cc in
        λ i. record { variables = p i; clauses = q i; removals = r i }

-- two answers, with what they leave in the lent buffers, that both meet the contract are the same
pub read_saved_once : (bs L O S : List ℕ) (a b : Result Restored Refusal) (L₁ O₁ S₁ L₂ O₂ S₂ : List ℕ) → loaded (restored a) L₁ O₁ S₁ ≡ reading base narrow bs L O S
    → loaded (restored b) L₂ O₂ S₂ ≡ reading base narrow bs L O S → (a ≡ b) × (L₁ ≡ L₂) × (O₁ ≡ O₂) × (S₁ ≡ S₂)
read_saved_once bs L O S a b L₁ O₁ S₁ L₂ O₂ S₂ h k =
    let e = h ∙ sym k in (
      restored_one_to_one a b (ap (λ (o : Loaded). o.reply) e),
      ap (λ (o : Loaded). o.lits) e,
      ap (λ (o : Loaded). o.offs) e,
      ap (λ (o : Loaded). o.stack) e,
    )

-- a refusal leaves the buffers with the contents they came with
abbrev pub Keeps : Loaded → List ℕ → List ℕ → List ℕ → Type 0
Keeps o L O S = (n p : ℕ) → o.reply ≡ refused n p → (o.lits ≡ L) × (o.offs ≡ O) × (o.stack ≡ S)

kept_keeps : (t : Option Refusal) (L O S : List ℕ) (o : Loaded) → Keeps o L O S → Keeps (or_kept t L O S o) L O S
kept_keeps none L O S o h = h
kept_keeps (some r) L O S o h = λ n p e. (refl, refl, refl)

never : {A : Type 0} (vs : List ℕ) (n p : ℕ) → answered vs ≡ refused n p → A
never vs n p e = absurd (let z : ◌≡◌ {A = ℕ} 0 1 = cc in omega arith)

unpacked_keeps : (f : Form) (L O S : List ℕ) → Keeps (unpacked f L O S) L O S
unfolding unpacked
unpacked_keeps f L O S = λ n p e. never _ n p e

accepted_keeps : (x : Res Form) (L O S : List ℕ) → Keeps (accepted x L O S) L O S
accepted_keeps (Err r) L O S = λ n p e. (refl, refl, refl)
accepted_keeps (Ok f) L O S = kept_keeps (test_at (unblocked f) NotBlocking) L O S (unpacked f L O S) (unpacked_keeps f L O S)

pub read_saved_keeps : (bs L O S : List ℕ) → Keeps (reading base narrow bs L O S) L O S
unfolding reading
read_saved_keeps bs L O S =
    kept_keeps (room_tests base L O S) L O S (accepted (read_form base narrow bs) L O S) (accepted_keeps (read_form base narrow bs) L O S)
