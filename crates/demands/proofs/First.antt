-- Demand 1: a refusal has a number of document 01's table and leaves each lent buffer as it came; and no second answer meets a contract.
-- Assumes nothing.
use mathlib.Core.Path.{◌≡◌, refl, sym, ◌∙◌, ap, ap₂}
use mathlib.Core.Bool.{Bool}
use mathlib.Core.List.{List, [], ◌∷◌}
use Prim.Native.Nat.{ℕ, ◌≤◌}
use native.Mathlib.Omega.{arith}
use denote.Ref.{Bor}
use Rattle.table.specs.Limits.{base}
use Rattle.table.specs.Table.{Table, sound, handed_out, handed_from}
use Rattle.table.specs.Inner.{Stretch}
use Rattle.table.specs.Answer.{Reply, refused, paper, verdict, Outcome, outcome}
use Rattle.std.specs.Prelude.{Option, None, Some, Result}
use Rattle.table.specs.Stack.{words}
use Rattle.table.specs.declared.Entry.{Entry as LentEntry}
use Rattle.table.specs.declared.Refusal.{Refusal}
use Rattle.table.specs.declared.Refusal.TheVariants.{BadText, OverLimit, NoRoom, BadTable, BadStack, NotBlocking, BadName, BadValues, NotModel, BadSaved}
use Rattle.table.proofs.Answers.{reply_one_to_one, verdict_one_to_one, decided_keeps}
use Rattle.stack.specs.Tests.{check, table_tests}
use Rattle.removal.specs.Removal.{counted, listed, next_reply, elimination, removal, removal_tests, question}
use Rattle.rebuild.specs.Rebuild.{rebuilding, rebuild_tests}
use Rattle.demands.specs.Demands.{RefusalKeeps}

-- a refusal's number is one of the ten
pub numbered : (r : Refusal) → (n p : ℕ) × (paper r ≡ refused n p) × (1 ≤ n) × (n ≤ 10)
numbered (BadText p) = (1, p, refl, omega arith, omega arith)
numbered (OverLimit p) = (2, p, refl, omega arith, omega arith)
numbered NoRoom = (3, 0, refl, omega arith, omega arith)
numbered BadTable = (4, 0, refl, omega arith, omega arith)
numbered (BadStack p) = (5, p, refl, omega arith, omega arith)
numbered (NotBlocking p) = (6, p, refl, omega arith, omega arith)
numbered BadName = (7, 0, refl, omega arith, omega arith)
numbered (BadValues p) = (8, p, refl, omega arith, omega arith)
numbered (NotModel p) = (9, p, refl, omega arith, omega arith)
numbered (BadSaved p) = (10, p, refl, omega arith, omega arith)

pub eliminate_keeps : (t : Table) (ws : List ℕ) → RefusalKeeps (elimination base t ws) ws
unfolding elimination
eliminate_keeps t ws = decided_keeps (table_tests base t ws) ws _ _

pub remove_keeps : (t : Table) (ws : List ℕ) (c k l : ℕ) → RefusalKeeps (removal base t ws c k l) ws
unfolding removal
remove_keeps t ws c k l = decided_keeps (removal_tests base t ws c k l) ws _ _

pub rebuild_keeps : (t : Table) (ws : List ℕ) (c : ℕ) (vs : List ℕ) → RefusalKeeps (rebuilding base t ws c vs) vs
unfolding rebuilding
rebuild_keeps t ws c vs = decided_keeps (rebuild_tests base t ws c vs) vs _ _

-- the answers are told one to one
pub counted_one_to_one : (a b : Result ℕ Refusal) → counted a ≡ counted b → a ≡ b
counted_one_to_one a b h = reply_one_to_one _ (λ x y e. cc) a b h

-- an entry, or none, is told one to one
listed_one_to_one : (a b : Option LentEntry) → words (listed a) ≡ words (listed b) → a ≡ b
unfolding words
listed_one_to_one None None h = refl
listed_one_to_one None (Some e) h = cc
listed_one_to_one (Some d) None h = cc
listed_one_to_one (Some d) (Some e) h =
    let k : d.clause ≡ e.clause = cc in
    let l : d.literal ≡ e.literal = cc in
    ap₂ (λ (k l : ℕ). Some (record { clause = k; literal = l })) k l

pub next_one_to_one : (a b : Result (Option LentEntry) Refusal) → next_reply a ≡ next_reply b → a ≡ b
next_one_to_one a b h = reply_one_to_one _ listed_one_to_one a b h

-- No second answer: two answers, with what they leave in the lent buffer, that are both equal to the definition are the same.
module _ {A : Type 0} (told : A → Reply) (one : (a b : A) → told a ≡ told b → a ≡ b) where
  one_reply : {r : Reply} (a b : A) → told a ≡ r → told b ≡ r → a ≡ b
  one_reply a b h k = one a b (h ∙ sym k)

  one_outcome : {o : Outcome} (a b : A) (xs ys : List ℕ) → outcome (told a) xs ≡ o → outcome (told b) ys ≡ o → (a ≡ b) × (xs ≡ ys)
  one_outcome a b xs ys h k =
      let e = h ∙ sym k in
      (one a b (ap (λ (o : Outcome). o.reply) e), ap (λ (o : Outcome). o.cells) e)

pub is_sound_once : (t : Table) (a b : Bool) → a ≡ sound base t → b ≡ sound base t → a ≡ b
is_sound_once t a b h k = h ∙ sym k

pub eliminate_once : (t : Table) (ws : List ℕ) (a b : Result ℕ Refusal) (xs ys : List ℕ)
    → outcome (counted a) xs ≡ elimination base t ws → outcome (counted b) ys ≡ elimination base t ws → (a ≡ b) × (xs ≡ ys)
eliminate_once t ws = one_outcome counted counted_one_to_one

pub remove_once : (t : Table) (ws : List ℕ) (c k l : ℕ) (a b : Result ℕ Refusal) (xs ys : List ℕ)
    → outcome (counted a) xs ≡ removal base t ws c k l → outcome (counted b) ys ≡ removal base t ws c k l → (a ≡ b) × (xs ≡ ys)
remove_once t ws c k l = one_outcome counted counted_one_to_one

pub next_blocked_once : (t : Table) (ws : List ℕ) (c : ℕ) (a b : Result (Option LentEntry) Refusal)
    → next_reply a ≡ question base t ws c → next_reply b ≡ question base t ws c → a ≡ b
next_blocked_once t ws c = one_reply next_reply next_one_to_one

pub check_stack_once : (t : Table) (ws : List ℕ) (c : ℕ) (a b : Result (Unit {0}) Refusal)
    → verdict a ≡ check base t ws c → verdict b ≡ check base t ws c → a ≡ b
check_stack_once t ws c = one_reply verdict verdict_one_to_one

pub rebuild_once : (t : Table) (ws : List ℕ) (c : ℕ) (vs : List ℕ) (a b : Result (Unit {0}) Refusal) (xs ys : List ℕ)
    → outcome (verdict a) xs ≡ rebuilding base t ws c vs → outcome (verdict b) ys ≡ rebuilding base t ws c vs → (a ≡ b) × (xs ≡ ys)
rebuild_once t ws c vs = one_outcome verdict verdict_one_to_one

-- a handed out stretch: the same contents at the same place of the same buffer. (What is not fixed is the ghost name, which no program can see.)
pub clause_literals_once : (t : Table) (lent : Bor (List ℕ)) (k : ℕ) (a b : Bor (List ℕ))
    → Stretch a lent (handed_out base t k) (handed_from base t k) → Stretch b lent (handed_out base t k) (handed_from base t k)
    → (a.now ≡ b.now) × (a.ref_ptr.0 ≡ b.ref_ptr.0) × (a.ref_ptr.1 ≡ b.ref_ptr.1)
clause_literals_once t lent k a b h g = (h.contents ∙ sym g.contents, h.buffer ∙ sym g.buffer, h.start ∙ sym g.start)
