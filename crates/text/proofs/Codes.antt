-- The codes of literals, and how a clause goes on by one token. Assumes nothing.
use mathlib.Core.Path.{◌≡◌, refl, ap, sym, ◌∙◌}
use mathlib.Core.Bool.{Bool, true, false, cond}
use mathlib.Core.List.{List, [], ◌∷◌, ◌++◌}
use Prim.Native.Nat.{ℕ, ◌+◌, ◌<◌, ◌≤◌}
use native.Mathlib.Numerals.{add-one}
use native.Mathlib.Omega.{arith}
use lib.Dec.{ltb, eqb}
use lib.ListN.{length, drop, take, set}
use lib.Seq.{take-suc-set, drop-set-lt, drop-drop}
use borrow.Author.Tests.{ltb-true, eqb-false}
use Rattle.rules.specs.Clause.{Clause, mem}
use Rattle.table.specs.declared.Refusal.TheVariants.{BadText, OverLimit}
use Rattle.words.specs.Tokens.{Token}
use Rattle.words.specs.Numbers.{number}
use Rattle.text.specs.declared.Step.{Step}
use Rattle.text.specs.declared.Step.TheVariants.{Wrong, Ends, Repeated, Kept, Full}
use Rattle.table.specs.Res.{Res}
use Rattle.text.specs.Clauses.{code_of, step_of, clause}
use Rattle.std.specs.Prelude.{Err, Ok}

-- after a token that is that to a clause
abbrev pub after : ℕ → ℕ → ℕ → Clause → ℕ → List Token → Step → Res (Clause × List Token)
after n room end kept place ts Wrong = Err (BadText place)
after n room end kept place ts Ends = Ok (kept, ts)
after n room end kept place ts Repeated = clause n room end kept ts
after n room end kept place ts (Kept x) = clause n room end (kept ++ x ∷ []) ts
after n room end kept place ts Full = Err (OverLimit place)

module _ (n room end : ℕ) (kept : Clause) (t : Token) (ts : List Token) where
  pub clause_on : (k : Step) → k ≡ step_of room kept (code_of n (number t.bytes)) → clause n room end kept (t ∷ ts) ≡ after n room end kept t.place ts k
  unfolding clause
  clause_on Wrong h = rw (← h, clause)
  clause_on Ends h = rw (← h, clause)
  clause_on Repeated h = rw (← h, clause)
  clause_on (Kept x) h = rw (← h, clause)
  clause_on Full h = rw (← h, clause)

pub clause_none : (n room end : ℕ) (kept : Clause) → clause n room end kept [] ≡ Err (BadText end)
unfolding clause
clause_none n room end kept = refl

-- a kept literal: the code of one, not in the clause so far, and within the room
pub record Fresh (room : ℕ) (kept : Clause) (x : ℕ) : Type 0 where
  pub code : 2 ≤ x
  pub new : mem x kept ≡ false
  pub within : length kept < room

pub kept_fresh : (room : ℕ) (kept : Clause) (x y : ℕ) → Kept y ≡ step_of room kept x → Fresh room kept y × (y ≡ x)
kept_fresh room kept x y e = go (eqb x 1) (eqb x 0) (mem x kept) (ltb (length kept) room) refl refl refl refl (sym e)
  where
    go : (a b m r : Bool) → eqb x 1 ≡ a → eqb x 0 ≡ b → mem x kept ≡ m → ltb (length kept) room ≡ r
        → cond a Wrong (cond b Ends (cond m Repeated (cond r (Kept x) Full))) ≡ Kept y → Fresh room kept y × (y ≡ x)
    go true b m r p q i l e = absurd (let z : ◌≡◌ {A = ℕ} 0 1 = cc in omega arith)
    go false true m r p q i l e = absurd (let z : ◌≡◌ {A = ℕ} 0 1 = cc in omega arith)
    go false false true r p q i l e = absurd (let z : ◌≡◌ {A = ℕ} 0 1 = cc in omega arith)
    go false false false true p q i l e =
        let s : x ≡ y = cc in
        (rw (← s) (record { code = omega (arith, eqb-false x 1 p, eqb-false x 0 q); new = i; within = ltb-true (length kept) room l }), sym s)
    go false false false false p q i l e = absurd (let z : ◌≡◌ {A = ℕ} 0 1 = cc in omega arith)

-- a list that grows at its count
module _ (k : List ℕ) (c x : ℕ) where
  pub grown : c < length k → take (c + 1) (set k c x) ≡ take c k ++ x ∷ []
  grown h = rw (add-one, take-suc-set)

  pub rest : (k₀ : List ℕ) → drop c k ≡ drop c k₀ → drop (c + 1) (set k c x) ≡ drop (c + 1) k₀
  rest k₀ e = drop-set-lt (c + 1) k c x (omega arith) ∙ sym (drop-drop 1 c k) ∙ ap (drop 1) e ∙ drop-drop 1 c k₀
