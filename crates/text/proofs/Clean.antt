-- A clause that is read is sound: its literals are coded, none stands twice, and there is room for them. Assumes nothing.
use mathlib.Core.Path.{◌≡◌, refl, sym, ◌∙◌, ap}
use mathlib.Core.Bool.{Bool, true, false}
use mathlib.Core.List.{List, [], ◌∷◌, ◌++◌}
use mathlib.Core.Logic.{⊎_elim}
use Prim.Native.Nat.{ℕ, ◌+◌, ◌*◌, ◌≤◌}
use native.Mathlib.Omega.{arith}
use lib.Dec.{leb}
use lib.ListN.{length, length-append}
use borrow.Author.Tests.{le-leb, leb-true}
use Rattle.rules.specs.Walk.{every}
use Rattle.rules.specs.Clause.{Clause, mem}
use Rattle.rules.proofs.Logic.{by_bool, differ, and_true, not_false}
use Rattle.rules.proofs.Members.{mem_nil, mem_cons, mem_here, mem_skip, mem_append}
use Rattle.table.specs.Limits.{Limits}
use Rattle.table.specs.Table.{distinct, coded, sound_clause}
use Rattle.words.specs.declared.Number.{Number}
use Rattle.words.specs.declared.Number.TheVariants.{Plain, Negative}
use Rattle.words.specs.Tokens.{Token}
use Rattle.words.specs.Numbers.{number}
use Rattle.text.specs.declared.Step.{Step}
use Rattle.text.specs.declared.Step.TheVariants.{Wrong, Ends, Repeated, Kept, Full}
use Rattle.text.specs.Clauses.{code_of, step_of, clause}
use Rattle.text.proofs.Codes.{clause_on, clause_none, Fresh, kept_fresh}
use Rattle.text.proofs.Results.{never, ok_same}
use Rattle.std.specs.Prelude.{Ok, Option, Some, None}

-- one more literal at the end
every_snoc : (p : ℕ → Bool) (C : Clause) (x : ℕ) → every p C ≡ true → p x ≡ true → every p (C ++ x ∷ []) ≡ true
every_snoc p [] x h e = rw e
every_snoc p (y ∷ C) x h e = let q = simp and_true at h in rw (q.0, every_snoc p C x q.1 e)

new_snoc : (C : Clause) (x y : ℕ) → mem y C ≡ false → (x ≡ y → ⊥) → mem y (C ++ x ∷ []) ≡ false
new_snoc C x y h n =
    not_false (mem y (C ++ x ∷ [])) (λ t.
    ⊎_elim (λ a. differ a h) (λ a. ⊎_elim (λ e. n (sym e)) (λ b. differ b (mem_nil y)) (mem_cons y x [] a)) (mem_append y C (x ∷ []) t))

distinct_snoc : (C : Clause) (x : ℕ) → distinct C ≡ true → mem x C ≡ false → distinct (C ++ x ∷ []) ≡ true
unfolding distinct
distinct_snoc [] x d h = rw (mem_nil x)
distinct_snoc (y ∷ C) x d h =
    let q = simp and_true at d in
    let fresh : mem y C ≡ false = not_false (mem y C) (λ t. differ q.0 (rw t)) in
    let other : x ≡ y → ⊥ = λ e. differ (rw e (mem_here y C)) h in
    let rest : mem x C ≡ false = not_false (mem x C) (λ t. differ (mem_skip x y C t) h) in
    rw (new_snoc C x y fresh other, distinct_snoc C x q.1 rest)

-- the literals of a clause so far
pub record Clean (n room : ℕ) (C : Clause) : Type 0 where
  pub within : length C ≤ room
  pub coded : every (coded n) C ≡ true
  pub distinct : distinct C ≡ true

clean_none : (n room : ℕ) → Clean n room []
unfolding distinct
clean_none n room = record { within = omega arith; coded = refl; distinct = refl }

-- no code is above that of the last variable's negation
code_most : (n : ℕ) (x : Option Number) → code_of n x ≤ 2 * n + 1
code_most n None = omega arith
code_most n (Some (Plain v)) = by_bool (leb v n) (λ t. rw t (omega (arith, leb-true v n t))) (λ f. rw f (omega arith))
code_most n (Some (Negative v)) = by_bool (leb v n) (λ t. rw t (omega (arith, leb-true v n t))) (λ f. rw f (omega arith))

clean_more : (n room : ℕ) (C : Clause) (x : ℕ) → Clean n room C → Fresh room C x → x ≤ 2 * n + 1 → Clean n room (C ++ x ∷ [])
unfolding coded
clean_more n room C x c f l = record {
  within = simp length-append (omega (arith, f.within));
  coded = every_snoc (coded n) C x c.coded (rw (le-leb 2 x f.code, le-leb x (2 * n + 1) l));
  distinct = distinct_snoc C x c.distinct f.new;
}

-- a clause that is read
module _ (n room end : ℕ) where
  abbrev Reads : Clause → List Token → Type 0
  Reads kept ts = Clean n room kept → (C : Clause) (us : List Token) → clause n room end kept ts ≡ Ok (C, us) → Clean n room C

  read_clean : (ts : List Token) (kept : Clause) → Reads kept ts
  read_clean [] kept c C us e = absurd (never _ _ _ e (clause_none n room end kept))
  read_clean (t ∷ ts) kept c C us e = step (read_clean ts) (step_of room kept x) refl
    where
      x : ℕ
      x = code_of n (number t.bytes)

      step : ((k : Clause) → Reads k ts) → (k : Step) → k ≡ step_of room kept x → Clean n room C
      step rec Wrong h = absurd (never _ _ _ e (clause_on n room end kept t ts Wrong h))
      step rec Ends h =
          let same : ◌≡◌ {A = Clause × List Token} (kept, ts) (C, us) = ok_same _ _ (sym (clause_on n room end kept t ts Ends h) ∙ e) in
          rw (ap (λ (p : Clause × List Token). p.0) same) at c
      step rec Repeated h = rec kept c C us (sym (clause_on n room end kept t ts Repeated h) ∙ e)
      step rec (Kept y) h =
          let f = kept_fresh room kept x y h in
          rec (kept ++ y ∷ []) (clean_more n room kept y c f.0 (rw f.1 (code_most n (number t.bytes)))) C us
          (sym (clause_on n room end kept t ts (Kept y) h) ∙ e)
      step rec Full h = absurd (never _ _ _ e (clause_on n room end kept t ts Full h))

  pub clause_clean : (ts us : List Token) (C : Clause) → clause n room end [] ts ≡ Ok (C, us) → Clean n room C
  clause_clean ts us C e = read_clean ts [] (clean_none n room) C us e

-- a clean clause is sound
pub clean_sound : (lim : Limits) (n room : ℕ) (C : Clause) → room ≤ lim.clause_literals → Clean n room C → sound_clause lim n C ≡ true
unfolding sound_clause
clean_sound lim n room C l c = rw (le-leb (length C) lim.clause_literals (omega (arith, c.within)), c.coded, c.distinct)
