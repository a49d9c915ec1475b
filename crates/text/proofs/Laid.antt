-- The literals and offsets that the clauses lay down are those of a sound table. Assumes nothing.
use mathlib.Core.Path.{◌≡◌, refl, ◌∙◌}
use mathlib.Core.Bool.{true}
use mathlib.Core.List.{List, [], ◌∷◌, ◌++◌}
use Prim.Native.Nat.{ℕ, zero, suc, ◌+◌, ◌-◌, ◌≤◌, min}
use native.Mathlib.Omega.{arith}
use lib.ListN.{length, length-append}
use lib.Seq.{drop_at, take_all, get_or_at}
use borrow.Author.Tests.{le-leb, eq-eqb}
use Rattle.rules.specs.Walk.{every_to}
use Rattle.rules.specs.Clause.{Clause}
use Rattle.rules.proofs.Logic.{by_eq, and_true}
use Rattle.rules.proofs.Walks.{every_to_all}
use Rattle.table.specs.Limits.{Limits}
use Rattle.table.specs.Table.{Table, table, offset, row, sound_clause, rises, sound_row, sound}
use Rattle.table.specs.Inner.{Shape}
use Rattle.table.proofs.Longer.{longer, offset_longer, row_longer}
use Rattle.words.specs.Tokens.{Token}
use Rattle.text.specs.Clauses.{clause, clauses}
use Rattle.text.proofs.Results.{never, ok_same, both}
use Rattle.text.proofs.Clean.{Clean, clause_clean, clean_sound}
use Rattle.std.specs.Prelude.{Ok}

-- a table that is filled exactly
pub record Laid (lim : Limits) (t : Table) : Type 0 where
  pub many : length t.offs ≡ suc t.clauses
  pub first : offset t 0 ≡ 0
  pub last : offset t t.clauses ≡ length t.lits
  pub total : length t.lits ≤ lim.literals
  pub shape : Shape t
  pub clean : (k : ℕ) → 1 ≤ k → k ≤ t.clauses → sound_clause lim t.variables (row t k) ≡ true

rises_up : (t : Table) (k : ℕ) → offset t (k - 1) ≤ offset t k → rises t k ≡ true
unfolding rises
rises_up t k h = le-leb _ _ h

row_sound : (lim : Limits) (t : Table) (k : ℕ) → sound_clause lim t.variables (row t k) ≡ true → sound_row lim t k ≡ true
unfolding sound_row
row_sound lim t k h = h

pub laid_sound : (lim : Limits) (t : Table) → t.variables ≤ lim.variables → t.clauses ≤ lim.clauses → Laid lim t → sound lim t ≡ true
unfolding sound
laid_sound lim t v c h =
    let m = t.clauses in
    let many : m + 1 ≤ length t.offs = omega (arith, h.many) in
    let total : offset t m ≤ lim.literals = rw h.last h.total in
    let end : offset t m ≤ length t.lits = h.shape.inside m (omega arith) in
    let rising : every_to (rises t) m ≡ true = every_to_all (rises t) m (λ k l u. rises_up t k (h.shape.rising k l u)) in
    let rows : every_to (sound_row lim t) m ≡ true = every_to_all (sound_row lim t) m (λ k l u. row_sound lim t k (h.clean k l u)) in
    simp and_true (((((((le-leb _ _ v, le-leb _ _ c), le-leb _ _ many), eq-eqb _ _ h.first), rising), le-leb _ _ total), le-leb _ _ end), rows)

-- one more clause
module _ (lim : Limits) (t : Table) (C : Clause) where
  abbrev more : Table
  more = longer t C (length (t.lits ++ C) ∷ []) (suc t.clauses)

  before : Laid lim t → (k : ℕ) → k ≤ t.clauses → offset more k ≡ offset t k
  before h k u = offset_longer t C (length (t.lits ++ C) ∷ []) (suc t.clauses) k (omega (arith, h.many))

  new : Laid lim t → offset more (suc t.clauses) ≡ length (t.lits ++ C)
  unfolding offset
  new h = get_or_at t.offs (length (t.lits ++ C)) [] 0 (suc t.clauses) h.many

  new_row : Laid lim t → row more (suc t.clauses) ≡ C
  unfolding row
  new_row h =
      let one : suc t.clauses - 1 ≡ t.clauses = omega arith in
      let a : offset more (suc t.clauses - 1) ≡ length t.lits = rw one (before h t.clauses (omega arith) ∙ h.last) in
      let l : length (t.lits ++ C) ≡ length t.lits + length C = length-append t.lits C in
      rw (new h, a, drop_at t.lits C (length t.lits) refl) (take_all (length (t.lits ++ C) - length t.lits) C (omega arith))

  grown : (room : ℕ) → Laid lim t → room ≡ min lim.clause_literals (lim.literals - length t.lits) → Clean t.variables room C → Laid lim more
  grown room h r c =
      let m = t.clauses in
      let one : suc m - 1 ≡ m = omega arith in
      let l : length (t.lits ++ C) ≡ length t.lits + length C = length-append t.lits C in
      record {
        many = simp length-append (omega (arith, h.many));
        first = before h 0 (omega arith) ∙ h.first;
        last = new h;
        total = omega (arith, h.total, c.within);
        shape = record {
          there = simp length-append (omega (arith, h.many));
          rising = λ k low high. by_eq k (suc m)
              (λ e. rw (e, one, before h m (omega arith), h.last, new h) (omega arith))
              (λ e. rw (before h (k - 1) (omega arith), before h k (omega arith)) (h.shape.rising k low (omega arith)));
          inside = λ k high. by_eq k (suc m)
              (λ e. rw (e, new h) (omega arith))
              (λ e. rw (before h k (omega arith)) (omega (arith, h.shape.inside k (omega arith))));
        };
        clean = λ k low high. by_eq k (suc m)
            (λ e. rw (e, new_row h) (clean_sound lim t.variables room C (omega arith) c))
            (λ e. rw (row_longer t C (length (t.lits ++ C) ∷ []) (suc m) k h.shape low (omega arith)) (h.clean k low (omega arith)));
      }

-- the clauses, read behind a table that is filled exactly
module _ (lim : Limits) (n end : ℕ) where
  pub clauses_laid : (c k m : ℕ) (ts : List Token) (lits offs : List ℕ) (b : List ℕ × List ℕ) → k + c ≡ m → Laid lim (table n k lits offs)
      → clauses lim n end lits offs c ts ≡ Ok b → Laid lim (table n m b.0 b.1)
  unfolding clauses
  clauses_laid zero k m [] lits offs b q h e =
      let s : ◌≡◌ {A = List ℕ × List ℕ} (lits, offs) b = ok_same _ _ e in
      let p : k ≡ m = omega arith in
      rw (← s, ← p) h
  clauses_laid zero k m (t ∷ ts) lits offs b q h e = absurd (never _ b _ e refl)
  clauses_laid (suc c) k m ts lits offs b q h e =
      let r = both (clause n (min lim.clause_literals (lim.literals - length lits)) end [] ts) (λ r. clauses lim n end (lits ++ r.0) (offs ++ length (lits ++ r.0) ∷ []) c r.1) b e in
      clauses_laid c (suc k) m r.0.1 (lits ++ r.0.0) (offs ++ length (lits ++ r.0.0) ∷ []) b (omega arith)
      (grown lim (table n k lits offs) r.0.0 _ h refl (clause_clean n _ end ts r.0.1 r.0.0 r.1)) r.2
