-- The lines of the live clauses, from the first one on: they rise, they are good, they name the clauses that are live, and rising lines that do are
-- these. Assumes nothing.
use mathlib.Core.Path.{◌≡◌, refl, sym, ap, ◌∙◌}
use mathlib.Core.Bool.{Bool, true, false, cond}
use mathlib.Core.List.{List, [], ◌∷◌, ◌++◌, append_assoc, append-nil}
use mathlib.Core.Logic.{⊎_elim}
use Prim.Native.Nat.{ℕ, zero, suc, ◌+◌, ◌≤◌, ◌<◌}
use native.Mathlib.Omega.{arith}
use lib.ListN.{length, length-append}
use borrow.Author.Tests.{eq-eqb, ne_eqb, leb-true, lt-ltb, le-ltb}
use Rattle.rules.specs.Clause.{mem}
use Rattle.rules.specs.Blocking.{literal}
use Rattle.rules.specs.Book.{Live, Entry}
use Rattle.rules.proofs.Logic.{by_bool, by_eq, differ, and_true, not_false}
use Rattle.rules.proofs.Members.{mem_nil, mem_here, mem_skip, mem_cons, mem_other, mem_not}
use Rattle.table.specs.Limits.{Limits}
use Rattle.table.specs.Table.{Table, row, sound_clause}
use Rattle.saved.specs.Form.{Head, Line, number_of, live_lines, removed_lines}
use Rattle.saved.specs.Reading.{literals_of}
use Rattle.saved.proofs.Places.{New}
use Rattle.saved.proofs.Named.{named, Held}
use Rattle.saved.proofs.Parts.{numbers, entries_in, Alike, Rising, rising_above}
use Rattle.saved.proofs.Lengths.{removed_count}

-- the lines of the live clauses among the c after k
unfoldable pub live_from : Table → Live → ℕ → ℕ → List Line
live_from t L k zero = []
live_from t L k (suc c) = cond (L (suc k)) ((suc k ∷ row t (suc k)) ∷ live_from t L (suc k) c) (live_from t L (suc k) c)

-- each is its number and the literals of that clause
abbrev pub LiveRows : Table → List Line → Type 0
LiveRows t [] = Unit {0}
LiveRows t (x ∷ xs) = (x ≡ number_of x ∷ row t (number_of x)) × LiveRows t xs

module _ (t : Table) (L : Live) where
  from_more : (k c : ℕ) (b : Bool) (xs ys : List Line) → (xs ++ cond b ((suc k ∷ row t (suc k)) ∷ []) []) ++ ys ≡ xs ++ cond b ((suc k ∷ row t (suc k)) ∷ ys) ys
  from_more k c true xs ys = append_assoc xs ((suc k ∷ row t (suc k)) ∷ []) ys
  from_more k c false xs ys = append_assoc xs [] ys

  live_then : (k c : ℕ) → live_lines t L (k + c) ≡ live_lines t L k ++ live_from t L k c
  unfolding live_from live_lines
  live_then k zero = let e : k + 0 ≡ k = omega arith in rw e (sym (append-nil (live_lines t L k)))
  live_then k (suc c) =
      let e : k + suc c ≡ suc k + c = omega arith in
      rw e (live_then (suc k) c ∙ from_more k c (L (suc k)) (live_lines t L k) (live_from t L (suc k) c))

  pub live_from_lem : (m : ℕ) → live_lines t L m ≡ live_from t L 0 m
  unfolding live_lines
  live_from_lem m = let e : 0 + m ≡ m = omega arith in rw e at (live_then 0 m)

  -- they rise
  rising_less : (a b : ℕ) (ls : List Line) → a ≤ b → Rising b ls → Rising a ls
  rising_less a b [] l h = tt
  rising_less a b (x ∷ ls) l h = let u = h.0 in (omega arith, h.1)

  pub from_rising : (k c : ℕ) → Rising k (live_from t L k c)
  unfolding live_from
  from_rising k zero = tt
  from_rising k (suc c) = by (L (suc k)) (from_rising (suc k) c)
    where
      by : (b : Bool) → Rising (suc k) (live_from t L (suc k) c) → Rising k (cond b ((suc k ∷ row t (suc k)) ∷ live_from t L (suc k) c) (live_from t L (suc k) c))
      by true i = (omega arith, i)
      by false i = rising_less k (suc k) (live_from t L (suc k) c) (omega arith) i

  -- they name live clauses
  pub from_live : (k c j : ℕ) → mem j (numbers (live_from t L k c)) ≡ true → L j ≡ true
  unfolding live_from numbers
  from_live k zero j h = differ h (mem_nil j)
  from_live k (suc c) j h = by (L (suc k)) refl (from_live (suc k) c j) h
    where
      by : (b : Bool) → L (suc k) ≡ b → (mem j (numbers (live_from t L (suc k) c)) ≡ true → L j ≡ true)
          → mem j (numbers (cond b ((suc k ∷ row t (suc k)) ∷ live_from t L (suc k) c) (live_from t L (suc k) c))) ≡ true → L j ≡ true
      by true e i h = ⊎_elim (λ p. rw p e) i (mem_cons j (suc k) (numbers (live_from t L (suc k) c)) h)
      by false e i h = i h

  -- they are good
  pub from_good : (lim : Limits) (h : Head) (k c : ℕ) → ((j : ℕ) → 1 ≤ j → j ≤ h.clauses → sound_clause lim h.variables (row t j) ≡ true) → k + c ≤ h.clauses
      → Alike lim h 1 (live_from t L k c)
  unfolding live_from sound_clause
  from_good lim h k zero s u = tt
  from_good lim h k (suc c) s u = by (L (suc k)) (from_good lim h (suc k) c s (omega arith))
    where
      by : (b : Bool) → Alike lim h 1 (live_from t L (suc k) c) → Alike lim h 1 (cond b ((suc k ∷ row t (suc k)) ∷ live_from t L (suc k) c) (live_from t L (suc k) c))
      by true i =
          let q = simp and_true at (s (suc k) (omega arith) (omega arith)) in
          let l : length (row t (suc k)) ≤ lim.clause_literals = leb-true _ _ q.0.0 in (
            record {
              long = omega arith;
              short = omega arith;
              low = omega arith;
              high = omega arith;
              codes = q.0.1;
              once = q.1;
              blocking = refl;
            },
            i,
          )
      by false i = i

  -- rising lines of the clauses that are live are these
  pub from_same : (k c : ℕ) (ls : List Line) → Rising k ls → ((j : ℕ) → k < j → j ≤ k + c → L j ≡ mem j (numbers ls))
      → ((j : ℕ) → mem j (numbers ls) ≡ true → j ≤ k + c) → LiveRows t ls → live_from t L k c ≡ ls
  unfolding live_from numbers
  from_same k zero [] r l u w = refl
  from_same k zero (x ∷ ls) r l u w = let a = r.0 in let b = u (number_of x) (mem_here (number_of x) (numbers ls)) in absurd (omega arith)
  from_same k (suc c) [] r l u w =
      let e : L (suc k) ≡ false = l (suc k) (omega arith) (omega arith) ∙ mem_nil (suc k) in
      rw e (from_same (suc k) c [] tt (λ j a b. l j (omega arith) (omega arith)) (λ j m. differ m (mem_nil j)) tt)
  from_same k (suc c) (x ∷ ls) r l u w =
      by_eq (number_of x) (suc k)
      (λ e.
      let y : L (suc k) ≡ true = l (suc k) (omega arith) (omega arith) ∙ rw e (mem_here (suc k) (numbers ls)) in
      let v : x ≡ suc k ∷ row t (suc k) = rw e at w.0 in
      let i =
      from_same (suc k) c ls (rw e at r.1)
      (λ j a b. l j (omega arith) (omega arith) ∙ mem_other j (number_of x) (numbers ls) (λ p. absurd (omega arith)))
      (λ j m. let z = u j (mem_skip j (number_of x) (numbers ls) m) in omega arith) w.1 in
      rw (y, i) (ap (λ (z : Line). z ∷ ls) (sym v)))
      (λ e.
      let a = r.0 in
      let n : L (suc k) ≡ false =
      l (suc k) (omega arith) (omega arith)
      ∙ mem_other (suc k) (number_of x) (numbers ls) (λ p. e (sym p))
      ∙ not_false _ (λ m. let b = rising_above (number_of x) ls (suc k) r.1 m in omega arith) in
      rw n (from_same (suc k) c (x ∷ ls) (omega arith, r.1) (λ j a b. l j (omega arith) (omega arith)) (λ j m. let z = u j m in omega arith) w))

-- the lines of the removed clauses
module _ (t : Table) where
  pub removed_named : (s : List (Entry literal)) → numbers (removed_lines t s) ≡ named s
  unfolding numbers named removed_lines
  removed_named [] = refl
  removed_named (e ∷ s) = rw (removed_named s)

  pub removed_entries : (s : List (Entry literal)) → entries_in (removed_lines t s) ≡ s
  unfolding entries_in removed_lines
  removed_entries [] = refl
  removed_entries (e ∷ s) = ap (λ (z : List (Entry literal)). e ∷ z) (removed_entries s)

  pub removed_good : (lim : Limits) (h : Head) (s : List (Entry literal)) → ((j : ℕ) → 1 ≤ j → j ≤ h.clauses → sound_clause lim h.variables (row t j) ≡ true)
      → New h.clauses (named s) → Held t s → Alike lim h 2 (removed_lines t s)
  unfolding removed_lines sound_clause named
  removed_good lim h [] d n m = tt
  removed_good lim h (e ∷ s) d n m =
      let q = simp and_true at (d e.0 n.1 n.2) in
      let l : length (row t e.0) ≤ lim.clause_literals = leb-true _ _ q.0.0 in (
        record {
          long = omega arith;
          short = omega arith;
          low = n.1;
          high = n.2;
          codes = q.0.1;
          once = q.1;
          blocking = m.0;
        },
        removed_good lim h s d n.3 m.1,
      )

-- the literals of a clause, wherever its line stands
module _ (r : ℕ) where
  pub pick_skip : (ls gs : List Line) (j : ℕ) → mem j (numbers ls) ≡ false → literals_of r (ls ++ gs) j ≡ literals_of r gs j
  unfolding literals_of numbers
  pick_skip [] gs j h = refl
  pick_skip (x ∷ ls) gs j h =
      let q = mem_not j (number_of x) (numbers ls) h in
      rw (ne_eqb (number_of x) j (λ e. q.0 (sym e))) (pick_skip ls gs j q.1)

  pub pick_live : (t : Table) (L : Live) (gs : List Line) (k c j : ℕ) → length gs ≡ r → L j ≡ true → k < j → j ≤ k + c
      → literals_of r (live_from t L k c ++ gs) j ≡ row t j
  unfolding literals_of live_from
  pick_live t L gs k zero j n y a b = absurd (omega arith)
  pick_live t L gs k (suc c) j n y a b =
      by_eq (suc k) j
      (λ e.
      let z : L (suc k) ≡ true = rw e y in
      let q = length-append (live_from t L (suc k) c) gs in
      rw (z, eq-eqb (suc k) j e, le-ltb (length (live_from t L (suc k) c ++ gs)) r (omega arith)) (ap (row t) e))
      (λ e.
      let i = pick_live t L gs (suc k) c j n y (omega arith) (omega arith) in
      by_bool (L (suc k)) (λ z. rw (z, ne_eqb (suc k) j e) i) (λ z. rw z i))

  pub pick_gone : (t : Table) (s : List (Entry literal)) (j : ℕ) → length s ≤ r → mem j (named s) ≡ true → literals_of r (removed_lines t s) j ≡ row t j
  unfolding literals_of removed_lines named
  pick_gone t [] j l h = differ h (mem_nil j)
  pick_gone t (e ∷ s) j l h =
      let n = removed_count t s in
      by_eq e.0 j
      (λ p. rw (eq-eqb e.0 j p, lt-ltb (length (removed_lines t s)) r (omega arith)) (ap (row t) p))
      (λ p. rw (ne_eqb e.0 j p) (pick_gone t s j (omega arith) (sym (mem_other j e.0 (named s) (λ q. p (sym q))) ∙ h)))
