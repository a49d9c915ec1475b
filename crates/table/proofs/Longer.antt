-- More cells behind the literals and the offsets of a table change no clause of it. Assumes nothing.
use mathlib.Core.Path.{◌≡◌}
use mathlib.Core.Bool.{true}
use mathlib.Core.List.{List, ◌++◌}
use Prim.Native.Nat.{ℕ, ◌+◌, ◌-◌, ◌≤◌, ◌<◌}
use native.Mathlib.Omega.{arith}
use lib.ListN.{length, drop, length-append, length-drop, get_or-append}
use lib.Seq.{take-append-le, drop-append-le}
use borrow.Author.Tests.{leb-true, le-leb, eqb-true, eq-eqb}
use Rattle.rules.specs.Walk.{every_to}
use Rattle.rules.proofs.Logic.{and_true}
use Rattle.rules.proofs.Walks.{every_to_at, every_to_all}
use Rattle.table.specs.Limits.{Limits}
use Rattle.table.specs.Table.{Table, table, offset, row, rises, sound_row, sound}
use Rattle.table.specs.Inner.{Shape}
use Rattle.table.proofs.Soundness.{shape_of}

-- the table with more cells behind, and m clauses
module _ (t : Table) (lits offs : List ℕ) (m : ℕ) where
  abbrev pub longer : Table
  longer = table t.variables m (t.lits ++ lits) (t.offs ++ offs)

  pub offset_longer : (k : ℕ) → k < length t.offs → offset longer k ≡ offset t k
  unfolding offset
  offset_longer k h = get_or-append t.offs offs 0 k h

  pub row_longer : (k : ℕ) → Shape t → 1 ≤ k → k ≤ t.clauses → row longer k ≡ row t k
  unfolding row
  row_longer k s l u =
      let e : offset longer k ≡ offset t k = offset_longer k (omega (arith, s.there)) in
      let f : offset longer (k - 1) ≡ offset t (k - 1) = offset_longer (k - 1) (omega (arith, s.there)) in
      let a : offset t (k - 1) ≤ length t.lits = s.inside (k - 1) (omega arith) in
      let b : offset t k ≤ length t.lits = s.inside k u in
      let c : offset t k - offset t (k - 1) ≤ length (drop (offset t (k - 1)) t.lits) = simp length-drop (omega arith) in
      rw (e, f, drop-append-le (offset t (k - 1)) t.lits lits a, take-append-le (offset t k - offset t (k - 1)) (drop (offset t (k - 1)) t.lits) lits c)

-- a sound table stays sound
pub longer_sound : (lim : Limits) (t : Table) (lits offs : List ℕ) → sound lim t ≡ true → sound lim (longer t lits offs t.clauses) ≡ true
unfolding sound rises sound_row
longer_sound lim t lits offs h =
    let q = simp and_true at h in
    let m = t.clauses in
    let s : Table = longer t lits offs m in
    let many : m + 1 ≤ length t.offs = leb-true _ _ q.0.0.0.0.0.1 in
    let total : offset t m ≤ lim.literals = leb-true _ _ q.0.0.1 in
    let end : offset t m ≤ length t.lits = leb-true _ _ q.0.1 in
    let shape : Shape t = shape_of t (omega arith) q.0.0.0.1 end in
    let same : (k : ℕ) → k ≤ m → offset s k ≡ offset t k = λ k u. offset_longer t lits offs m k (omega arith) in
    let there : m + 1 ≤ length (t.offs ++ offs) = simp length-append (omega arith) in
    let first : offset s 0 ≡ 0 = rw (same 0 (omega arith)) (eqb-true _ 0 q.0.0.0.0.1) in
    let all : offset s m ≤ lim.literals = rw (same m (omega arith)) total in
    let inside : offset s m ≤ length (t.lits ++ lits) = rw (same m (omega arith)) (simp length-append (omega arith)) in
    let rising : every_to (rises s) m ≡ true =
    every_to_all (rises s) m (λ k l u. rw (same (k - 1) (omega arith), same k u) (every_to_at (rises t) m k q.0.0.0.1 l u)) in
    let rows : every_to (sound_row lim s) m ≡ true =
    every_to_all (sound_row lim s) m (λ k l u. rw (row_longer t lits offs m k shape l u) (every_to_at (sound_row lim t) m k q.1 l u)) in
    simp and_true (((((((q.0.0.0.0.0.0.0, q.0.0.0.0.0.0.1), le-leb _ _ there), eq-eqb _ _ first), rising), le-leb _ _ all), le-leb _ _ inside), rows)
