-- Clauses packed one behind the other into a table: its offsets, its rows, and that it is sound where they are. Assumes nothing.
use mathlib.Core.Path.{◌≡◌, refl, sym, ap, ◌∙◌}
use mathlib.Core.Bool.{true}
use mathlib.Core.List.{List, [], ◌++◌, append_assoc, append-nil}
use Prim.Native.Nat.{ℕ, zero, suc, ◌+◌, ◌-◌, ◌≤◌, ◌<◌}
use native.Mathlib.Omega.{arith}
use native.Mathlib.Numerals.{add-one}
use lib.ListN.{length, get_or, take, drop, length-append}
use lib.Seq.{take_at, drop_at, take-add, ext_get_or, get_or-take, length-take-le}
use borrow.Author.Tests.{eq-eqb, le-leb}
use Rattle.rules.specs.Walk.{upto}
use Rattle.rules.specs.Clause.{Clause}
use Rattle.rules.proofs.Logic.{by_eq}
use Rattle.rules.proofs.Walks.{every_to_all, length_upto, get_d_upto}
use Rattle.table.specs.Limits.{Limits}
use Rattle.table.specs.Table.{Table, table, offset, row, sound_clause, rises, sound_row, sound}
use Rattle.table.specs.Inner.{Shape}
use Rattle.table.proofs.Soundness.{climb}
use Rattle.saved.specs.Reading.{all_literals, all_offsets}
use Rattle.saved.proofs.Places.{sum_to}

row_next : (t : Table) (k : ℕ) → row t (suc k) ≡ take (offset t (suc k) - offset t k) (drop (offset t k) t.lits)
unfolding row
row_next t k = let e : suc k - 1 ≡ k = omega arith in rw e

-- the clauses f 1 to f m, packed
abbrev pub packed : ℕ → ℕ → (ℕ → Clause) → Table
packed n m f = table n m (all_literals f m) (all_offsets f m)

module _ (f : ℕ → Clause) where
  pub packed_length : (m : ℕ) → length (all_literals f m) ≡ sum_to (λ k. length (f k)) m
  unfolding all_literals sum_to
  packed_length zero = refl
  packed_length (suc m) = length-append (all_literals f m) (f (suc m)) ∙ omega (arith, packed_length m)

  -- one offset more than clauses
  pub length_offsets : (m : ℕ) → length (all_offsets f m) ≡ m + 1
  unfolding all_offsets
  length_offsets m = length_upto (λ (j : ℕ). length (all_literals f j)) (suc m) ∙ omega arith

  packed_front : (m k : ℕ) → k ≤ m → (rest : List ℕ) × (all_literals f m ≡ all_literals f k ++ rest)
  unfolding all_literals
  packed_front zero k u = let e : k ≡ 0 = omega arith in ([], rw e)
  packed_front (suc m) k u =
      by_eq k (suc m) (λ e. ([], rw e (sym (append-nil (all_literals f m ++ f (suc m))))))
      (λ e. let i = packed_front m k (omega arith) in (i.0 ++ f (suc m), rw i.1 (append_assoc (all_literals f k) i.0 (f (suc m)))))

  module _ (n m : ℕ) where
    pub packed_offset : (k : ℕ) → k ≤ m → offset (packed n m f) k ≡ length (all_literals f k)
    unfolding offset all_offsets
    packed_offset k u = get_d_upto (λ (j : ℕ). length (all_literals f j)) (suc m) k 0 (omega arith)

    pub packed_row : (k : ℕ) → 1 ≤ k → k ≤ m → row (packed n m f) k ≡ f k
    packed_row zero l u = absurd (omega arith)
    packed_row (suc k) l u =
        let p = packed_front m (suc k) u in
        let a : length (all_literals f (suc k)) ≡ length (all_literals f k) + length (f (suc k)) = unfold all_literals in length-append (all_literals f k) (f (suc k)) in
        let z : offset (packed n m f) (suc k) - offset (packed n m f) k ≡ length (f (suc k)) = omega (arith, packed_offset (suc k) u, packed_offset k (omega arith)) in
        let q : all_literals f m ≡ all_literals f k ++ (f (suc k) ++ p.0) = p.1 ∙ unfold all_literals in append_assoc (all_literals f k) (f (suc k)) p.0 in
        let d : drop (length (all_literals f k)) (all_literals f m) ≡ f (suc k) ++ p.0 = rw q (drop_at (all_literals f k) (f (suc k) ++ p.0) (length (all_literals f k)) refl) in
        rw (row_next (packed n m f) k, z, packed_offset k (omega arith), d) (take_at (f (suc k)) p.0 (length (f (suc k))) refl)

    packed_rises : (k : ℕ) → 1 ≤ k → k ≤ m → rises (packed n m f) k ≡ true
    unfolding rises
    packed_rises zero l u = absurd (omega arith)
    packed_rises (suc k) l u =
        let e : suc k - 1 ≡ k = omega arith in
        let a : length (all_literals f (suc k)) ≡ length (all_literals f k) + length (f (suc k)) = unfold all_literals in length-append (all_literals f k) (f (suc k)) in
        rw e (le-leb (offset (packed n m f) k) (offset (packed n m f) (suc k)) (omega (arith, packed_offset (suc k) u, packed_offset k (omega arith))))

    pub packed_sound : (lim : Limits) → n ≤ lim.variables → m ≤ lim.clauses → sum_to (λ k. length (f k)) m ≤ lim.literals
        → ((k : ℕ) → sound_clause lim n (f k) ≡ true) → sound lim (packed n m f) ≡ true
    unfolding sound sound_row
    packed_sound lim v c t s =
        let z : offset (packed n m f) 0 ≡ 0 = packed_offset 0 (omega arith) ∙ unfold all_literals in refl in
        let o = packed_offset m (omega arith) in
        let p = packed_length m in
        let q = length_offsets m in
        rw (
          le-leb n lim.variables v,
          le-leb m lim.clauses c,
          le-leb (m + 1) (length (all_offsets f m)) (omega arith),
          eq-eqb (offset (packed n m f) 0) 0 z,
          every_to_all (rises (packed n m f)) m packed_rises,
          le-leb (offset (packed n m f) m) lim.literals (omega arith),
          le-leb (offset (packed n m f) m) (length (all_literals f m)) (omega arith),
        )
        (every_to_all _ m (λ k l u. rw (packed_row k l u) (s k)))

-- the rows of a table, packed again, are the front of it
module _ (t : Table) (shape : Shape t) (first : offset t 0 ≡ 0) (f : ℕ → Clause) (same : (k : ℕ) → 1 ≤ k → k ≤ t.clauses → f k ≡ row t k) where
  pub literals_again : (m : ℕ) → m ≤ t.clauses → all_literals f m ≡ take (offset t m) t.lits
  unfolding all_literals
  literals_again zero u = rw first
  literals_again (suc m) u =
      let g = climb t shape m (suc m) (omega arith) u in
      let a : f (suc m) ≡ take (offset t (suc m) - offset t m) (drop (offset t m) t.lits) = same (suc m) (omega arith) u ∙ row_next t m in
      let q : offset t (suc m) ≡ offset t m + (offset t (suc m) - offset t m) = omega arith in
      let b : take (offset t (suc m)) t.lits ≡ take (offset t m) t.lits ++ take (offset t (suc m) - offset t m) (drop (offset t m) t.lits) =
      ap (λ (k : ℕ). take k t.lits) q ∙ take-add (offset t m) (offset t (suc m) - offset t m) t.lits in
      rw (literals_again m (omega arith), a) (sym b)

  offset_again : (i : ℕ) → i < t.clauses + 1 → offset t i ≡ get_or (take (t.clauses + 1) t.offs) i 0
  unfolding offset
  offset_again i u = sym (get_or-take (t.clauses + 1) t.offs i 0 u)

  pub offsets_again : all_offsets f t.clauses ≡ take (t.clauses + 1) t.offs
  unfolding all_offsets
  offsets_again =
      let m = t.clauses in
      let n : length (upto (λ (j : ℕ). length (all_literals f j)) (suc m)) ≡ suc m = length_upto (λ (j : ℕ). length (all_literals f j)) (suc m) in
      let there = shape.there in
      ext_get_or 0 (upto (λ (j : ℕ). length (all_literals f j)) (suc m)) (take (m + 1) t.offs) (n ∙ sym (length-take-le (m + 1) t.offs (omega arith) ∙ add-one m))
      (λ i u.
      let l = shape.inside i (omega arith) in
      get_d_upto (λ (j : ℕ). length (all_literals f j)) (suc m) i 0 (omega arith)
      ∙ ap length (literals_again i (omega arith))
      ∙ length-take-le (offset t i) t.lits l
      ∙ offset_again i (omega arith))
