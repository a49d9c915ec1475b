-- The walk of rebuild as it goes back over the entries, in the bytes that carry the values. Assumes nothing.
use mathlib.Core.Path.{◌≡◌, refl, sym, ◌∙◌}
use mathlib.Core.Bool.{Bool, true, false, cond}
use mathlib.Core.List.{List}
use Prim.Native.Nat.{ℕ, suc, ◌+◌, ◌-◌, ◌*◌, ◌/◌, ◌≤◌, ◌<◌}
use native.Mathlib.Omega.{arith}
use lib.ListN.{length, get_or, drop, drop_of_length-le}
use lib.Seq.{drop-cons, drop-set-lt}
use Rattle.rules.specs.Clause.{Values, holds, flip}
use Rattle.rules.specs.Blocking.{Notion, literal}
use Rattle.rules.specs.Book.{Book, Entry}
use Rattle.rules.specs.Rebuild.{mended, walk}
use Rattle.rules.proofs.Logic.{by_bool}
use Rattle.table.specs.Table.{Table, row, book_of}
use Rattle.table.specs.Stack.{entry_at, entries, lay}
use Rattle.table.specs.Values.{values_of, bytes_of}
use Rattle.table.proofs.Stacks.{length_entries, entries_at}
use Rattle.rebuild.specs.Rebuild.{rebuilt}
use Rattle.rebuild.specs.Inner.{Valued, mended_bytes}
use Rattle.rebuild.proofs.Bytes.{flipped, bytes_laid}

-- the walk, from the newest entry on
walk_step : (N : Notion) (b : Book) (v : Values) (s : List (Entry N)) (i : ℕ) (d : Entry N) → i < length s
    → walk N b v (drop i s) ≡ mended N b (walk N b v (drop (suc i) s)) (get_or s i d)
unfolding walk
walk_step N b v s i d h = rw (drop-cons s i d)

-- the entries from i on have been walked: the first n bytes carry the values, and what is behind them is as it came
pub record Walked (t : Table) (ws : List ℕ) (c : ℕ) (old : List ℕ) (i : ℕ) (vs : List ℕ) : Type 0 where
  pub behind : drop t.variables vs ≡ drop t.variables old
  pub values : values_of vs ≡ walk literal (book_of t) (values_of old) (drop i (entries ws c))

-- none yet
pub walk_starts : (t : Table) (ws : List ℕ) (c : ℕ) (vs : List ℕ) → Walked t ws c vs c vs
unfolding walk
walk_starts t ws c vs = record {
  behind = refl;
  values = rw (drop_of_length-le (entries ws c) {i = c} (omega (arith, length_entries ws c)));
}

-- one more
module _ (t : Table) (ws : List ℕ) (c : ℕ) (old : List ℕ) (i : ℕ) (vs : List ℕ) (w : Walked t ws c old i vs) (j : ℕ) (next : suc j ≡ i)
    (below : j < c) (v : Valued t.variables vs) (code : (2 ≤ get_or ws (2 * j + 1) 0) × (get_or ws (2 * j + 1) 0 ≤ 2 * t.variables + 1)) where
  step : (b : Bool) → holds (values_of vs) (row t (get_or ws (2 * j) 0)) ≡ b
      → walk literal (book_of t) (values_of old) (drop j (entries ws c)) ≡ cond b (values_of vs) (flip (values_of vs) (get_or ws (2 * j + 1) 0))
  unfolding mended
  step b h =
      walk_step literal (book_of t) (values_of old) (entries ws c) j (0, 0) (omega (arith, length_entries ws c))
      ∙ rw (next, entries_at ws c j (0, 0) below, ← w.values, h)

  pub walk_turns : {new : List ℕ} → new ≡ mended_bytes t (entry_at ws j) vs → Walked t ws c old j new
  unfolding mended_bytes
  walk_turns n =
      by_bool (holds (values_of vs) (row t (get_or ws (2 * j) 0)))
      (λ h. rw (n, h) (record { behind = w.behind; values = sym (step true h) }))
      (λ h. rw (n, h) (record {
        behind = drop-set-lt t.variables vs (get_or ws (2 * j + 1) 0 / 2 - 1) _ (omega (arith, code)) ∙ w.behind;
        values = flipped vs (get_or ws (2 * j + 1) 0) (omega (arith, code)) (omega (arith, code, v.room)) (v.bits _ (omega (arith, code)))
            ∙ sym (step false h);
      }))

-- all of them
pub walk_ends : (t : Table) (ws : List ℕ) (c : ℕ) (old vs : List ℕ) → Valued t.variables vs → Walked t ws c old 0 vs
    → vs ≡ lay (bytes_of (rebuilt t ws c old) t.variables) old
unfolding rebuilt
walk_ends t ws c old vs v w = bytes_laid vs old t.variables v.room v.bits w.behind ∙ rw w.values
