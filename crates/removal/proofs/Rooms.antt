-- An open stack has room for one entry more while a clause is live. Assumes nothing.
use mathlib.Core.Path.{◌≡◌, sym, ◌∙◌}
use mathlib.Core.Bool.{Bool, true}
use mathlib.Core.List.{List, [], ◌∷◌}
use Prim.Native.Nat.{ℕ, ◌+◌, ◌*◌, ◌≤◌, ◌<◌}
use native.Mathlib.Omega.{arith}
use lib.ListN.{length}
use Rattle.rules.specs.Blocking.{literal}
use Rattle.rules.specs.Book.{Live, Entry, one_to, less, after, fault}
use Rattle.rules.proofs.Laws.{Within, all_within, less_in}
use Rattle.rules.proofs.Sweeps.{tally, tally_le, tally_less}
use Rattle.rules.proofs.Faults.{fault_head}
use Rattle.table.specs.Table.{Table, book_of}
use Rattle.table.specs.Stack.{entries}
use Rattle.table.proofs.Soundness.{sound_of}
use Rattle.table.proofs.Stacks.{length_entries}
use Rattle.index.specs.Index.{live_of}
use Rattle.stack.specs.Tests.{entry_names, bad_entry, live_after}
use Rattle.stack.specs.Inner.{Passed, Open}
use Rattle.stack.proofs.Entries.{names_both, Named, named}
use Rattle.stack.proofs.Refusals.{open_within}

-- as many clauses are gone as there are entries
named_tally : (t : Table) (L : Live) (s : List (Entry literal)) → Within (book_of t) L → fault literal (entry_names t) L s ≡ 0
    → tally L t.clauses ≡ length s + tally (after literal L s) t.clauses
unfolding after
named_tally t L [] wi h = omega arith
named_tally t L (e ∷ s) wi h =
    let q = fault_head literal (entry_names t) L e s h in
    let a = (names_both t L e.0 e.1 q.0).0 in
    let i = wi e.0 a in
    omega (arith, tally_less L e.0 t.clauses i.0 i.1 a, named_tally t (less L e.0) s (λ k a. wi k (less_in L e.0 k a)) q.1)

-- so the count is below m while clause k is live
room_left : (t : Table) (ws : List ℕ) (c k : ℕ) → Passed t ws c → 1 ≤ k → k ≤ t.clauses → live_after t ws c k ≡ true → c < t.clauses
room_left t ws c k p low high h =
    omega (arith, whole, tally_less (live_after t ws c) k t.clauses low high h, tally_le (one_to t.clauses) t.clauses, length_entries ws c)
  where
    whole : tally (one_to t.clauses) t.clauses ≡ length (entries ws c) + tally (live_after t ws c) t.clauses
    whole = unfold live_after bad_entry in named_tally t (one_to t.clauses) (entries ws c) (all_within (book_of t)) p.none_bad

-- an entry that can be pushed: it names a live clause and a literal of it, and there is room
pub record Pushable (t : Table) (ws : List ℕ) (c k l : ℕ) : Type 0 where
  pub names : entry_names t (live_after t ws c) (k, l) ≡ true
  pub named : Named t k l
  pub space : 2 * c + 1 < length ws
  pub few : c < 4000

module _ {t : Table} {ws : List ℕ} {c : ℕ} {marks : List Bool} (o : Open t ws c marks) where
  pub pushable : {r : Bool} (k l : ℕ) → r ≡ entry_names t (live_of marks) (k, l) → r ≡ true → Pushable t ws c k l
  pushable k l e h =
      let names : entry_names t (live_after t ws c) (k, l) ≡ true = rw o.live at (sym e ∙ h) in
      let n = named t o.passed.table_sound (live_of marks) (open_within o) k l (sym e ∙ h) in
      let left = room_left t ws c k o.passed n.low n.high (names_both t (live_after t ws c) k l names).0 in
      record {
        names = names;
        named = n;
        space = omega (arith, o.passed.room);
        few = omega (arith, (sound_of t o.passed.table_sound).clauses);
      }
