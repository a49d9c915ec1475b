-- The clauses that a stack names: no bad entry means new numbers from 1 to m, each with a literal of its clause, and what is live afterwards is the rest.
-- Assumes nothing.
use mathlib.Core.Path.{◌≡◌, refl, sym, ap, ◌∙◌}
use mathlib.Core.Bool.{Bool, true, false, not, ◌&&◌, ◌||◌}
use mathlib.Core.List.{List, [], ◌∷◌}
use Prim.Native.Nat.{ℕ, suc, ◌≤◌}
use lib.Dec.{eqb}
use lib.ListN.{length}
use borrow.Author.Tests.{le-leb}
use Rattle.rules.specs.Clause.{mem}
use Rattle.rules.specs.Blocking.{literal}
use Rattle.rules.specs.Book.{Live, Entry, one_to, all, less, after, fault}
use Rattle.rules.proofs.Logic.{by_bool, by_eq, differ, and_true, not_false}
use Rattle.rules.proofs.Laws.{less_in, less_not, less_keeps, all_within}
use Rattle.rules.proofs.Faults.{fault_head}
use Rattle.rules.proofs.Members.{mem_nil, mem_here, mem_skip, mem_other}
use Rattle.table.specs.Table.{Table, row, book_of}
use Rattle.stack.specs.Tests.{entry_names}
use Rattle.saved.proofs.Places.{New, new_within}

-- the clause numbers of the entries
unfoldable pub named : List (Entry literal) → List ℕ
named [] = []
named (e ∷ s) = e.0 ∷ named s

pub length_named : (s : List (Entry literal)) → length (named s) ≡ length s
unfolding named
length_named [] = refl
length_named (e ∷ s) = ap suc (length_named s)

-- each entry's literal is in its clause
abbrev pub Held : Table → List (Entry literal) → Type 0
Held t [] = Unit {0}
Held t (e ∷ s) = (mem e.1 (row t e.0) ≡ true) × Held t s

module _ (t : Table) where
  named_live : (L : Live) (s : List (Entry literal)) → fault literal (entry_names t) L s ≡ 0 → (k : ℕ) → mem k (named s) ≡ true → L k ≡ true
  unfolding named entry_names
  named_live L [] h k m = differ m (mem_nil k)
  named_live L (e ∷ s) h k m =
      let q = fault_head literal (entry_names t) L e s h in
      by_eq k e.0 (λ p. rw p (simp and_true at q.0).0)
      (λ p. less_in L e.0 k (named_live (less L e.0) s q.1 k (sym (mem_other k e.0 (named s) p) ∙ m)))

  named_new : (m : ℕ) (L : Live) (s : List (Entry literal)) → ((k : ℕ) → L k ≡ true → (1 ≤ k) × (k ≤ m)) → fault literal (entry_names t) L s ≡ 0 → New m (named s)
  unfolding named entry_names
  named_new m L [] w h = tt
  named_new m L (e ∷ s) w h =
      let q = fault_head literal (entry_names t) L e s h in
      let v = w e.0 (simp and_true at q.0).0 in (
        not_false _ (λ y. less_not L e.0 e.0 (named_live (less L e.0) s q.1 e.0 y) refl),
        v.0,
        v.1,
        named_new m (less L e.0) s (λ k y. w k (less_in L e.0 k y)) q.1,
      )

  pub held : (L : Live) (s : List (Entry literal)) → fault literal (entry_names t) L s ≡ 0 → Held t s
  unfolding entry_names
  held L [] h = tt
  held L (e ∷ s) h = let q = fault_head literal (entry_names t) L e s h in ((simp and_true at q.0).1, held (less L e.0) s q.1)

  pub names_new : (s : List (Entry literal)) → fault literal (entry_names t) (all (book_of t)) s ≡ 0 → New t.clauses (named s)
  names_new s h = named_new t.clauses (all (book_of t)) s (all_within (book_of t)) h

  -- and back
  no_fault : (m : ℕ) (L : Live) (s : List (Entry literal)) → ((k : ℕ) → mem k (named s) ≡ true → L k ≡ true) → New m (named s) → Held t s
      → fault literal (entry_names t) L s ≡ 0
  unfolding named fault entry_names
  no_fault m L [] w n d = refl
  no_fault m L (e ∷ s) w n d =
      let i =
      no_fault m (less L e.0) s
      (λ k y. less_keeps L e.0 k (w k (mem_skip k e.0 (named s) y)) (λ p. differ y (rw p n.0))) n.3 d.1 in
      rw (w e.0 (mem_here e.0 (named s)), d.0, i)

  pub new_names : (s : List (Entry literal)) → New t.clauses (named s) → Held t s → fault literal (entry_names t) (all (book_of t)) s ≡ 0
  unfolding one_to
  new_names s n d = no_fault t.clauses (all (book_of t)) s (λ k y. let q = new_within t.clauses (named s) n k y in rw (le-leb 1 k q.0, le-leb k t.clauses q.1)) n d

and_nots : (a b c : Bool) → ((a && not b) && not c) ≡ (a && not (b || c))
and_nots true true c = refl
and_nots true false c = refl
and_nots false b c = refl

-- what is live after a stack is what was live and is not named
pub after_named : (L : Live) (s : List (Entry literal)) (k : ℕ) → after literal L s k ≡ (L k && not (mem k (named s)))
unfolding named after mem less
after_named L [] k = by_bool (L k) (λ t. rw t) (λ f. rw f)
after_named L (e ∷ s) k = after_named (less L e.0) s k ∙ and_nots (L k) (eqb k e.0) (mem k (named s))

pub live_named : (t : Table) (s : List (Entry literal)) (k : ℕ) → 1 ≤ k → k ≤ t.clauses → after literal (all (book_of t)) s k ≡ not (mem k (named s))
unfolding one_to
live_named t s k l u = after_named (all (book_of t)) s k ∙ rw (le-leb 1 k l, le-leb k t.clauses u)
