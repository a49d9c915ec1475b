-- Marks of the live clauses. Assumes nothing.
use mathlib.Core.Path.{◌≡◌, sym, ap, ◌∙◌, fun_ext}
use mathlib.Core.Bool.{Bool, true, false, ◌&&◌}
use mathlib.Core.List.{List, []}
use mathlib.Core.Logic.{◌≢◌, by_cases}
use Prim.Native.Nat.{ℕ, ◌+◌, ◌≤◌, ◌<◌}
use native.Mathlib.Decide.{dec_lt}
use native.Mathlib.Omega.{arith}
use Rattle.std.proofs.lemmas.List.{get_or-replicate, length-replicate}
use Rattle.std.proofs.lemmas.Bool.Decides.{nat_tests}
use lib.Dec.{leb}
use lib.ListN.{length, get_or, set, replicate, get_or-eq_default}
use lib.Seq.{get_or-set_same, get_or-set_other}
use Rattle.rules.specs.Blocking.{literal}
use Rattle.rules.specs.Book.{Book, one_to, less, Entry, after}
use Rattle.rules.proofs.Logic.{by_eq}
use Rattle.rules.proofs.Laws.{all_within, after_in}
use Rattle.rules.proofs.Sweeps.{less_other, less_same}
use Rattle.index.specs.Index.{live_of}

-- a mark taken away is one live clause less
pub live_less : (ms : List Bool) (k : ℕ) → k < length ms → live_of (set ms k false) ≡ less (live_of ms) k
unfolding live_of
live_less ms k h = fun_ext (λ j. by_eq j k
    (λ e. rw e (get_or-set_same ms k false false h ∙ sym (less_same (live_of ms) k)))
    (λ n. get_or-set_other ms k j false false n ∙ sym (less_other (live_of ms) k j n)))

-- marks of clauses 1 to m, less some, are within 1 to m
pub live_within : (m : ℕ) (ms : List Bool) (s : List (Entry literal)) → live_of ms ≡ after literal (one_to m) s
    → (k : ℕ) → live_of ms k ≡ true → (1 ≤ k) × (k ≤ m)
live_within m ms s e k h =
    all_within (numbered m) k (after_in literal (numbered m) (one_to m) s k (rw e at h))
  where
    numbered : ℕ → Book
    numbered m = record { count = m; clause = λ k. [] }

-- where nothing is marked, none of the clauses is
pub none_marked : (n : ℕ) → live_of (replicate n false) ≡ one_to 0
unfolding live_of one_to
none_marked n = fun_ext (λ j. by_cases (dec_lt j n)
    (λ l. get_or-replicate n j false false l ∙ nothing j)
    (λ g. get_or-eq_default (replicate n false) false (rw (length-replicate n false) (omega arith)) ∙ nothing j))
  where
    nothing : (j : ℕ) → false ≡ (leb 1 j && leb j 0)
    nothing j = grind (arith, nat_tests)

-- one mark more
pub mark_more : (m : ℕ) (ms : List Bool) → m + 1 < length ms → live_of ms ≡ one_to m → live_of (set ms (m + 1) true) ≡ one_to (m + 1)
unfolding live_of one_to
mark_more m ms h e = fun_ext (λ j. by_eq j (m + 1)
    (λ q. rw (q, get_or-set_same ms (m + 1) true false h) (grind (arith, nat_tests)))
    (λ n. get_or-set_other ms (m + 1) j true false n ∙ here j n))
  where
    here : (j : ℕ) → j ≢ m + 1 → get_or ms j false ≡ (leb 1 j && leb j (m + 1))
    here j n = let old : get_or ms j false ≡ (leb 1 j && leb j m) = ap (λ f. f j) e in old ∙ grind (arith, nat_tests)
