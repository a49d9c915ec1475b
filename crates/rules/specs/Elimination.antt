-- Elimination by sweeps and the question (document 01, 'The blocking rule' and 'Refusal numbers'). Assumes nothing.
use Rattle.std.specs.Prelude.{cond, List, [], ◌∷◌, ◌++◌, ℕ, zero, suc}
use Rattle.rules.specs.Blocking.{Notion}
use Rattle.rules.specs.Book.{Book, Live, Entry, all, after, blocks}

-- the list itself where it is not empty; else the second one
module _ {A : Type 0} where
  abbrev pub or_list : List A → List A → List A
  or_list [] t = t
  or_list (e ∷ s) t = e ∷ s

  -- the two lists joined, unless the first is empty: then nothing
  abbrev pub joined : List A → List A → List A
  joined [] t = []
  joined (e ∷ s) t = e ∷ s ++ t

module _ (N : Notion) (b : Book) where
  -- the entry of clause k with the first of its reasons that blocks it, or nothing
  unfoldable pub first_reason : Live → ℕ → List N.Reason → List (Entry N)
  first_reason L k [] = []
  first_reason L k (r ∷ rs) = cond (blocks N b L k r) ((k, r) ∷ []) (first_reason L k rs)

  -- what clause k's turn puts on the stack: a live clause that is blocked among the live clauses goes, with its first blocking reason
  unfoldable pub turn : Live → ℕ → List (Entry N)
  turn L k = cond (L k) (first_reason L k (N.reasons (b.clause k))) []

  -- what the turns of the clauses 1 to n put on the stack, each among the clauses live at its turn
  unfoldable pub turns : Live → ℕ → List (Entry N)
  turns L zero = []
  turns L (suc n) = let s : List (Entry N) = turns L n in s ++ turn (after N L s) (suc n)

  -- sweeps, until one removes nothing, and at most f of them
  unfoldable pub sweeps : ℕ → Live → List (Entry N)
  sweeps zero L = []
  sweeps (suc f) L = let s : List (Entry N) = turns L b.count in joined s (sweeps f (after N L s))

  -- Elimination starts from an empty stack. Each sweep but the last removes a clause, so one sweep more than there are clauses is enough.
  unfoldable pub eliminate : List (Entry N)
  eliminate = sweeps (suc b.count) (all b)

  -- the clauses that elimination leaves
  unfoldable pub remainder : Live
  remainder = after N (all b) eliminate

  -- the question, among the clauses 1 to n: the lowest live blocked clause with its first blocking reason, or nothing
  unfoldable pub next_blocked : Live → ℕ → List (Entry N)
  next_blocked L zero = []
  next_blocked L (suc n) = or_list (next_blocked L n) (turn L (suc n))
