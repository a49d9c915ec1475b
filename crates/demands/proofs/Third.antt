-- Demand 3: the order of removal calls does not matter, and rebuild leads back from the remaining rules to the whole input. Assumes nothing.
use mathlib.Core.Path.{◌≡◌, refl, ◌∙◌, ap}
use mathlib.Core.Bool.{true, not}
use mathlib.Core.List.{List, [], ◌∷◌}
use mathlib.Core.Option.{none}
use Prim.Native.Nat.{ℕ, ◌-◌, ◌/◌}
use native.Mathlib.Omega.{arith}
use borrow.Author.Tests.{le-leb}
use Rattle.rules.specs.Clause.{Values}
use Rattle.rules.specs.Blocking.{literal}
use Rattle.rules.specs.Book.{Live, all, Entry}
use Rattle.rules.specs.Elimination.{next_blocked}
use Rattle.rules.specs.Rebuild.{fails, falsified}
use Rattle.rules.proofs.Logic.{by_bool}
use Rattle.rules.proofs.Walks.{none_least}
use Rattle.rules.proofs.Laws.{all_within, Stuck, confluent, satisfiable, rebuilt as model_rebuilt}
use Rattle.rules.proofs.Sweeps.{next_stuck}
use Rattle.rules.proofs.Literals.{literal_sound}
use Rattle.table.specs.Limits.{base}
use Rattle.table.specs.Table.{Table, row, book_of, sound}
use Rattle.table.specs.Stack.{entries, words, lay}
use Rattle.table.specs.Values.{values_of, bytes_of, bad_byte, bad_value}
use Rattle.table.specs.Answer.{answered}
use Rattle.table.proofs.Soundness.{sound_of, literal_coded}
use Rattle.stack.specs.Tests.{live_after}
use Rattle.removal.specs.Removal.{question}
use Rattle.rebuild.specs.Rebuild.{rebuild_tests, rebuilt, rebuilding}
use Rattle.rebuild.proofs.Bytes.{values_laid, holds_agree}
use Rattle.demands.specs.Calls.{Stack, live}
use Rattle.demands.specs.Demands.{reached, NoneCanGo, Satisfies, SameRemainder, Choice, rebuilt_by, RebuildsAll, SatisfiableAlike}
use Rattle.demands.proofs.Reaching.{Valid, live_within, lent_tests_lem, blocking_tests_lem, reached_valid}

answered_nothing : (s : List (Entry literal)) → answered (words s) ≡ answered [] → s ≡ []
unfolding words
answered_nothing [] h = refl
answered_nothing (e ∷ s) h = cc

-- where the question answers none, no live clause is blocked
pub none_stuck : (t : Table) (s : Stack) → sound base t ≡ true → Valid t s → NoneCanGo t s → Stuck literal (book_of t) (live t s)
unfolding question
none_stuck t s h v q =
    next_stuck literal (book_of t) literal_sound (live t s) (live_within t s v)
    (answered_nothing (next_blocked literal (book_of t) (live t s) t.clauses) (rw (lent_tests_lem t s v h true refl) at q))

same_live : (t : Table) (s s' : Stack) → Valid t s → Valid t s' → Stuck literal (book_of t) (live t s) → Stuck literal (book_of t) (live t s') → live t s ≡ live t s'
unfolding live_after
same_live t s s' v v' n n' =
    confluent literal (book_of t) (all (book_of t)) (entries s.words s.count) (entries s'.words s'.count) v.right v'.right n n'

pub same_remainder : SameRemainder
same_remainder t ws ws' st st' xs ys q q' =
    let v = reached_valid t ws st xs in
    let v' = reached_valid t ws' st' ys in
    same_live t (reached t ws xs) (reached t ws' ys) v v' (none_stuck t (reached t ws xs) st.table_sound v q) (none_stuck t (reached t ws' ys) st.table_sound v' q')

-- rebuild
no_bad_value : (t : Table) (vs : List ℕ) → Choice t vs → bad_value vs t.variables ≡ 0
unfolding bad_value bad_byte
no_bad_value t vs ch = none_least (bad_byte vs) t.variables (λ k l u. ap not (le-leb _ _ (ch.bits (k - 1) (omega arith))))

none_false : (t : Table) (L : Live) (v : Values) → Satisfies t L v → falsified (book_of t) L v ≡ 0
unfolding falsified fails
none_false t L v m =
    none_least (fails (book_of t) L v) t.clauses
    (λ k l u. by_bool (L k) (λ y. rw (y, m k y)) (λ n. rw n))

rebuild_tests_lem : (t : Table) (s : Stack) (vs : List ℕ) → sound base t ≡ true → Valid t s → Choice t vs → Satisfies t (live t s) (values_of vs)
    → rebuild_tests base t s.words s.count vs ≡ none
rebuild_tests_lem t s vs h v ch m =
    rw (
      lent_tests_lem t s v h _ (le-leb _ _ ch.room),
      blocking_tests_lem t s v,
      no_bad_value t vs ch,
      none_false t (live t s) (values_of vs) m,
    )

walked : (t : Table) (s : Stack) (vs : List ℕ) → Valid t s → Satisfies t (live t s) (values_of vs) → Satisfies t (all (book_of t)) (rebuilt t s.words s.count vs)
unfolding live_after rebuilt
walked t s vs v m =
    model_rebuilt literal (book_of t) literal_sound (all (book_of t)) (entries s.words s.count) (values_of vs) (all_within (book_of t)) v.right m

-- the bytes that are laid down satisfy what the walk's values satisfy
laid_down : (t : Table) (v : Values) (vs : List ℕ) → sound base t ≡ true → Satisfies t (all (book_of t)) v
    → Satisfies t (all (book_of t)) (values_of (lay (bytes_of v t.variables) vs))
laid_down t v vs h m k a =
    let w = all_within (book_of t) k a in
    holds_agree (values_of (lay (bytes_of v t.variables) vs)) v (row t k)
    (λ x i. let q = literal_coded t (sound_of t h) k x w.0 w.1 i in values_laid v t.variables vs (x / 2) (omega arith) (omega arith))
    ∙ m k a

pub rebuilds_all : RebuildsAll
rebuilds_all t ws st xs vs ch m =
    let s = reached t ws xs in
    let v = reached_valid t ws st xs in
    done s (rebuild_tests_lem t s vs st.table_sound v ch m) (laid_down t (rebuilt t s.words s.count vs) vs st.table_sound (walked t s vs v m))
  where
    done : (s : Stack) → rebuild_tests base t s.words s.count vs ≡ none
        → Satisfies t (all (book_of t)) (values_of (lay (bytes_of (rebuilt t s.words s.count vs) t.variables) vs))
        → ((rebuilt_by t s vs).reply ≡ answered []) × Satisfies t (all (book_of t)) (values_of (rebuilt_by t s vs).cells)
    done s n m = unfold rebuilding in rw n (refl, m)

pub satisfiable_alike : SatisfiableAlike
unfolding live_after
satisfiable_alike t ws st xs =
    let s = reached t ws xs in
    satisfiable literal (book_of t) literal_sound (all (book_of t)) (entries s.words s.count) (all_within (book_of t)) (reached_valid t ws st xs).right
