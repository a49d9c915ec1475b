-- Elimination, removal and the question, as calls on a lent table and stack: the answer and every cell of the stack, refusals included (document 01,
-- 'Refusal numbers' and 'Order'). Assumes nothing.
use Rattle.std.specs.Prelude.{true, List, [], ◌∷◌, ℕ, ◌+◌, length, Option, None, Some, Result}
use Rattle.std.proofs.Math.Option as Tests
use Rattle.rules.specs.Blocking.{literal}
use Rattle.rules.specs.Book.{Entry, blocks}
use Rattle.rules.specs.Elimination as Rules
use Rattle.table.specs.Limits.{Limits}
use Rattle.table.specs.Table.{Table, book_of}
use Rattle.table.specs.Stack.{words, lay, push}
use Rattle.table.specs.Answer.{Reply, answered, reply_of, test, ◌then◌, unless, Outcome, outcome, decided}
use Rattle.table.specs.declared.Entry.{Entry as LentEntry}
use Rattle.table.specs.declared.Refusal.{Refusal}
use Rattle.table.specs.declared.Refusal.TheVariants.{NotBlocking, BadName}
use Rattle.stack.specs.Tests.{table_tests, entry_names, lent_tests, live_after}

-- eliminate and remove answer the number of entries that are now on the stack
abbrev pub counted : Result ℕ Refusal → Reply
counted r = reply_of (λ c. c ∷ []) r

-- an entry as a list of one, or nothing
abbrev pub listed : Option LentEntry → List (Entry literal)
listed None = []
listed (Some e) = (e.clause, e.literal) ∷ []

-- the question answers a clause and a literal, or none
abbrev pub next_reply : Result (Option LentEntry) Refusal → Reply
next_reply r = reply_of (λ o. words (listed o)) r

-- the removals of elimination
abbrev pub removals : Table → List (Entry literal)
removals t = Rules.eliminate literal (book_of t)

-- eliminate: 4, 3; then the removals lie on the stack, and what is behind them stays
unfoldable pub elimination : Limits → Table → List ℕ → Outcome
elimination lim t ws =
    decided (table_tests lim t ws) ws (outcome (answered (length (removals t) ∷ [])) (lay (words (removals t)) ws))

-- remove: 4, 3, 5, then 7 and 6 of the clause k and the literal l that are named; old entries are not tested for 6
abbrev pub removal_tests : Limits → Table → List ℕ → ℕ → ℕ → ℕ → Tests.Option Refusal
removal_tests lim t ws c k l =
    lent_tests lim t ws c true
    then test (entry_names t (live_after t ws c) (k, l)) BadName
    then test (blocks literal (book_of t) (live_after t ws c) k l) (NotBlocking k)

-- a removal puts one entry behind the first c
unfoldable pub removal : Limits → Table → List ℕ → ℕ → ℕ → ℕ → Outcome
removal lim t ws c k l = decided (removal_tests lim t ws c k l) ws (outcome (answered ((c + 1) ∷ [])) (push ws c k l))

-- the question: 4, 3, 5, then the lowest live blocked clause with its first blocking literal, or none
unfoldable pub question : Limits → Table → List ℕ → ℕ → Reply
question lim t ws c =
    unless (lent_tests lim t ws c true)
    (answered (words (Rules.next_blocked literal (book_of t) (live_after t ws c) t.clauses)))
