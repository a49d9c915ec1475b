-- What the reader answers, in document 01's numbers. Assumes nothing.
use Rattle.std.specs.Prelude.{[], ◌∷◌, Result}
use Rattle.table.specs.Answer.{Reply, reply_of}
use Rattle.table.specs.declared.Refusal.{Refusal}
use Rattle.saved_read.specs.declared.Restored.{Restored}

-- the counts of variables, clauses and entries, or a refusal
abbrev pub restored : Result Restored Refusal → Reply
restored r = reply_of (λ n. n.variables ∷ n.clauses ∷ n.removals ∷ []) r
