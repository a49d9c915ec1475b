-- What write_saved answers, in document 01's numbers. Assumes nothing.
use Rattle.std.specs.Prelude.{ℕ, [], ◌∷◌, Result}
use Rattle.table.specs.Answer.{Reply, reply_of}
use Rattle.table.specs.declared.Refusal.{Refusal}

-- the length of the form that was written
abbrev pub written : Result ℕ Refusal → Reply
written r = reply_of (λ len. len ∷ []) r
