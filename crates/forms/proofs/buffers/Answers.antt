-- The arrays have the lengths of their types.
use Rattle.std.proofs.Common.{◌≡◌, replicate, length, ap, ◌∙◌, arith}
use Rattle.forms.proofs.buffers.Goals as goal

pub returns-clause-lits : goal.returns-clause-lits
returns-clause-lits c =
    let n : length c.args.lits.now ≡ 16000 = omega arith in c.new.ensures.lits ∙ ap (λ n. replicate n 7) n

pub returns-clause-offs : goal.returns-clause-offs
returns-clause-offs c =
    let n : length c.args.offs.now ≡ 4001 = omega arith in c.new.ensures.offs ∙ ap (λ n. replicate n 7) n

pub returns-clause-stack : goal.returns-clause-stack
returns-clause-stack c =
    let n : length c.args.stack.now ≡ 8000 = omega arith in c.new.ensures.stack ∙ ap (λ n. replicate n 7) n
