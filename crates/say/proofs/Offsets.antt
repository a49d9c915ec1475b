-- The offsets of clauses of 1,000 literals.
use Rattle.std.proofs.Common.{◌≡◌, ℕ, zero, suc, ◌*◌, ◌≤◌, refl, arith}
use Rattle.std.proofs.lemmas.Bool.Decides.{nat_tests}
use Rattle.say.specs.Lay.{offset_at}

pub offset_at-thousands : (k : ℕ) → k ≤ 17 → offset_at 1000 k ≡ 1000 * k
offset_at-thousands zero h = refl
offset_at-thousands (suc k) h =
    let e : offset_at 1000 k ≡ 1000 * k = offset_at-thousands k (omega arith) in grind (arith, nat_tests)
