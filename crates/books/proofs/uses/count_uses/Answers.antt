use Rattle.std.proofs.Common.{ℕ, ◌<◌, arith}
use Rattle.std.proofs.lemmas.List.{get_or-replicate}
use Rattle.books.proofs.uses.count_uses.Goals as goal

pub loop-i-init : goal.loop-i-init
loop-i-init c =
    let zeros = λ (j : ℕ) (h : j < 120). get_or-replicate {A = ℕ} 120 j 0 0 h in
    (λ k h. absurd (omega arith), λ j h. omega (arith, zeros j h), λ j h. omega (arith, zeros j h))
