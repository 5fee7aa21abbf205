-- The size of several operators is that of the first and then of the others.
use Rattle.std.proofs.Common.{◌≡◌, ℕ, suc, ◌+◌, ◌-◌, ◌<◌, List, drop, refl, ap, arith}
use Rattle.feeder.specs.Layouts.{operator_size, operators_size}

pub size_step : (n i : ℕ) (rest : List ℕ) → i < n
    → operators_size (n - i) rest ≡ operator_size rest + operators_size (n - (i + 1)) (drop (operator_size rest) rest)
unfolding operators_size
size_step n i rest h =
    let e : n - i ≡ suc (n - (i + 1)) = omega arith in ap (λ (k : ℕ). operators_size k rest) e

pub size_none : (rest : List ℕ) → operators_size 0 rest ≡ 0
unfolding operators_size
size_none rest = refl
