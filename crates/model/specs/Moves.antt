-- Moves: the lowest number that passes a test, such as the lowest move that is allowed in a state.
use Rattle.std.specs.Prelude.{ℕ, zero, suc, ◌-◌, Bool, cond, Some, None, Option}

-- the lowest of n numbers, from a first one on, that passes a test
unfoldable pub lowest : (ℕ → Bool) → ℕ → ℕ → Option ℕ
lowest test from zero = None
lowest test from (suc n) = cond (test from) (Some from) (lowest test (suc from) n)

-- the lowest move from a number on that passes a test; moves are numbered 0 to 4095
abbrev pub lowest_move : (ℕ → Bool) → ℕ → Option ℕ
lowest_move test from = lowest test from (4096 - from)
