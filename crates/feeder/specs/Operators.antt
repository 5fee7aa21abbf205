-- Operators in a record: which of them a record can hold, and what reading some of them answers.
use Rattle.std.specs.Prelude.{◌≡◌, ℕ, ◌≤◌, Bool, true, List, length, Some, None, Option, ◌≢◌}
use Rattle.std.specs.List.{flat_map, list_all}
use Rattle.plants.specs.declared.operator.Operator.{Operator}
use Rattle.plants.specs.Lifted.{lifted_proper}
use Rattle.plants.specs.Operators.{operator_bytes, operator_literals}

-- the operators that a record can hold: their literals are ones that it can hold
abbrev pub operator_holds : Operator → Bool
operator_holds op = list_all lifted_proper (operator_literals op)

-- what reading so many operators answers: operators that a record can hold, whose joined bytes these are, or none where
-- the bytes are those of no such operators, of which there are at most 16
abbrev pub OperatorsRead : ℕ → List ℕ → Option (List Operator) → Type 0
OperatorsRead rows bytes (Some ops) = (length ops ≡ rows) × (flat_map operator_bytes ops ≡ bytes) × (list_all operator_holds ops ≡ true)
OperatorsRead rows bytes None =
    (ops : List Operator) → length ops ≡ rows → length ops ≤ 16 → list_all operator_holds ops ≡ true → flat_map operator_bytes ops ≢ bytes
