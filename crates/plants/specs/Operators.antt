-- Operators: what one is made from, its bytes in a record, and when a vocabulary has its atoms.
use Rattle.std.specs.Prelude.{◌≡◌, ℕ, ◌+◌, ◌≤◌, Bool, List, [], ◌∷◌, ◌++◌, length, Some, None, Option}
use Rattle.std.specs.List.{flat_map, list_all}
use Rattle.std.proofs.Common.{lit≤}
use Rattle.model.specs.declared.vocabulary.Vocabulary.{Vocabulary}
use Rattle.plants.specs.declared.literal.LiftedLiteral.{LiftedLiteral}
use Rattle.plants.specs.declared.operator.Operator.{Operator}
use Rattle.plants.specs.Lifted.{lifted_bytes, lifted_fits}

-- an operator's literals: its preconditions, then its effects
abbrev pub operator_literals : Operator → List LiftedLiteral
operator_literals op = op.needs ++ op.effects

-- an operator's first bytes: how many parameters, preconditions and effects it has
abbrev pub operator_head : Operator → List ℕ
operator_head op = op.parameters ∷ (length op.needs ∷ (length op.effects ∷ []))

-- an operator's bytes: its head, then its literals
abbrev pub operator_bytes : Operator → List ℕ
operator_bytes op = operator_head op ++ flat_map lifted_bytes (operator_literals op)

-- an operator of the vocabulary: all its literals are
abbrev pub operator_fits : Vocabulary → Operator → Bool
operator_fits v op = list_all (lifted_fits v op.parameters) (operator_literals op)

-- what an operator keeps to: at most 2 parameters, 8 preconditions and 8 effects
pub record SoundParts (parameters : ℕ) (needs effects : List LiftedLiteral) : Type 0 where
  pub narrow : parameters ≤ 2
  pub before : length needs ≤ 8
  pub after : length effects ≤ 8

-- what making an operator of two lists answers: one of these parts, or none where they are unsound
abbrev pub OperatorOf : ℕ → List LiftedLiteral → List LiftedLiteral → Option Operator → Type 0
OperatorOf parameters needs effects (Some op) = (op.parameters ≡ parameters) × (op.needs ≡ needs) × (op.effects ≡ effects)
OperatorOf parameters needs effects None = SoundParts parameters needs effects → ⊥

-- the same of one list, the preconditions first, of which there are so many
pub record SoundOperator (parameters preconditions : ℕ) (literals : List LiftedLiteral) : Type 0 where
  pub narrow : parameters ≤ 2
  pub before : preconditions ≤ 8
  pub within : preconditions ≤ length literals
  pub after : length literals ≤ preconditions + 8

-- what making an operator of one list answers: one of these parts, or none where they are unsound
abbrev pub OperatorMade : ℕ → ℕ → List LiftedLiteral → Option Operator → Type 0
OperatorMade parameters preconditions literals (Some op) =
    (op.parameters ≡ parameters)
    × (length op.needs ≡ preconditions)
    × (length op.needs + length op.effects ≡ length literals)
    × (operator_literals op ≡ literals)
OperatorMade parameters preconditions literals None = SoundOperator parameters preconditions literals → ⊥

-- what stands in a place for an operator that is not in use: no parameters and no literals
abbrev pub blank_operator : Operator
blank_operator = record { parameters = 0; needs = []; effects = []; narrow = lit≤ tt; before = lit≤ tt; after = lit≤ tt }
