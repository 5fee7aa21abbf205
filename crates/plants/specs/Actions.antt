-- Action tables: what one is made from, and its bytes in a record.
use Rattle.std.specs.Prelude.{◌≡◌, ℕ, ◌≤◌, true, List, length, Some, None, Option}
use Rattle.model.specs.declared.vocabulary.Vocabulary.{Vocabulary}
use Rattle.std.specs.List.{flat_map, list_all}
use Rattle.plants.specs.declared.actions.ActionTable.{ActionTable}
use Rattle.plants.specs.declared.operator.Operator.{Operator}
use Rattle.plants.specs.Operators.{operator_bytes, operator_fits}

-- a table's bytes: those of its operators
abbrev pub action_bytes : ActionTable → List ℕ
action_bytes t = flat_map operator_bytes t.operators

-- what an action table keeps to: at most 16 operators, each of the vocabulary
pub record SoundActions (v : Vocabulary) (operators : List Operator) : Type 0 where
  pub few : length operators ≤ 16
  pub fits : list_all (operator_fits v) operators ≡ true

-- what making an action table answers: one of these parts, or none where they are unsound
abbrev pub ActionsMade : Vocabulary → List Operator → Option ActionTable → Type 0
ActionsMade v operators (Some t) = (t.vocabulary ≡ v) × (t.operators ≡ operators)
ActionsMade v operators None = SoundActions v operators → ⊥
