-- Layouts: where the parts of a record lie, and how long its counts call for it to be.
use Rattle.std.specs.Prelude.{◌≡◌, ℕ, zero, suc, ◌+◌, ◌*◌, ◌<◌, ◌≤◌, List, length, drop, Some, None, Option, slice_index}
use Rattle.feeder.specs.declared.header.BookKind.{BookKind}
use Rattle.feeder.specs.declared.header.BookKind.TheVariants.{Chart, Formula}
use Rattle.feeder.specs.declared.header.Header.{Header}
use Rattle.feeder.specs.declared.header.PlantKind.{PlantKind}
use Rattle.feeder.specs.declared.header.PlantKind.TheVariants.{Actions, Network}
use Rattle.feeder.specs.declared.layout.Layout.{Layout}

-- the bytes of the operator that a list begins with: three, and four for each literal, its counts taken as they stand
abbrev pub operator_size : List ℕ → ℕ
operator_size rest = 3 + 4 * (slice_index rest 1 + slice_index rest 2)

-- what asking for that size answers: the size, or none where there are too few bytes to tell
abbrev pub OperatorSized : List ℕ → Option ℕ → Type 0
OperatorSized bytes (Some n) = (3 ≤ length bytes) × (n ≡ operator_size bytes) × (n ≤ 2043)
OperatorSized bytes None = length bytes < 3

-- the bytes of n operators, one after another
unfoldable pub operators_size : ℕ → List ℕ → ℕ
operators_size zero rest = 0
operators_size (suc n) rest = operator_size rest + operators_size n (drop (operator_size rest) rest)

-- the bytes of the plant's table: operators, or two for each switch and two for the fed sections
abbrev pub plant_size : PlantKind → ℕ → List ℕ → ℕ
plant_size Actions rows rest = operators_size rows rest
plant_size Network rows rest = 2 * rows + 2

-- the bytes of the rules: four for each node, five for each line
abbrev pub rules_size : BookKind → ℕ → ℕ
rules_size Formula rules = 4 * rules
rules_size Chart rules = 5 * rules

-- where each part begins: behind the header one byte for each predicate, then the plant's table, then two bytes for
-- each first fact, then three for each goal literal, then the rules
abbrev pub plant_at : Header → ℕ
plant_at h = 11 + h.predicates

abbrev pub facts_at : Header → List ℕ → ℕ
facts_at h bytes = plant_at h + plant_size h.plant h.rows (drop (plant_at h) bytes)

abbrev pub goal_at : Header → List ℕ → ℕ
goal_at h bytes = facts_at h bytes + 2 * h.first

abbrev pub rules_at : Header → List ℕ → ℕ
rules_at h bytes = goal_at h bytes + 3 * h.goal

-- the length that the counts call for
abbrev pub called_for : Header → List ℕ → ℕ
called_for h bytes = rules_at h bytes + rules_size h.book h.rules

-- a size that fits the bytes that are left, or none where they are too few
abbrev pub Sized : ℕ → List ℕ → Option ℕ → Type 0
Sized size bytes (Some n) = (n ≡ size) × (n ≤ length bytes)
Sized size bytes None = length bytes < size

-- the places of the parts in a record of the length that its counts call for
pub record LaidOut (h : Header) (bytes : List ℕ) (l : Layout) : Type 0 where
  pub whole : length bytes ≡ called_for h bytes
  pub plant : l.plant ≡ plant_at h
  pub facts : l.facts ≡ facts_at h bytes
  pub goal : l.goal ≡ goal_at h bytes
  pub rules : l.rules ≡ rules_at h bytes

-- what laying out answers: the places, or none where the length is another
abbrev pub LayoutMade : Header → List ℕ → Option Layout → Type 0
LayoutMade h bytes (Some l) = LaidOut h bytes l
LayoutMade h bytes None = length bytes ≡ called_for h bytes → ⊥
