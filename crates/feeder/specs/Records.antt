-- Records: the bytes of a feeder.
use Rattle.std.specs.Prelude.{ℕ, List, [], ◌∷◌, ◌++◌, length}
use Rattle.model.specs.Literals.{literal_bytes, word_bytes}
use Rattle.model.specs.Pictures.{members}
use Rattle.model.specs.Facts.{arity_byte}
use Rattle.model.specs.declared.goal.Goal.{Goal}
use Rattle.model.specs.declared.picture.Picture.{Picture}
use Rattle.model.specs.declared.vocabulary.Vocabulary.{Vocabulary}
use Rattle.std.specs.List.{flat_map}
use Rattle.feeder.specs.declared.header.Header.{Header}
use Rattle.feeder.specs.declared.record.Feeder.{Feeder}
use Rattle.feeder.specs.Headers.{header_bytes}
use Rattle.feeder.specs.Tables.{plant_bytes, plant_kind, plant_rows, plant_words, rule_bytes, rule_kind, rule_rows}

-- the header of a feeder
abbrev pub header_of : Feeder → Header
header_of f = record {
  plant = plant_kind f.plant;
  objects = (plant_words f.plant).objects;
  predicates = length (plant_words f.plant).arities;
  rows = plant_rows f.plant;
  book = rule_kind f.rules;
  rules = rule_rows f.rules;
  goal = length f.goal.literals;
  limit = f.limit;
  first = length (members f.first);
}

-- the arity of each predicate
abbrev pub arity_bytes : Vocabulary → List ℕ
arity_bytes v = flat_map (λ a. arity_byte a ∷ []) v.arities

-- the facts of a picture, ascending
abbrev pub picture_bytes : Picture → List ℕ
picture_bytes p = flat_map word_bytes (members p)

-- the literals of a goal, by ascending fact
abbrev pub goal_bytes : Goal → List ℕ
goal_bytes g = flat_map literal_bytes g.literals

-- the record of a feeder: its header, arities, plant, first facts, goal and rules, in this order
unfoldable pub encode : Feeder → List ℕ
encode f =
    header_bytes (header_of f)
    ++ (arity_bytes (plant_words f.plant)
    ++ (plant_bytes f.plant
    ++ (picture_bytes f.first
    ++ (goal_bytes f.goal
    ++ rule_bytes f.rules))))
