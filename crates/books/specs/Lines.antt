-- Lines of a chart: their bytes in a record, and what they keep to.
use Rattle.std.specs.Prelude.{◌≡◌, ℕ, ◌≤◌, Bool, true, ◌&&◌, List, [], ◌∷◌, ◌++◌, length, nat_le, nat_lt}
use Rattle.std.specs.List.{list_all}
use Rattle.model.specs.declared.fact.Sign.TheVariants.{Negative}
use Rattle.model.specs.declared.vocabulary.Vocabulary.{Vocabulary}
use Rattle.model.specs.Literals.{literal_bytes}
use Rattle.model.specs.Vocabularies.{fact_total}
use Rattle.books.specs.declared.line.Line.{Line}

-- a line's bytes: the step that it leads from, its literal, the step that it leads to
abbrev pub line_bytes : Line → List ℕ
line_bytes l = l.from ∷ (literal_bytes l.literal ++ (l.to ∷ []))

-- what stands in a place of a chart that is not in use
abbrev pub blank_line : Line
blank_line = record { from = 0; literal = record { sign = Negative; fact = record { number = 0 } }; to = 0 }

-- a line leads from one of the steps 0 to 15 to one of these or to 16, by one of so many facts
abbrev pub line_fits : ℕ → Line → Bool
line_fits facts l = nat_le l.from 15 && (nat_le l.to 16 && nat_lt l.literal.fact.number facts)

-- what the lines of a chart over a vocabulary keep to
pub record SoundChart (v : Vocabulary) (lines : List Line) : Type 0 where
  pub few : length lines ≤ 120
  pub fits : list_all (line_fits (fact_total v)) lines ≡ true
