-- Charts: what making one answers.
use Rattle.std.specs.Prelude.{◌≡◌, List, Some, None, Option}
use Rattle.model.specs.declared.vocabulary.Vocabulary.{Vocabulary}
use Rattle.books.specs.declared.chart.Chart.{Chart}
use Rattle.books.specs.declared.line.Line.{Line}
use Rattle.books.specs.Lines.{SoundChart}

-- what making a chart answers: one of this vocabulary and these lines, or none where they break a rule
abbrev pub ChartMade : Vocabulary → List Line → Option Chart → Type 0
ChartMade v lines (Some t) = (t.vocabulary ≡ v) × (t.lines ≡ lines)
ChartMade v lines None = SoundChart v lines → ⊥
