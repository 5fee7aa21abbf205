use Rattle.std.proofs.Common.{◌≡◌, ◌-◌}
use Rattle.charts.specs.Steps.{rests, stays}
use Rattle.charts.proofs.book.ChartBook.holds_out.Given as goal

-- what is left of the turns decides
abbrev pub invariant-loop-turn : goal.invariant-loop-turn
invariant-loop-turn l = rests l.self.chart l.step l.picture ≡ stays l.self.chart l.picture (17 - l._turn) l.at
