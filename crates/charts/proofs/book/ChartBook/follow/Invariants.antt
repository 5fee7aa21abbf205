use Rattle.std.proofs.Common.{◌≡◌}
use Rattle.charts.specs.Steps.{followed, step_after}
use Rattle.charts.proofs.book.ChartBook.follow.Given as goal

-- the lines that are left give the step
abbrev pub invariant-loop-line : goal.invariant-loop-line
invariant-loop-line l = followed l.lines.rest.now l.step l.picture ≡ step_after l.self.chart l.step l.picture
