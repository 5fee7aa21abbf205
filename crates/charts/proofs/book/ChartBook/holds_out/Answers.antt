use Rattle.std.proofs.Common.{◌≡◌, ℕ, suc, ◌+◌, ◌-◌, ◌<◌, ap, arith}
use Rattle.books.specs.declared.chart.Chart.{Chart}
use Rattle.model.specs.declared.picture.Picture.{Picture}
use Rattle.std.proofs.lemmas.Grind.{common_steps}
use Rattle.charts.specs.Steps.{stays, step_after}
use Rattle.charts.proofs.book.ChartBook.holds_out.Goals as goal

-- one turn of those that are left
turned : (c : Chart) (q : Picture) (m n at : ℕ) → n ≡ suc m → at < 16 → stays c q n at ≡ stays c q m (step_after c at q)
unfolding stays
turned c q m n at e h = grind (arith, common_steps)

pub loop-turn-preserved : goal.loop-turn-preserved
loop-turn-preserved c =
    let t = turned c.args.self.now.chart c.args.picture.now (17 - (c.loop-turn._turn + 1)) (17 - c.loop-turn._turn) c.loop-turn.at (omega arith) c.if-at-ge-BROKEN.false in
    cc (c.loop-turn.invariant, c.follow-at.ensures)

pub returns : goal.returns
unfolding stays
returns c = let e : 17 - c.loop-turn._turn ≡ 0 = omega arith in cc (ap (λ (n : ℕ). stays c.args.self.now.chart c.args.picture.now n c.loop-turn.at) e)
