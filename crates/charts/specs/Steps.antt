-- Steps of a chart: where each picture leads, which runs are permitted, and when it rests.
use Rattle.std.specs.Prelude.{ℕ, zero, suc, ◌<◌, Bool, cond, ◌&&◌, List, [], ◌∷◌, ◌==◌, nat_lt}
use Rattle.books.specs.declared.chart.Chart.{Chart}
use Rattle.books.specs.declared.line.Line.{Line}
use Rattle.model.specs.declared.picture.Picture.{Picture}
use Rattle.model.specs.Goals.{literal_holds}
use Rattle.model.specs.Runs.{picture_at}

-- whether a line is followed: it leads from the step, and its literal holds
abbrev pub leads : ℕ → Picture → Line → Bool
leads step q l = l.from == step && literal_holds q l.literal

-- the step after a picture: of the lines from the step, the first whose literal holds is followed; if none holds, it stays
abbrev pub followed : List Line → ℕ → Picture → ℕ
followed [] step q = step
followed (l ∷ lines) step q = cond (leads step q l) l.to (followed lines step q)

-- the step of a chart after a picture
unfoldable pub step_after : Chart → ℕ → Picture → ℕ
step_after c step q = followed c.lines step q

-- the step after the first i pictures of a run, the last of which stays for ever
unfoldable pub step_at : Chart → ℕ → Picture → List Picture → ℕ → ℕ
step_at c step q qs zero = step
step_at c step q qs (suc i) = step_after c (step_at c step q qs i) (picture_at q qs i)

-- a step permits a run where it is and stays below 16, however often the last picture comes again
abbrev pub Permits : Chart → ℕ → Picture → List Picture → Type 0
Permits c step q qs = (i : ℕ) → step_at c step q qs i < 16

-- whether a step is below 16, and stays so for n turns of one picture
unfoldable pub stays : Chart → Picture → ℕ → ℕ → Bool
stays c q zero step = nat_lt step 16
stays c q (suc n) step = nat_lt step 16 && stays c q n (step_after c step q)

-- whether a step rests on a picture: there are 17 steps, so what is not broken after 17 turns never is
abbrev pub rests : Chart → ℕ → Picture → Bool
rests c step q = stays c q 17 step
