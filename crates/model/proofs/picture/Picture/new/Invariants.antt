-- The picture has just the facts seen so far, and none above the last of them.
use Rattle.std.proofs.Common.{◌≡◌, ℕ, ◌+◌, ◌<◌, false, get_or, take}
use Rattle.model.specs.Ascents.{fact_numbers}
use Rattle.model.specs.Pictures.{holds, members}
use Rattle.model.proofs.picture.Picture.new.Given as goal

abbrev pub invariant-loop-fact : goal.invariant-loop-fact
invariant-loop-fact l =
    (members l.picture ≡ fact_numbers (take l.fact-index l.facts))
    × ((f : ℕ) → ((k : ℕ) → k + 1 ≡ l.fact-index → get_or (fact_numbers l.facts) k 0 < f) → holds l.picture f ≡ false)
