use Rattle.std.proofs.Common.{◌+◌, sym, ◌∙◌, ⊎_elim, rules}
use Rattle.model.specs.Pictures.{holds}
use Rattle.std.proofs.lemmas.Bool.{and_left, cases_lt, le-ltb}
use Rattle.grid.proofs.Same.{same_sections}
use Rattle.grid.proofs.plant.NetworkPlant.first_earths.Goals as goal

pub returns : goal.returns
returns c =
    let p = c.args.self.now in
    let n = p.network.vocabulary.objects in
    same_sections _ _
    (λ k _.
    ⊎_elim
    (λ h. search (rules, c.those.ensures.tested k h))
    (λ h. c.those.ensures.others k h ∙ sym (and_left _ (holds p.first (n + k)) (le-ltb k n h)))
    (cases_lt k n))
