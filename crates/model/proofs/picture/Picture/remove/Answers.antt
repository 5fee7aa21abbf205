use Rattle.model.specs.Pictures.{holds}
use Rattle.model.proofs.Pictures.{without_fact}
use Rattle.model.proofs.picture.Picture.remove.Goals as goal

pub returns : goal.returns
unfolding holds
returns c =
    let p = c.args.self.now in
    let w = c.in_ok-word in
    (w.ensures.0, without_fact p.words c.args.fact.number w.word w.bit w.ensures p.places)
