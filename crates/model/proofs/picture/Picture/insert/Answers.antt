use Rattle.std.proofs.Common.{◌∙◌}
use Rattle.std.proofs.lemmas.List.{length-set}
use Rattle.model.specs.Pictures.{holds}
use Rattle.model.proofs.Pictures.{fact_set, fact_set_small}
use Rattle.model.proofs.picture.Picture.insert.Goals as goal

pub invariant_of-self : goal.invariant_of-self
invariant_of-self c =
    let p = c.args.self.now in
    let w = c.in_ok-word in
    record {
      places = length-set p.words w.word _ ∙ p.places;
      small = fact_set_small p.words c.args.fact.number w.word w.bit w.ensures p.places p.small;
    }

pub returns : goal.returns
unfolding holds
returns c =
    let p = c.args.self.now in
    let w = c.in_ok-word in
    (w.ensures.0, fact_set p.words c.args.fact.number w.word w.bit w.ensures p.places)
