use Rattle.std.proofs.Common.{rules}
use Rattle.model.specs.Pictures.{holds}
use Rattle.model.proofs.Pictures.{place_bit}
use Rattle.model.proofs.picture.Picture.holds.Goals as goal

pub returns : goal.returns
unfolding holds
returns c =
    let p = c.args.self.now in
    place_bit p.words c.args.fact.number c.place.result c.is_some_and.result c.place.ensures (search rules) p.places
