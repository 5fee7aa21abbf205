use Rattle.std.proofs.Common.{refl}
use Rattle.feeder.proofs.Whole.{record_of}
use Rattle.feeder.proofs.read.judge.Goals as goal

pub returns : goal.returns
returns c =
    record_of c.args.bytes.now c.in_ok-header.header c.in_ok-vocabulary.vocabulary _
    c.in_ok-header.ensures.0
    c.in_ok-layout.ensures.0.whole
    c.in_ok-vocabulary.ensures.0
    c.in_ok-plant.ensures.0
    c.in_ok-first.ensures.0
    c.in_ok-goal.ensures.0
    c.in_ok-rules.ensures.0
    refl
