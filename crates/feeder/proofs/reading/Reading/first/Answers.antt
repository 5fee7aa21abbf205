use Rattle.std.proofs.Common.{◌*◌}
use Rattle.feeder.specs.declared.header.Header.{Header}
use Rattle.feeder.specs.declared.refusal.ReadRefusal.TheVariants.{FirstFacts}
use Rattle.feeder.specs.Layouts.{facts_at}
use Rattle.feeder.specs.Records.{picture_bytes}
use Rattle.feeder.specs.Verdicts.{SuitFirst, first_part}
use Rattle.feeder.proofs.Steps.{read_same, slice_part, step_read}
use Rattle.feeder.proofs.reading.Reading.first.Goals as goal

pub returns : goal.returns
returns c =
    let r = c.args.self.now in
    let bytes = r.bytes.now in
    let h = r.header in
    let v = r.vocabulary in
    let cut = slice_part bytes r.layout.facts r.layout.goal (facts_at h bytes) (2 * h.first) r.laid.facts r.laid.goal in
    rw c.ok_or.ensures.value
    (step_read bytes h v SuitFirst picture_bytes (λ (k : Header). first_part k bytes) FirstFacts c.first_of.result (λ k. k) (λ k. k) r.head r.words c.requires
    (read_same (SuitFirst h v) picture_bytes _ _ c.first_of.result cut c.first_of.ensures))
