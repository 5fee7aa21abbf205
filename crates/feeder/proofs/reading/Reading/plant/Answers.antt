use Rattle.std.proofs.Common.{drop}
use Rattle.feeder.specs.declared.header.Header.{Header}
use Rattle.feeder.specs.declared.refusal.ReadRefusal.TheVariants.{Plant}
use Rattle.feeder.specs.Layouts.{plant_at, plant_size}
use Rattle.feeder.specs.Tables.{plant_bytes}
use Rattle.feeder.specs.Verdicts.{SuitPlant, plant_part}
use Rattle.feeder.proofs.Steps.{read_same, slice_part, step_read}
use Rattle.feeder.proofs.reading.Reading.plant.Goals as goal

pub returns : goal.returns
returns c =
    let r = c.args.self.now in
    let bytes = r.bytes.now in
    let h = r.header in
    let v = r.vocabulary in
    let cut = slice_part bytes r.layout.plant r.layout.facts (plant_at h) (plant_size h.plant h.rows (drop (plant_at h) bytes)) r.laid.plant r.laid.facts in
    rw c.ok_or.ensures.value
    (step_read bytes h v SuitPlant plant_bytes (λ (k : Header). plant_part k bytes) Plant c.plant_of.result (λ k. k) (λ k. k) r.head r.words c.requires
    (read_same (SuitPlant h v) plant_bytes _ _ c.plant_of.result cut c.plant_of.ensures))
