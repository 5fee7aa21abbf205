use Rattle.std.proofs.Common.{◌*◌}
use Rattle.feeder.specs.declared.header.Header.{Header}
use Rattle.feeder.specs.declared.refusal.ReadRefusal.TheVariants.{Goal}
use Rattle.feeder.specs.Layouts.{goal_at}
use Rattle.feeder.specs.Records.{goal_bytes}
use Rattle.feeder.specs.Verdicts.{SuitGoal, goal_part}
use Rattle.feeder.proofs.Steps.{read_same, slice_part, step_read}
use Rattle.feeder.proofs.reading.Reading.goal.Goals as goal

pub returns : goal.returns
returns c =
    let r = c.args.self.now in
    let bytes = r.bytes.now in
    let h = r.header in
    let v = r.vocabulary in
    let cut = slice_part bytes r.layout.goal r.layout.rules (goal_at h bytes) (3 * h.goal) r.laid.goal r.laid.rules in
    rw c.ok_or.ensures.value
    (step_read bytes h v (λ h v. SuitGoal v) goal_bytes (λ (k : Header). goal_part k bytes) Goal c.goal_of.result (λ k. k) (λ k. k) r.head r.words c.requires
    (read_same (SuitGoal v) goal_bytes _ _ c.goal_of.result cut c.goal_of.ensures))
