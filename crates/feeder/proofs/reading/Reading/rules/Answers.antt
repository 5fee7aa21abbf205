use Rattle.std.proofs.Common.{ℕ, drop, ap, ◌∙◌}
use Rattle.std.proofs.lemmas.List.{take_rest}
use Rattle.feeder.specs.declared.header.Header.{Header}
use Rattle.feeder.specs.declared.refusal.ReadRefusal.TheVariants.{Rules}
use Rattle.feeder.specs.Layouts.{rules_at, rules_size}
use Rattle.feeder.specs.Tables.{rule_bytes}
use Rattle.feeder.specs.Verdicts.{SuitRules, rules_part}
use Rattle.feeder.proofs.Cuts.{cut_last}
use Rattle.feeder.proofs.Steps.{read_same, step_read}
use Rattle.feeder.proofs.reading.Reading.rules.Goals as goal

pub returns : goal.returns
returns c =
    let r = c.args.self.now in
    let bytes = r.bytes.now in
    let h = r.header in
    let v = r.vocabulary in
    let cut = take_rest bytes r.layout.rules ∙ ap (λ (k : ℕ). drop k bytes) r.laid.rules ∙ cut_last (rules_at h bytes) (rules_size h.book h.rules) bytes r.laid.whole in
    rw c.ok_or.ensures.value
    (step_read bytes h v SuitRules rule_bytes (λ (k : Header). rules_part k bytes) Rules c.rules_of.result (λ k. k) (λ k. k) r.head r.words c.requires
    (read_same (SuitRules h v) rule_bytes _ _ c.rules_of.result cut c.rules_of.ensures))
