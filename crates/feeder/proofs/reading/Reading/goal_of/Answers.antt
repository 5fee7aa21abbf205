-- The literals are the only ones that these bytes can be.
use Rattle.std.proofs.Common.{◌≡◌, sym, ap, ◌∙◌, subst}
use Rattle.std.specs.List.{flat_map, list_all}
use Rattle.model.proofs.Goals.{goal_sound}
use Rattle.model.specs.Goals.{SoundGoal}
use Rattle.model.specs.Literals.{literal_bytes}
use Rattle.model.specs.Vocabularies.{fact_total}
use Rattle.feeder.specs.Records.{goal_bytes}
use Rattle.feeder.specs.Tables.{fact_below}
use Rattle.feeder.specs.Verdicts.{SuitGoal}
use Rattle.feeder.proofs.Known.{all_any, literals_known}
use Rattle.feeder.proofs.Steps.{part_tested}
use Rattle.feeder.proofs.reading.Reading.goal_of.Goals as goal

pub returns-in_err-literals : goal.returns-in_err-literals
returns-in_err-literals c =
    rw c.from_residual.ensures (λ g f. c.in_err-literals.ensures g.literals g.few (all_any g.literals) (sym f.same))

pub returns-in_err-goal : goal.returns-in_err-goal
returns-in_err-goal c =
    rw c.from_residual-in_err-goal.ensures
    (λ g f.
    let e : g.literals ≡ c.as_slice.result.now =
    literals_known g.literals c.in_ok-literals.literals (sym f.same ∙ sym c.in_ok-literals.ensures.0) ∙ sym c.as_slice.ensures.same
    in
    c.in_err-goal.ensures (subst SoundGoal e (goal_sound g)))

pub returns : goal.returns
returns c =
    let v = c.args.self.now.vocabulary in
    let test = fact_below (fact_total v) in
    let literals = c.in_ok-literals.literals in
    let g = c.in_ok-goal.goal in
    let made : g.literals ≡ literals = c.in_ok-goal.ensures ∙ c.as_slice.ensures.same in
    let asked : c.all_below.result ≡ list_all test g.literals =
    c.all_below.ensures ∙ ap (list_all test) c.as_slice-2.ensures.same ∙ ap (list_all test) (sym made)
    in
    rw c.then_some.ensures
    (part_tested (SuitGoal v) goal_bytes c.args.bytes.now c.all_below.result g
    (ap (flat_map literal_bytes) made ∙ c.in_ok-literals.ensures.0)
    (λ t. sym asked ∙ t)
    (λ k f.
    asked ∙ ap (list_all test) (made ∙ literals_known literals k.literals (c.in_ok-literals.ensures.0 ∙ f.same)) ∙ f.suits))
