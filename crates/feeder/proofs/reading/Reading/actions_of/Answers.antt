-- The operators are the only ones that these bytes can be.
use Rattle.std.proofs.Common.{◌≡◌, [], sym, ap, ◌∙◌, subst, length}
use Rattle.std.specs.List.{flat_map}
use Rattle.std.proofs.lemmas.List.{append-nil}
use Rattle.model.specs.declared.vocabulary.Vocabulary.{Vocabulary}
use Rattle.plants.proofs.Sound.{actions_sound}
use Rattle.plants.specs.Actions.{SoundActions}
use Rattle.plants.specs.Operators.{operator_bytes}
use Rattle.feeder.proofs.Plants.{as_actions, operators_hold}
use Rattle.feeder.proofs.Shapes.{operators_known}
use Rattle.feeder.proofs.reading.Reading.actions_of.Goals as goal

pub returns-in_err-operators : goal.returns-in_err-operators
returns-in_err-operators c =
    let r = c.args.self.now in
    rw c.from_residual.ensures
    (λ p f.
    let a = as_actions r.header r.vocabulary _ p c.requires f in
    let t = a.0 in
    c.in_err-operators.ensures t.operators a.2 t.few (operators_hold t) (sym a.4))

pub returns-in_err-table : goal.returns-in_err-table
returns-in_err-table c =
    let r = c.args.self.now in
    let read = c.in_ok-operators in
    rw c.from_residual-in_err-table.ensures
    (λ p f.
    let a = as_actions r.header r.vocabulary _ p c.requires f in
    let t = a.0 in
    let e : t.operators ≡ c.as_slice.result.now =
    (operators_known t.operators read.operators [] (a.2 ∙ sym read.ensures.0) (operators_hold t) read.ensures.2
    (append-nil (flat_map operator_bytes t.operators) ∙ sym a.4 ∙ sym read.ensures.1)).0
    ∙ sym c.as_slice.ensures.same
    in
    c.in_err-table.ensures
    (subst (SoundActions r.vocabulary) e (subst (λ (v : Vocabulary). SoundActions v t.operators) a.3 (actions_sound t))))

pub returns : goal.returns
returns c =
    let read = c.in_ok-operators in
    let made = c.in_ok-table.ensures in
    let e = made.1 ∙ c.as_slice.ensures.same in
    record {
      suits = record { kind = sym c.requires; rows = ap length e ∙ read.ensures.0; words = made.0 };
      same = sym read.ensures.1 ∙ ap (flat_map operator_bytes) (sym e);
    }
