-- The arities are the only ones that these bytes can be.
use Rattle.std.proofs.Common.{◌≡◌, List, [], ◌∷◌, sym, ap, ◌∙◌, subst}
use Rattle.std.specs.List.{flat_map}
use Rattle.model.specs.declared.vocabulary.Arity.{Arity}
use Rattle.model.specs.Facts.{SoundVocabulary, arity_byte}
use Rattle.model.proofs.Vocabularies.{vocabulary_sound}
use Rattle.feeder.specs.Records.{arity_bytes}
use Rattle.feeder.specs.Verdicts.{KindWords, SuitWords}
use Rattle.feeder.proofs.Known.{all_any, arities_known}
use Rattle.feeder.proofs.Steps.{part_tested}
use Rattle.feeder.proofs.words.words_of.Goals as goal

pub returns-in_err-arities : goal.returns-in_err-arities
returns-in_err-arities c =
    rw c.from_residual.ensures (λ v f. c.in_err-arities.ensures v.arities v.few (all_any v.arities) (sym f.same))

pub returns-in_err-vocabulary : goal.returns-in_err-vocabulary
returns-in_err-vocabulary c =
    let read = c.in_ok-arities in
    rw c.from_residual-in_err-vocabulary.ensures
    (λ v f.
    let e : v.arities ≡ c.as_slice.result.now =
    arities_known v.arities read.arities (sym f.same ∙ sym read.ensures.0) ∙ sym c.as_slice.ensures.same
    in
    c.in_err-vocabulary.ensures
    (subst (λ (xs : List Arity). SoundVocabulary c.args.header.now.objects xs) e
    (rw (← f.suits.objects) (vocabulary_sound v))))

pub returns : goal.returns
returns c =
    let h = c.args.header.now in
    let read = c.in_ok-arities in
    let v = c.in_ok-vocabulary.vocabulary in
    let e : v.arities ≡ read.arities = c.in_ok-vocabulary.ensures.1 ∙ c.as_slice.ensures.same in
    rw c.then_some.ensures
    (part_tested (SuitWords h) arity_bytes c.args.bytes.now c.suits.result v
    (ap (flat_map (λ (a : Arity). arity_byte a ∷ [])) e ∙ read.ensures.0)
    (λ t. record { objects = c.in_ok-vocabulary.ensures.0; kind = c.suits.ensures.0 t })
    (λ w f.
    c.suits.ensures.1
    (subst (λ (xs : List Arity). KindWords h.plant xs)
    (arities_known w.arities v.arities (sym f.same ∙ sym read.ensures.0 ∙ ap (flat_map (λ (a : Arity). arity_byte a ∷ [])) (sym e)))
    f.suits.kind)))
