-- The facts read have just the numbers of a picture whose bytes these are.
use Rattle.std.proofs.Common.{◌≡◌, ℕ, Bool, List, sym, ap, ◌∙◌, subst, arith}
use Rattle.std.specs.List.{flat_map, list_all}
use Rattle.model.proofs.Pictures.{members_few, members_sound}
use Rattle.model.specs.Ascents.{SoundFacts, fact_numbers}
use Rattle.model.specs.declared.fact.Fact.{Fact}
use Rattle.model.specs.Literals.{fact_bytes, word_bytes}
use Rattle.model.specs.Pictures.{members}
use Rattle.model.specs.Vocabularies.{fact_total}
use Rattle.feeder.specs.Records.{picture_bytes}
use Rattle.feeder.specs.Tables.{may_be_first}
use Rattle.feeder.specs.Verdicts.{SuitFirst}
use Rattle.feeder.proofs.Known.{all_any, all_numbers, as_facts, as_facts_codes, as_facts_few, fact_codes, words_list_known}
use Rattle.feeder.proofs.Steps.{part_tested}
use Rattle.feeder.proofs.reading.Reading.first_of.Goals as goal

same_numbers : (facts : List Fact) (ns bytes : List ℕ) → flat_map fact_bytes facts ≡ bytes → bytes ≡ flat_map word_bytes ns → fact_numbers facts ≡ ns
same_numbers facts ns bytes e f = words_list_known (fact_numbers facts) ns (sym (fact_codes facts) ∙ e ∙ f)

pub returns-in_err-facts : goal.returns-in_err-facts
returns-in_err-facts c =
    rw c.from_residual.ensures
    (λ p f.
    let xs = as_facts (members p) in
    c.in_err-facts.ensures xs (omega (arith, as_facts_few (members p), members_few p)) (all_any xs) (as_facts_codes (members p) ∙ sym f.same))

pub returns-in_err-picture : goal.returns-in_err-picture
returns-in_err-picture c =
    rw c.from_residual-in_err-picture.ensures
    (λ p f.
    let e : members p ≡ fact_numbers c.as_slice.result.now =
    sym (same_numbers c.in_ok-facts.facts (members p) _ c.in_ok-facts.ensures.0 f.same) ∙ ap fact_numbers (sym c.as_slice.ensures.same)
    in
    c.in_err-picture.ensures (subst SoundFacts e (members_sound p)))

pub returns : goal.returns
returns c =
    let h = c.args.self.now.header in
    let v = c.args.self.now.vocabulary in
    let test : ℕ → Bool = may_be_first h.plant (fact_total v) h.objects h.rows in
    let facts = c.in_ok-facts.facts in
    let p = c.in_ok-picture.picture in
    let made : members p ≡ fact_numbers facts = c.in_ok-picture.ensures ∙ ap fact_numbers c.as_slice.ensures.same in
    let asked : c.all_may_be_first.result ≡ list_all test (members p) =
    c.all_may_be_first.ensures
    ∙ ap (list_all (λ (f : Fact). test f.number)) c.as_slice-2.ensures.same
    ∙ sym (all_numbers test facts)
    ∙ ap (list_all test) (sym made)
    in
    rw c.then_some.ensures
    (part_tested (SuitFirst h v) picture_bytes c.args.bytes.now c.all_may_be_first.result p
    (ap (flat_map word_bytes) made ∙ sym (fact_codes facts) ∙ c.in_ok-facts.ensures.0)
    (λ t. sym asked ∙ t)
    (λ q f.
    asked ∙ ap (list_all test) (made ∙ same_numbers facts (members q) _ c.in_ok-facts.ensures.0 f.same) ∙ f.suits))
