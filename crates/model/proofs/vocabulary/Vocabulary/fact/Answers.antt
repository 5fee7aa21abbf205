use Rattle.std.proofs.Common.{◌≡◌, ℕ, ◌+◌, ◌-◌, true, List, get_or, take, Some, sym, ap, ◌∙◌, arith}
use native.Mathlib.Nat.{sub-zero}
use Rattle.std.proofs.lemmas.Bool.{cond-true}
use Rattle.model.specs.declared.vocabulary.Arity.{Arity}
use Rattle.model.specs.declared.vocabulary.Arity.TheVariants.{Zero}
use Rattle.model.specs.Facts.{facts}
use Rattle.model.specs.Numbering.{number_of, object_of, place}
use Rattle.model.specs.Vocabularies.{arity_at, atom_fits}
use Rattle.model.proofs.Naming.{fits_below, object_found, terms_objects}
use Rattle.model.proofs.vocabulary.Vocabulary.fact.Goals as goal

pub returns-in_err-object : goal.returns-in_err-object
returns-in_err-object c =
    let v = c.args.self.now in
    let a = c.args.atom in
    let both = terms_objects v.objects (arity_at v a.predicate) a.first a.second (sym c.has.ensures ∙ c.if-not-has.false) in
    absurd (both.0 (sym c.in_err-object.ensures))

pub returns-in_err-object-2 : goal.returns-in_err-object-2
returns-in_err-object-2 c =
    let v = c.args.self.now in
    let a = c.args.atom in
    let both = terms_objects v.objects (arity_at v a.predicate) a.first a.second (sym c.has.ensures ∙ c.if-not-has.false) in
    absurd (both.1 (sym c.in_err-object-2.ensures))

pub returns : goal.returns
returns c =
    let v = c.args.self.now in
    let a = c.args.atom in
    let p = a.predicate in
    let fits : atom_fits v 0 a ≡ true = sym c.has.ensures ∙ c.if-not-has.false in
    let below = fits_below v 0 a fits in
    let o = c.in_ok-object.field-0 in
    let r = c.in_ok-object-2.field-0 in
    let objects : place v.objects (get_or v.arities p Zero) o r ≡ place v.objects (get_or v.arities p Zero) (object_of a.first) (object_of a.second) =
    ap (λ (k : ℕ). place v.objects (get_or v.arities p Zero) k r) (object_found a.first o c.in_ok-object.ensures)
    ∙ ap (λ (k : ℕ). place v.objects (get_or v.arities p Zero) (object_of a.first) k) (object_found a.second r c.in_ok-object-2.ensures)
    in
    let all = c.as_slice-arities.ensures.same in
    let first : c.total-first.result ≡ facts v.objects (take p v.arities) =
    c.total-first.ensures.sum
    ∙ ap (λ (xs : List Arity). facts v.objects (take (p - 0) xs)) all
    ∙ ap (λ (k : ℕ). facts v.objects (take k v.arities)) (sub-zero p)
    in
    let at : c.place_of-at.result ≡ place v.objects (get_or v.arities p Zero) o r =
    c.place_of-at.ensures.place ∙ ap (λ (xs : List Arity). place v.objects (get_or xs p Zero) o r) all
    in
    let number : c.total-first.result + c.place_of-at.result ≡ number_of v a =
    omega (arith, first, at ∙ objects)
    in
    ap (λ (n : ℕ). Some (record { number = n })) number ∙ sym (cond-true (atom_fits v 0 a) _ _ fits)
