-- Naming facts: the predicate of an atom that fits exists, and its first fact lies behind those of the others.
use Rattle.std.proofs.Common.{◌≡◌, ℕ, ◌+◌, ◌<◌, true, ltb, List, length, get_or, take, Some, None, Option, sym, ap, ◌∙◌, ⊎_elim, arith}
use Rattle.std.proofs.lemmas.List.{take_more}
use Rattle.std.proofs.lemmas.Bool.{and_parts, cases_Bool, cond-false, cond-true, false≢true, lt-ltb, ltb-true}
use Rattle.model.specs.declared.term.Atom.{Atom}
use Rattle.model.specs.declared.term.Term.{Term}
use Rattle.model.specs.declared.term.Term.TheVariants.{Object, Variable}
use Rattle.model.specs.declared.vocabulary.Arity.{Arity}
use Rattle.model.specs.declared.vocabulary.Arity.TheVariants.{Zero, One, Two}
use Rattle.model.specs.declared.vocabulary.Vocabulary.{Vocabulary}
use Rattle.model.specs.Facts.{facts, facts_of}
use Rattle.model.specs.Numbering.{object_in, object_of}
use Rattle.model.specs.Vocabularies.{arity_at, atom_fits, term_blank, term_fits, terms_fit}
use Rattle.model.proofs.Counting.{facts_push}

pub fits_below : (v : Vocabulary) (vars : ℕ) (a : Atom) → atom_fits v vars a ≡ true → a.predicate < length v.arities
fits_below v vars a e =
    ⊎_elim (λ h. ltb-true a.predicate (length v.arities) h)
    (λ h.
    let n : arity_at v a.predicate ≡ None = cond-false (ltb a.predicate (length v.arities)) _ _ h in
    absurd (false≢true (ap (λ (o : Option Arity). terms_fit v.objects vars o a.first a.second) (sym n) ∙ e)))
    (cases_Bool (ltb a.predicate (length v.arities)))

pub arity_there : (v : Vocabulary) (p : ℕ) → p < length v.arities → arity_at v p ≡ Some (get_or v.arities p Zero)
arity_there v p h = cond-true (ltb p (length v.arities)) _ _ (lt-ltb p (length v.arities) h)

-- one predicate more
pub facts_more : (n : ℕ) (arities : List Arity) (p : ℕ) → p < length arities
    → facts n (take (p + 1) arities) ≡ facts n (take p arities) + facts_of n (get_or arities p Zero)
facts_more n arities p h = ap (facts n) (take_more arities p Zero h) ∙ facts_push n (take p arities) (get_or arities p Zero)

-- a term that fits with no variable at hand, and one that is not in use, is an object
fits_object : (n : ℕ) (t : Term) → term_fits n 0 t ≡ true → object_in t ≡ None → ⊥
fits_object n (Object o) f e = cc
fits_object n (Variable k) f e = omega (arith, ltb-true k 0 f)

blank_object : (t : Term) → term_blank t ≡ true → object_in t ≡ None → ⊥
blank_object (Object o) f e = cc
blank_object (Variable k) f e = false≢true f

-- an atom that fits with no variable at hand has objects only
pub terms_objects : (n : ℕ) (a : Option Arity) (s t : Term) → terms_fit n 0 a s t ≡ true
    → (object_in s ≡ None → ⊥) × (object_in t ≡ None → ⊥)
terms_objects n None s t e = absurd (false≢true e)
terms_objects n (Some Zero) s t e = (blank_object s (and_parts _ _ e).0, blank_object t (and_parts _ _ e).1)
terms_objects n (Some One) s t e = (fits_object n s (and_parts _ _ e).0, blank_object t (and_parts _ _ e).1)
terms_objects n (Some Two) s t e = (fits_object n s (and_parts _ _ e).0, fits_object n t (and_parts _ _ e).1)

pub object_found : (t : Term) (o : ℕ) → Some o ≡ object_in t → o ≡ object_of t
object_found (Object k) o e = cc
object_found (Variable k) o e = cc
