-- The ground atoms of a move: each is one of the vocabulary, since its arguments are objects, so its fact is below 512.
use Rattle.std.specs.Prelude.{◌≡◌, ℕ, zero, suc, ◌+◌, ◌<◌, ◌≤◌, true, List, [], ◌∷◌, take, length, Some, None, Option, ◌==◌, nat_lt, slice_index_or}
use Rattle.std.proofs.Common.{sym, ◌∙◌, arith}
use Rattle.std.proofs.Math.Arith.{digits_lt}
use Rattle.std.specs.List.{list_all}
use Rattle.codec.proofs.Coding.{every_at}
use Rattle.plants.proofs.Proper.{all_weaker}
use Rattle.model.specs.declared.fact.Sign.{Sign}
use Rattle.model.specs.declared.term.Atom.{Atom}
use Rattle.model.specs.declared.term.Term.{Term}
use Rattle.model.specs.declared.term.Term.TheVariants.{Object, Variable}
use Rattle.model.specs.declared.vocabulary.Arity.{Arity}
use Rattle.model.specs.declared.vocabulary.Arity.TheVariants.{Zero, One, Two}
use Rattle.model.specs.declared.vocabulary.Vocabulary.{Vocabulary}
use Rattle.model.specs.Facts.{facts, facts_of}
use Rattle.model.specs.Numbering.{number_of, object_of, place}
use Rattle.model.specs.Vocabularies.{arity_at, atom_fits, term_blank, term_fits, terms_fit}
use Rattle.model.proofs.Naming.{arity_there, facts_more, fits_below}
use Rattle.plants.specs.declared.actions.ActionTable.{ActionTable}
use Rattle.plants.specs.declared.literal.LiftedLiteral.{LiftedLiteral}
use Rattle.plants.specs.Lifted.{blank_lifted, lifted_fits}
use Rattle.plants.specs.Operators.{blank_operator, operator_fits, operator_literals}
use Rattle.std.proofs.lemmas.List.Folds.{list_all-append}
use Rattle.std.proofs.lemmas.Bool.Decides.{nat_tests}
use Rattle.std.proofs.lemmas.Bool.{and_parts, false≢true}
use Rattle.strips.specs.Grounding.{argument_fits, first_argument, ground, ground_fits, ground_literal, object_under, operator_at, operator_number, second_argument}
use Rattle.strips.specs.Laws.{Makes}
use Rattle.strips.specs.Steps.{takes_both}

module _ (v : Vocabulary) (vars o r : ℕ) (a : argument_fits v.objects vars 0 o ≡ true) (b : argument_fits v.objects vars 1 r ≡ true) where
  term_ground : (t : Term) → term_fits v.objects vars t ≡ true → nat_lt (object_under o r t) v.objects ≡ true
  term_ground (Object x) e = e
  term_ground (Variable k) e = grind (arith, nat_tests)

  blank_ground : (t : Term) → term_blank t ≡ true → (object_under o r t == 0) ≡ true
  blank_ground (Object x) e = e
  blank_ground (Variable k) e = absurd (false≢true e)

  terms_ground : (p : Option Arity) (s t : Term) → terms_fit v.objects vars p s t ≡ true
      → terms_fit v.objects 0 p (Object (object_under o r s)) (Object (object_under o r t)) ≡ true
  terms_ground None s t e = e
  terms_ground (Some Zero) s t e = grind (arith, blank_ground)
  terms_ground (Some One) s t e = grind (arith, term_ground, blank_ground)
  terms_ground (Some Two) s t e = grind (arith, term_ground)

  atom_ground : (x : Atom) → atom_fits v vars x ≡ true → atom_fits v 0 (ground o r x) ≡ true
  atom_ground x e = terms_ground (arity_at v x.predicate) x.first x.second e

-- the place of a fact among those of its predicate
object_below : (n : ℕ) (t : Term) → term_fits n 0 t ≡ true → object_of t < n
object_below n (Object o) e = grind (arith, nat_tests)
object_below n (Variable k) e = grind (arith, nat_tests)

place_below : (n : ℕ) (a : Arity) (s t : Term) → 1 ≤ n → terms_fit n 0 (Some a) s t ≡ true → place n a (object_of s) (object_of t) < facts_of n a
place_below n Zero s t h e = omega arith
place_below n One s t h e = grind (arith, object_below)
place_below n Two s t h e =
    let p = and_parts (term_fits n 0 s) (term_fits n 0 t) e in
    digits_lt (object_below n s p.0) (object_below n t p.1)

facts_front : (n k : ℕ) (xs : List Arity) → facts n (take k xs) ≤ facts n xs
facts_front n zero xs = omega arith
facts_front n (suc k) [] = omega arith
facts_front n (suc k) (x ∷ xs) = omega (arith, facts_front n k xs)

-- the fact of an atom that fits is one of the vocabulary, so of the 512
pub fact_below : (v : Vocabulary) (a : Atom) → atom_fits v 0 a ≡ true → number_of v a < 512
fact_below v a e =
    let p = a.predicate in
    let h = fits_below v 0 a e in
    let arity = slice_index_or v.arities p Zero in
    let fits : terms_fit v.objects 0 (Some arity) a.first a.second ≡ true = rw (arity_there v p h) at e in
    let at = place_below v.objects arity a.first a.second v.low fits in
    let more = facts_more v.objects v.arities p h in
    let front = facts_front v.objects (p + 1) v.arities in
    omega (arith, v.bound)

pub ground_below : (t : ActionTable) (m : ℕ) (l : LiftedLiteral) → ground_fits t m l ≡ true → (ground_literal t m l).fact.number < 512
ground_below t m l e = fact_below t.vocabulary (ground (first_argument m) (second_argument m) l.atom) e

module _ (t : ActionTable) (m : ℕ) (h : operator_number m < length t.operators) where
  operator_there : operator_fits t.vocabulary (operator_at t m) ≡ true
  operator_there = every_at (operator_fits t.vocabulary) t.operators blank_operator (operator_number m) t.fits h

  module _ (fit : takes_both t m ≡ true) where
    -- the vocabulary has the ground atoms of all literals of a move's operator
    literals_ground : list_all (ground_fits t m) (operator_literals (operator_at t m)) ≡ true
    literals_ground =
        let op = operator_at t m in
        let n = t.vocabulary.objects in
        let o = first_argument m in
        let r = second_argument m in
        let p = and_parts (argument_fits n op.parameters 0 o) (argument_fits n op.parameters 1 r) fit in
        all_weaker (lifted_fits t.vocabulary op.parameters) (ground_fits t m)
        (λ l. atom_ground t.vocabulary op.parameters o r p.0 p.1 l.atom)
        (operator_literals op)
        operator_there

    parts_ground : (list_all (ground_fits t m) (operator_at t m).needs ≡ true) × (list_all (ground_fits t m) (operator_at t m).effects ≡ true)
    parts_ground =
        let op = operator_at t m in
        let p =
        and_parts (list_all (ground_fits t m) op.needs) (list_all (ground_fits t m) op.effects)
        (sym (list_all-append (ground_fits t m) op.needs op.effects) ∙ literals_ground)
        in
        (p.0, p.1)

    pub needs_ground : list_all (ground_fits t m) (operator_at t m).needs ≡ true
    needs_ground = parts_ground.0

    pub effects_ground : list_all (ground_fits t m) (operator_at t m).effects ≡ true
    effects_ground = parts_ground.1

    -- an effect is on one of the 512 facts
    pub made_below : (sign : Sign) (f : ℕ) → Makes t m sign f → f < 512
    made_below sign f p =
        let effects = (operator_at t m).effects in
        let fits = every_at (ground_fits t m) effects blank_lifted p.0 effects_ground p.1 in
        let low = ground_below t m (slice_index_or effects p.0 blank_lifted) fits in
        omega (arith, p.3)
