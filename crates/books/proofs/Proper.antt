-- Nodes that fit a vocabulary can be held by a record: a vocabulary has at most 16 objects, and an unused term is object 0.
use Rattle.std.proofs.Common.{◌≡◌, ℕ, ◌≤◌, true, ◌&&◌, List, get_or, Some, None, Option, refl, arith}
use Rattle.std.proofs.lemmas.List.Recursion.{and_from_places}
use Rattle.std.proofs.lemmas.Bool.{eqb-true, false≢true, lt-ltb, ltb-true}
use Rattle.std.specs.List.{list_all}
use Rattle.model.specs.declared.term.Term.{Term}
use Rattle.model.specs.declared.term.Term.TheVariants.{Object, Variable}
use Rattle.model.specs.declared.vocabulary.Arity.{Arity}
use Rattle.model.specs.declared.vocabulary.Arity.TheVariants.{Zero, One, Two}
use Rattle.model.specs.declared.vocabulary.Vocabulary.{Vocabulary}
use Rattle.model.specs.Atoms.{term_proper}
use Rattle.model.specs.Vocabularies.{arity_at, term_blank, term_fits, terms_fit}
use Rattle.books.specs.declared.node.Node.{Node}
use Rattle.books.specs.declared.node.Node.TheVariants.{True, Atom, Goal, Same}
use Rattle.books.specs.Nodes.{node_proper}
use Rattle.books.specs.Rules.{Fits, SoundFormula, node_fits}

fitting_term : (n : ℕ) (t : Term) → n ≤ 16 → term_fits n 4 t ≡ true → term_proper t ≡ true
fitting_term n (Object o) h e = lt-ltb o 16 (omega (arith, ltb-true o n e))
fitting_term n (Variable k) h e = e

blank_term : (t : Term) → term_blank t ≡ true → term_proper t ≡ true
blank_term (Object o) e = lt-ltb o 16 (omega (arith, eqb-true o 0 e))
blank_term (Variable k) e = absurd (false≢true e)

fitting_terms : (n : ℕ) (k : Option Arity) (s t : Term) → n ≤ 16 → terms_fit n 4 k s t ≡ true → (term_proper s && term_proper t) ≡ true
fitting_terms n None s t h e = absurd (false≢true e)
fitting_terms n (Some Zero) s t h e = grind (arith, blank_term)
fitting_terms n (Some One) s t h e = grind (arith, blank_term, fitting_term)
fitting_terms n (Some Two) s t h e = grind (arith, fitting_term)

fitting_node : (v : Vocabulary) (nodes : List Node) (n : Node) → node_fits v nodes n ≡ true → node_proper n ≡ true
fitting_node v nodes n e =
    elim n as (λ m. node_fits v nodes m ≡ true → node_proper m ≡ true) [
      | Atom a ↦ λ t. fitting_terms v.objects (arity_at v a.predicate) a.first a.second v.high t
      | Goal a ↦ λ t. fitting_terms v.objects (arity_at v a.predicate) a.first a.second v.high t
      | Same s u ↦ λ t. fitting_terms v.objects (Some Two) s u v.high t
      | _ ↦ λ t. grind arith
    ]
    e

pub fitting_proper : (v : Vocabulary) (nodes : List Node) → Fits v nodes → list_all node_proper nodes ≡ true
fitting_proper v nodes fits =
    and_from_places (list_all node_proper) node_proper refl (λ _ _. refl) nodes True
    (λ i h. fitting_node v nodes (get_or nodes i True) (fits i h))

pub formula_proper : (v : Vocabulary) (nodes : List Node) → SoundFormula v nodes → list_all node_proper nodes ≡ true
formula_proper v nodes s = fitting_proper v nodes s.fits
