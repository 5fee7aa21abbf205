-- What a vocabulary has, a record can hold: at most 16 objects and 2 parameters fit the byte of a term.
use Rattle.std.proofs.Common.{◌≡◌, ℕ, ◌≤◌, Bool, true, ◌&&◌, List, Some, None, Option, arith}
use Rattle.std.specs.List.{list_all}
use Rattle.model.specs.declared.term.Term.{Term}
use Rattle.model.specs.declared.term.Term.TheVariants.{Object, Variable}
use Rattle.model.specs.declared.vocabulary.Arity.{Arity}
use Rattle.model.specs.declared.vocabulary.Arity.TheVariants.{Zero, One, Two}
use Rattle.model.specs.declared.vocabulary.Vocabulary.{Vocabulary}
use Rattle.model.specs.Atoms.{term_proper}
use Rattle.model.specs.Vocabularies.{arity_at, term_blank, term_fits, terms_fit}
use Rattle.std.proofs.lemmas.List.Sums.{AllPass-from_list_all, list_all-from_AllPass}
use Rattle.std.proofs.lemmas.List.Elements.{All-weaker}
use Rattle.std.proofs.lemmas.Bool.{and_from, and_parts, eqb-true, false≢true, lt-ltb, ltb-true}
use Rattle.plants.specs.declared.operator.Operator.{Operator}
use Rattle.plants.specs.Lifted.{lifted_fits, lifted_proper}
use Rattle.plants.specs.Operators.{operator_fits, operator_literals}

term_held : (n vars : ℕ) (t : Term) → n ≤ 16 → vars ≤ 4 → term_fits n vars t ≡ true → term_proper t ≡ true
term_held n vars (Object o) h k e = lt-ltb o 16 (omega (arith, ltb-true o n e))
term_held n vars (Variable v) h k e = lt-ltb v 4 (omega (arith, ltb-true v vars e))

blank_held : (t : Term) → term_blank t ≡ true → term_proper t ≡ true
blank_held (Object o) e = lt-ltb o 16 (omega (arith, eqb-true o 0 e))
blank_held (Variable v) e = absurd (false≢true e)

terms_held : (n vars : ℕ) (a : Option Arity) (s t : Term) → n ≤ 16 → vars ≤ 4 → terms_fit n vars a s t ≡ true → (term_proper s && term_proper t) ≡ true
terms_held n vars None s t h k e = absurd (false≢true e)
terms_held n vars (Some Zero) s t h k e =
    let p = and_parts (term_blank s) (term_blank t) e in
    and_from (term_proper s) (term_proper t) (blank_held s p.0) (blank_held t p.1)
terms_held n vars (Some One) s t h k e =
    let p = and_parts (term_fits n vars s) (term_blank t) e in
    and_from (term_proper s) (term_proper t) (term_held n vars s h k p.0) (blank_held t p.1)
terms_held n vars (Some Two) s t h k e =
    let p = and_parts (term_fits n vars s) (term_fits n vars t) e in
    and_from (term_proper s) (term_proper t) (term_held n vars s h k p.0) (term_held n vars t h k p.1)

-- what passes a test passes one that asks less
pub all_weaker : {A : Type 0} (test weaker : A → Bool) → ((x : A) → test x ≡ true → weaker x ≡ true)
    → (xs : List A) → list_all test xs ≡ true → list_all weaker xs ≡ true
all_weaker test weaker w xs e =
    list_all-from_AllPass weaker xs (All-weaker (λ x. test x ≡ true) (λ x. weaker x ≡ true) w xs (AllPass-from_list_all test xs e))

-- the literals of an operator of the vocabulary can be held by a record
pub operator_proper : (v : Vocabulary) (op : Operator) → operator_fits v op ≡ true → list_all lifted_proper (operator_literals op) ≡ true
operator_proper v op =
    all_weaker (lifted_fits v op.parameters) lifted_proper
    (λ l. terms_held v.objects op.parameters (arity_at v l.atom.predicate) l.atom.first l.atom.second v.high (omega arith))
    (operator_literals op)
