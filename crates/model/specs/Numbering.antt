-- Numbering: which number the fact of an atom has.
use Rattle.std.specs.Prelude.{◌≡◌, ℕ, ◌+◌, ◌*◌, ◌≤◌, cond, take, Some, None, Option, slice_index_or}
use Rattle.model.specs.declared.fact.Fact.{Fact}
use Rattle.model.specs.declared.term.Atom.{Atom}
use Rattle.model.specs.declared.term.Term.{Term}
use Rattle.model.specs.declared.term.Term.TheVariants.{Object, Variable}
use Rattle.model.specs.declared.vocabulary.Arity.{Arity}
use Rattle.model.specs.declared.vocabulary.Arity.TheVariants.{Zero, One, Two}
use Rattle.model.specs.declared.vocabulary.Vocabulary.{Vocabulary}
use Rattle.model.specs.Facts.{facts}
use Rattle.model.specs.Vocabularies.{arity_list, atom_fits, fact_total}

-- the first fact of a predicate: behind all facts of the predicates before it
abbrev pub first_fact : Vocabulary → ℕ → ℕ
first_fact v p = facts v.objects (take p (arity_list v))

-- the place of a fact among those of its predicate, over n objects: of no object, of o, of o and r
abbrev pub place : ℕ → Arity → ℕ → ℕ → ℕ
place n Zero o r = 0
place n One o r = o
place n Two o r = o * n + r

-- the object of a term, if it is one
abbrev pub object_in : Term → Option ℕ
object_in (Object o) = Some o
object_in (Variable k) = None

-- the object of a term that is one
abbrev pub object_of : Term → ℕ
object_of (Object o) = o
object_of (Variable k) = 0

-- the number of the fact of an atom
abbrev pub number_of : Vocabulary → Atom → ℕ
number_of v a = first_fact v a.predicate + place v.objects (slice_index_or v.arities a.predicate Zero) (object_of a.first) (object_of a.second)

-- the fact of an atom of the vocabulary that has no variable, if it is one
abbrev pub fact_of : Vocabulary → Atom → Option Fact
fact_of v a = cond (atom_fits v 0 a) (Some (record { number = number_of v a })) None

-- what asking for a fact's atom answers: an atom that has this fact, or none where there is no such fact
abbrev pub AtomFound : Vocabulary → Fact → Option Atom → Type 0
AtomFound v f (Some a) = fact_of v a ≡ Some f
AtomFound v f None = fact_total v ≤ f.number
