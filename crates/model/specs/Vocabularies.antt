-- Vocabularies: what one is made from, and which atoms it has.
use Rattle.std.specs.Prelude.{◌≡◌, ℕ, Bool, false, cond, ◌&&◌, List, length, Some, None, Option, ◌==◌, nat_lt, slice_index_or}
use Rattle.model.specs.declared.term.Atom.{Atom}
use Rattle.model.specs.declared.term.Term.{Term}
use Rattle.model.specs.declared.term.Term.TheVariants.{Object, Variable}
use Rattle.model.specs.declared.vocabulary.Arity.{Arity}
use Rattle.model.specs.declared.vocabulary.Arity.TheVariants.{Zero, One, Two}
use Rattle.model.specs.declared.vocabulary.Vocabulary.{Vocabulary}
use Rattle.model.specs.Facts.{SoundVocabulary, facts}

-- the arities of a vocabulary's predicates, in their order
abbrev pub arity_list : Vocabulary → List Arity
arity_list v = v.arities

-- how many facts a vocabulary has
abbrev pub fact_total : Vocabulary → ℕ
fact_total v = facts v.objects (arity_list v)

-- what making a vocabulary answers: one of these objects and arities, or none where they are unsound
abbrev pub VocabularyMade : ℕ → List Arity → Option Vocabulary → Type 0
VocabularyMade n arities (Some v) = (v.objects ≡ n) × (arity_list v ≡ arities)
VocabularyMade n arities None = SoundVocabulary n arities → ⊥

-- the arity of a predicate, if there is such a predicate
abbrev pub arity_at : Vocabulary → ℕ → Option Arity
arity_at v p = cond (nat_lt p (length v.arities)) (Some (slice_index_or v.arities p Zero)) None

-- a term in use: one of the n objects or one of the variables at hand
abbrev pub term_fits : ℕ → ℕ → Term → Bool
term_fits n vars (Object o) = nat_lt o n
term_fits n vars (Variable k) = nat_lt k vars

-- a term that is not in use is object 0
abbrev pub term_blank : Term → Bool
term_blank (Object o) = o == 0
term_blank (Variable k) = false

-- the terms of a predicate of some arity
abbrev pub terms_fit : ℕ → ℕ → Option Arity → Term → Term → Bool
terms_fit n vars None s t = false
terms_fit n vars (Some Zero) s t = term_blank s && term_blank t
terms_fit n vars (Some One) s t = term_fits n vars s && term_blank t
terms_fit n vars (Some Two) s t = term_fits n vars s && term_fits n vars t

-- an atom of the vocabulary: its predicate exists, and so do the terms that the predicate takes
abbrev pub atom_fits : Vocabulary → ℕ → Atom → Bool
atom_fits v vars a = terms_fit v.objects vars (arity_at v a.predicate) a.first a.second
