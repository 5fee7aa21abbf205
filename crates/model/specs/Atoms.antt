-- Atoms: predicates applied to terms, their bytes, and which of them a vocabulary has.
use Rattle.std.specs.Prelude.{ℕ, ◌+◌, Bool, ◌&&◌, List, [], ◌∷◌, nat_lt}
use Rattle.model.specs.declared.term.Atom.{Atom}
use Rattle.model.specs.declared.term.Term.{Term}
use Rattle.model.specs.declared.term.Term.TheVariants.{Object, Variable}

-- the byte of a term: objects from 0, variables from 16
abbrev pub term_byte : Term → ℕ
term_byte (Object o) = o
term_byte (Variable v) = 16 + v

-- the terms that a record can hold
abbrev pub term_proper : Term → Bool
term_proper (Object o) = nat_lt o 16
term_proper (Variable v) = nat_lt v 4

-- an atom's bytes: predicate and two terms
abbrev pub atom_bytes : Atom → List ℕ
atom_bytes a = a.predicate ∷ (term_byte a.first ∷ (term_byte a.second ∷ []))

abbrev pub atom_proper : Atom → Bool
atom_proper a = term_proper a.first && term_proper a.second
