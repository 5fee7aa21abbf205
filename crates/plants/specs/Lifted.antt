-- Lifted literals: literals whose atoms may speak of an operator's parameters, and their bytes in a record.
use Rattle.std.specs.Prelude.{ℕ, Bool, List, ◌∷◌}
use Rattle.model.specs.declared.fact.Sign.TheVariants.{Negative}
use Rattle.model.specs.declared.term.Term.TheVariants.{Object}
use Rattle.model.specs.declared.vocabulary.Vocabulary.{Vocabulary}
use Rattle.model.specs.Atoms.{atom_bytes, atom_proper}
use Rattle.model.specs.Literals.{sign_byte}
use Rattle.model.specs.Vocabularies.{atom_fits}
use Rattle.plants.specs.declared.literal.LiftedLiteral.{LiftedLiteral}

-- a literal's bytes: its sign, then its atom
abbrev pub lifted_bytes : LiftedLiteral → List ℕ
lifted_bytes l = sign_byte l.sign ∷ atom_bytes l.atom

-- the literals that a record can hold
abbrev pub lifted_proper : LiftedLiteral → Bool
lifted_proper l = atom_proper l.atom

-- a literal of the vocabulary, with some parameters at hand
abbrev pub lifted_fits : Vocabulary → ℕ → LiftedLiteral → Bool
lifted_fits v parameters l = atom_fits v parameters l.atom

-- what stands in a place for a literal that is not in use
abbrev pub blank_lifted : LiftedLiteral
blank_lifted = record { sign = Negative; atom = record { predicate = 0; first = Object 0; second = Object 0 } }
