-- Grounding: which operator and arguments a move has, and which facts the operator's literals then speak of.
use Rattle.std.specs.Prelude.{ℕ, ◌/◌, ◌%◌, Bool, cond, ◌==◌, nat_lt, slice_index_or}
use Rattle.model.specs.declared.fact.Literal.{Literal}
use Rattle.model.specs.declared.term.Atom.{Atom}
use Rattle.model.specs.declared.term.Term.{Term}
use Rattle.model.specs.declared.term.Term.TheVariants.{Object, Variable}
use Rattle.model.specs.Numbering.{number_of}
use Rattle.model.specs.Vocabularies.{atom_fits}
use Rattle.plants.specs.declared.actions.ActionTable.{ActionTable}
use Rattle.plants.specs.declared.literal.LiftedLiteral.{LiftedLiteral}
use Rattle.plants.specs.declared.operator.Operator.{Operator}
use Rattle.plants.specs.Operators.{blank_operator}

-- the number of a move's operator: a move is numbered operator * 256 + first argument * 16 + second argument
abbrev pub operator_number : ℕ → ℕ
operator_number m = m / 256

-- the first argument of a move
abbrev pub first_argument : ℕ → ℕ
first_argument m = m / 16 % 16

-- the second argument of a move
abbrev pub second_argument : ℕ → ℕ
second_argument m = m % 16

-- the operator of a move
abbrev pub operator_at : ActionTable → ℕ → Operator
operator_at t m = slice_index_or t.operators (operator_number m) blank_operator

-- the object that a term stands for, where the parameters stand for o and r
abbrev pub object_under : ℕ → ℕ → Term → ℕ
object_under o r (Object x) = x
object_under o r (Variable k) = cond (k == 0) o r

-- an atom with objects in place of the parameters
abbrev pub ground : ℕ → ℕ → Atom → Atom
ground o r a = record { predicate = a.predicate; first = Object (object_under o r a.first); second = Object (object_under o r a.second) }

-- a literal of a move's operator, with a fact in place of its atom
abbrev pub ground_literal : ActionTable → ℕ → LiftedLiteral → Literal
ground_literal t m l = record { sign = l.sign; fact = record { number = number_of t.vocabulary (ground (first_argument m) (second_argument m) l.atom) } }

-- whether the vocabulary has its ground atom
abbrev pub ground_fits : ActionTable → ℕ → LiftedLiteral → Bool
ground_fits t m l = atom_fits t.vocabulary 0 (ground (first_argument m) (second_argument m) l.atom)

-- whether an operator with some parameters takes x for parameter i, over n objects: an object if it has this parameter,
-- and 0 if it lacks it
abbrev pub argument_fits : ℕ → ℕ → ℕ → ℕ → Bool
argument_fits n parameters i x = cond (nat_lt i parameters) (nat_lt x n) (x == 0)
