-- Assignments: which objects the variables of a formula stand for.
use Rattle.std.specs.Prelude.{ℕ, cond, Some, None, Option, ◌==◌}
use Rattle.model.specs.declared.term.Atom.{Atom}
use Rattle.model.specs.declared.term.Term.{Term}
use Rattle.model.specs.declared.term.Term.TheVariants.{Object, Variable}

-- the object that each variable stands for, if any
abbrev pub Assignment : Type 0
Assignment = ℕ → Option ℕ

-- no variable stands for anything
abbrev pub unassigned : Assignment
unassigned = λ v. None

-- the same, but variable x stands for object o
abbrev pub bind : ℕ → ℕ → Assignment → Assignment
bind x o env = λ v. cond (v == x) (Some o) (env v)

-- the same, but variable x stands for nothing
abbrev pub unbind : ℕ → Assignment → Assignment
unbind x env = λ v. cond (v == x) None (env v)

-- an object, or object 0 where there is none
abbrev pub or_zero : Option ℕ → ℕ
or_zero None = 0
or_zero (Some o) = o

-- the object that a term stands for
abbrev pub object_under : Assignment → Term → ℕ
object_under env (Object o) = o
object_under env (Variable v) = or_zero (env v)

-- an atom with objects for all its variables
abbrev pub ground : Assignment → Atom → Atom
ground env a = record { predicate = a.predicate; first = Object (object_under env a.first); second = Object (object_under env a.second) }

-- a variable, or the object that it stands for
abbrev pub put_variable : ℕ → Option ℕ → Term
put_variable v None = Variable v
put_variable v (Some o) = Object o

-- a term with objects put in for the variables that stand for some
abbrev pub put_term : Assignment → Term → Term
put_term env (Object o) = Object o
put_term env (Variable v) = put_variable v (env v)

-- an atom with objects put in for the variables that stand for some
abbrev pub put_atom : Assignment → Atom → Atom
put_atom env a = record { predicate = a.predicate; first = put_term env a.first; second = put_term env a.second }
