-- Assignments one over the other: objects put in first, and then those of a second assignment.
use Rattle.std.proofs.Common.{rules}
use Rattle.std.proofs.Common.{◌≡◌, ℕ, Bool, true, false, cond, eqb, Some, None, Option, refl}
use mathlib.Core.Path.{fun_ext}
use Rattle.model.specs.declared.term.Atom.{Atom}
use Rattle.model.specs.declared.term.Term.{Term}
use Rattle.model.specs.declared.term.Term.TheVariants.{Object, Variable}
use Rattle.ltl.specs.Assignments.{Assignment, bind, ground, object_under, or_zero, put_atom, put_term, put_variable, unassigned, unbind}

-- the first that is there
abbrev pub first_of : Option ℕ → Option ℕ → Option ℕ
first_of None b = b
first_of (Some o) b = Some o

abbrev pub over : Assignment → Assignment → Assignment
over env outer = λ v. first_of (env v) (outer v)

pub over_unassigned : (env : Assignment) → over env unassigned ≡ env
over_unassigned env = fun_ext (λ v. at (env v))
  where
    at : (o : Option ℕ) → first_of o None ≡ o
    at None = refl
    at (Some o) = refl

-- a quantifier's variable is its own
pub over_bind : (env outer : Assignment) (x o : ℕ) → over (unbind x env) (bind x o outer) ≡ bind x o (over env outer)
over_bind env outer x o = fun_ext (λ v. at v (eqb v x))
  where
    at : (v : ℕ) (b : Bool) → first_of (cond b None (env v)) (cond b (Some o) (outer v)) ≡ cond b (Some o) (first_of (env v) (outer v))
    at v true = refl
    at v false = refl

pub over_unbind : (env outer : Assignment) (x : ℕ) → over (unbind x env) (unbind x outer) ≡ unbind x (over env outer)
over_unbind env outer x = fun_ext (λ v. at v (eqb v x))
  where
    at : (v : ℕ) (b : Bool) → first_of (cond b None (env v)) (cond b None (outer v)) ≡ cond b None (first_of (env v) (outer v))
    at v true = refl
    at v false = refl

pub put_put_term : (env outer : Assignment) (t : Term) → put_term outer (put_term env t) ≡ put_term (over env outer) t
put_put_term env outer (Object o) = refl
put_put_term env outer (Variable v) = at (env v)
  where
    at : (o : Option ℕ) → put_term outer (put_variable v o) ≡ put_variable v (first_of o (outer v))
    at None = refl
    at (Some o) = refl

pub put_put_atom : (env outer : Assignment) (a : Atom) → put_atom outer (put_atom env a) ≡ put_atom (over env outer) a
put_put_atom env outer a = search rules

pub object_put : (env outer : Assignment) (t : Term) → object_under outer (put_term env t) ≡ object_under (over env outer) t
object_put env outer (Object o) = refl
object_put env outer (Variable v) = at (env v)
  where
    at : (o : Option ℕ) → object_under outer (put_variable v o) ≡ or_zero (first_of o (outer v))
    at None = refl
    at (Some o) = refl

pub ground_put : (env outer : Assignment) (a : Atom) → ground outer (put_atom env a) ≡ ground (over env outer) a
ground_put env outer a = search rules
