-- Progression: what is left of a formula after a picture, as a formula.
use Rattle.std.specs.Prelude.{ℕ, Bool, true, false, List, [], ◌∷◌, map, ◌==◌}
use Rattle.books.specs.Trees.{Formula, always, atom, conjunction, disjunction, eventually, exists, falsity, for_all, goal, negation, next, same, truth, until}
use Rattle.model.specs.declared.goal.Goal.{Goal}
use Rattle.model.specs.declared.picture.Picture.{Picture}
use Rattle.model.specs.declared.vocabulary.Vocabulary.{Vocabulary}
use Rattle.model.specs.Pictures.{chosen}
use Rattle.ltl.specs.Assignments.{Assignment, bind, object_under, put_atom, put_term, unassigned, unbind}
use Rattle.ltl.specs.Truth.{atom_true, goal_true, picks}

-- how a formula stands: it is TRUE itself, it is FALSE itself, or neither
pub data Standing : Type 0 where
  sure : Standing
  lost : Standing
  pending : Standing

abbrev pub standing : Formula → Standing
standing truth = sure
standing falsity = lost
standing (atom a) = pending
standing (goal a) = pending
standing (same s t) = pending
standing (negation f) = pending
standing (conjunction f g) = pending
standing (disjunction f g) = pending
standing (next f) = pending
standing (eventually f) = pending
standing (always f) = pending
standing (until f g) = pending
standing (for_all range body x) = pending
standing (exists range body x) = pending

-- a conjunction just formed: FALSE with anything is FALSE, TRUE with a formula is that formula
abbrev pub both_by : Standing → Standing → Formula → Formula → Formula
both_by lost t f g = falsity
both_by sure t f g = g
both_by pending lost f g = falsity
both_by pending sure f g = f
both_by pending pending f g = conjunction f g

unfoldable pub both : Formula → Formula → Formula
both f g = both_by (standing f) (standing g) f g

-- a disjunction just formed: TRUE with anything is TRUE, FALSE with a formula is that formula
abbrev pub either_by : Standing → Standing → Formula → Formula → Formula
either_by sure t f g = truth
either_by lost t f g = g
either_by pending sure f g = truth
either_by pending lost f g = f
either_by pending pending f g = disjunction f g

unfoldable pub either : Formula → Formula → Formula
either f g = either_by (standing f) (standing g) f g

-- a negation just formed: of TRUE it is FALSE, of FALSE it is TRUE
abbrev pub opposite_by : Standing → Formula → Formula
opposite_by sure f = falsity
opposite_by lost f = truth
opposite_by pending f = negation f

unfoldable pub opposite : Formula → Formula
opposite f = opposite_by (standing f) f

-- the conjunction and the disjunction of a list, formed one part after the other
abbrev pub all_of : List Formula → Formula
all_of [] = truth
all_of (f ∷ fs) = both f (all_of fs)

abbrev pub any_of : List Formula → Formula
any_of [] = falsity
any_of (f ∷ fs) = either f (any_of fs)

-- TRUE or FALSE
abbrev pub constant : Bool → Formula
constant true = truth
constant false = falsity

-- a formula with objects put in for the variables that stand for some; a quantifier's own variable stays
unfoldable pub put : Assignment → Formula → Formula
put env truth = truth
put env falsity = falsity
put env (atom a) = atom (put_atom env a)
put env (goal a) = goal (put_atom env a)
put env (same s t) = same (put_term env s) (put_term env t)
put env (negation f) = negation (put env f)
put env (conjunction f g) = conjunction (put env f) (put env g)
put env (disjunction f g) = disjunction (put env f) (put env g)
put env (next f) = next (put env f)
put env (eventually f) = eventually (put env f)
put env (always f) = always (put env f)
put env (until f g) = until (put env f) (put env g)
put env (for_all range body x) = for_all (put (unbind x env) range) (put (unbind x env) body) x
put env (exists range body x) = exists (put (unbind x env) range) (put (unbind x env) body) x

-- the objects that a range picks in a picture, ascending
abbrev pub picked : Vocabulary → Goal → Picture → Assignment → Formula → ℕ → List ℕ
picked v g q env range x = chosen v.objects (λ o. picks v g q (bind x o env) range)

-- the formula that a formula asks of what comes after a picture, operator by operator, objects put in for variables
unfoldable pub progressed : Vocabulary → Goal → Picture → Assignment → Formula → Formula
progressed v g q env truth = truth
progressed v g q env falsity = falsity
progressed v g q env (atom a) = constant (atom_true v q env a)
progressed v g q env (goal a) = constant (goal_true v g env a)
progressed v g q env (same s t) = constant (object_under env s == object_under env t)
progressed v g q env (negation f) = opposite (progressed v g q env f)
progressed v g q env (conjunction f h) = both (progressed v g q env f) (progressed v g q env h)
progressed v g q env (disjunction f h) = either (progressed v g q env f) (progressed v g q env h)
progressed v g q env (next f) = put env f
progressed v g q env (eventually f) = either (progressed v g q env f) (put env (eventually f))
progressed v g q env (always f) = both (progressed v g q env f) (put env (always f))
progressed v g q env (until f h) = either (progressed v g q env h) (both (progressed v g q env f) (put env (until f h)))
progressed v g q env (for_all range body x) = all_of (map (λ o. progressed v g q (bind x o env) body) (picked v g q env range x))
progressed v g q env (exists range body x) = any_of (map (λ o. progressed v g q (bind x o env) body) (picked v g q env range x))

-- the progression of a formula through a picture
abbrev pub progress : Vocabulary → Goal → Picture → Formula → Formula
progress v g q f = progressed v g q unassigned f

-- its progression through the pictures of a list in turn
unfoldable pub progress_through : Vocabulary → Goal → List Picture → Formula → Formula
progress_through v g [] f = f
progress_through v g (q ∷ qs) f = progress_through v g qs (progress v g q f)
