-- Truth of a formula of linear temporal logic at a position of an endless run.
use Rattle.std.specs.Prelude.{◌≡◌, ℕ, suc, ◌<◌, ◌≤◌, Bool, true, false, ◌&&◌, ◌||◌, ◌⊎◌, List, [], ◌∷◌, ◌==◌}
use Rattle.books.specs.Trees.{Formula, always, atom, conjunction, disjunction, eventually, exists, falsity, for_all, goal, negation, next, same, truth, until}
use Rattle.model.specs.declared.fact.Literal.{Literal}
use Rattle.model.specs.declared.fact.Sign.{Sign}
use Rattle.model.specs.declared.fact.Sign.TheVariants.{Negative, Positive}
use Rattle.model.specs.declared.goal.Goal.{Goal}
use Rattle.model.specs.declared.picture.Picture.{Picture}
use Rattle.model.specs.declared.term.Atom.{Atom}
use Rattle.model.specs.declared.vocabulary.Vocabulary.{Vocabulary}
use Rattle.model.specs.Goals.{goal_list}
use Rattle.model.specs.Numbering.{number_of}
use Rattle.model.specs.Pictures.{holds}
use Rattle.ltl.specs.Assignments.{Assignment, bind, ground, object_under}

-- whether a sign is positive
abbrev pub is_positive : Sign → Bool
is_positive Negative = false
is_positive Positive = true

-- whether some of these literals wants a fact to be true
abbrev pub wanted : List Literal → ℕ → Bool
wanted [] f = false
wanted (l ∷ literals) f = (is_positive l.sign && l.fact.number == f) || wanted literals f

-- whether an atom is true in a picture
abbrev pub atom_true : Vocabulary → Picture → Assignment → Atom → Bool
atom_true v q env a = holds q (number_of v (ground env a))

-- whether the goal wants an atom to be true
abbrev pub goal_true : Vocabulary → Goal → Assignment → Atom → Bool
goal_true v g env a = wanted (goal_list g) (number_of v (ground env a))

-- whether a range picks the object that its variable stands for, in a picture; a range is an atom or a goal, and no other
-- formula picks anything
abbrev pub picks : Vocabulary → Goal → Picture → Assignment → Formula → Bool
picks v g q env truth = false
picks v g q env falsity = false
picks v g q env (atom a) = atom_true v q env a
picks v g q env (goal a) = goal_true v g env a
picks v g q env (same s t) = false
picks v g q env (negation f) = false
picks v g q env (conjunction f h) = false
picks v g q env (disjunction f h) = false
picks v g q env (next f) = false
picks v g q env (eventually f) = false
picks v g q env (always f) = false
picks v g q env (until f h) = false
picks v g q env (for_all range body x) = false
picks v g q env (exists range body x) = false

-- a formula holds at a position of an endless run, with objects for its variables; a quantifier goes over the objects
-- that its range picks at the quantifier's own position
unfoldable pub Holds : Vocabulary → Goal → (ℕ → Picture) → Assignment → Formula → ℕ → Type 0
Holds v g w env truth i = Unit {0}
Holds v g w env falsity i = ⊥
Holds v g w env (atom a) i = atom_true v (w i) env a ≡ true
Holds v g w env (goal a) i = goal_true v g env a ≡ true
Holds v g w env (same s t) i = object_under env s ≡ object_under env t
Holds v g w env (negation f) i = Holds v g w env f i → ⊥
Holds v g w env (conjunction f h) i = Holds v g w env f i × Holds v g w env h i
Holds v g w env (disjunction f h) i = Holds v g w env f i ⊎ Holds v g w env h i
Holds v g w env (next f) i = Holds v g w env f (suc i)
Holds v g w env (eventually f) i = (j : ℕ) × ((i ≤ j) × Holds v g w env f j)
Holds v g w env (always f) i = (j : ℕ) → i ≤ j → Holds v g w env f j
Holds v g w env (until f h) i = (k : ℕ) × ((i ≤ k) × (Holds v g w env h k × ((j : ℕ) → i ≤ j → j < k → Holds v g w env f j)))
Holds v g w env (for_all range body x) i =
    (o : ℕ) → o < v.objects → picks v g (w i) (bind x o env) range ≡ true → Holds v g w (bind x o env) body i
Holds v g w env (exists range body x) i =
    (o : ℕ) × ((o < v.objects) × ((picks v g (w i) (bind x o env) range ≡ true) × Holds v g w (bind x o env) body i))
