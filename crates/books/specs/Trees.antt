-- Formulas: a list of nodes read as a tree, and where its variables are free and bound.
use Rattle.std.specs.Prelude.{ℕ, zero, suc, Bool, true, false, not, ◌&&◌, ◌||◌, List, ◌==◌}
use Rattle.model.specs.declared.term.Atom.{Atom as Applied}
use Rattle.model.specs.declared.term.Term.{Term}
use Rattle.model.specs.declared.term.Term.TheVariants.{Object, Variable}
use Rattle.books.specs.declared.node.Node.{Node}
use Rattle.books.specs.declared.node.Node.TheVariants.{True, False, Atom, Goal, Same, Not, And, Or, Next, Eventually, Always, Until, ForAll, Exists}
use Rattle.books.specs.Nodes.{node_at}

-- a formula as a tree; a quantifier has a range, a body and a variable
pub data Formula : Type 0 where
  truth : Formula
  falsity : Formula
  atom : Applied → Formula
  goal : Applied → Formula
  same : Term → Term → Formula
  negation : Formula → Formula
  conjunction : Formula → Formula → Formula
  disjunction : Formula → Formula → Formula
  next : Formula → Formula
  eventually : Formula → Formula
  always : Formula → Formula
  until : Formula → Formula → Formula
  for_all : Formula → Formula → ℕ → Formula
  exists : Formula → Formula → ℕ → Formula

-- the formula of a node, given the formulas of its parts
abbrev pub shape : (ℕ → Formula) → Node → Formula
shape part True = truth
shape part False = falsity
shape part (Atom a) = atom a
shape part (Goal a) = goal a
shape part (Same s t) = same s t
shape part (Not a) = negation (part a)
shape part (And a b) = conjunction (part a) (part b)
shape part (Or a b) = disjunction (part a) (part b)
shape part (Next a) = next (part a)
shape part (Eventually a) = eventually (part a)
shape part (Always a) = always (part a)
shape part (Until a b) = until (part a) (part b)
shape part (ForAll q) = for_all (part q.range) (part q.body) q.variable
shape part (Exists q) = exists (part q.range) (part q.body) q.variable

-- the formula of node i, cut off below a depth
unfoldable pub tree_to : ℕ → List Node → ℕ → Formula
tree_to zero nodes i = falsity
tree_to (suc depth) nodes i = shape (tree_to depth nodes) (node_at nodes i)

-- the formula of node i: where parts have lower numbers, it is no deeper than i
unfoldable pub formula_at : List Node → ℕ → Formula
formula_at nodes i = tree_to (suc i) nodes i

-- a term is the variable x
abbrev pub is_variable : ℕ → Term → Bool
is_variable x (Object o) = false
is_variable x (Variable v) = v == x

-- an atom mentions the variable x
abbrev pub mentions : ℕ → Applied → Bool
mentions x a = is_variable x a.first || is_variable x a.second

-- a variable is free in a formula: it stands somewhere outside all quantifiers of that variable
unfoldable pub free : Formula → ℕ → Bool
free truth x = false
free falsity x = false
free (atom a) x = mentions x a
free (goal a) x = mentions x a
free (same s t) x = is_variable x s || is_variable x t
free (negation f) x = free f x
free (conjunction f g) x = free f x || free g x
free (disjunction f g) x = free f x || free g x
free (next f) x = free f x
free (eventually f) x = free f x
free (always f) x = free f x
free (until f g) x = free f x || free g x
free (for_all range body v) x = not (v == x) && (free range x || free body x)
free (exists range body v) x = not (v == x) && (free range x || free body x)

-- some quantifier in a formula binds a variable
unfoldable pub binds : Formula → ℕ → Bool
binds truth x = false
binds falsity x = false
binds (atom a) x = false
binds (goal a) x = false
binds (same s t) x = false
binds (negation f) x = binds f x
binds (conjunction f g) x = binds f x || binds g x
binds (disjunction f g) x = binds f x || binds g x
binds (next f) x = binds f x
binds (eventually f) x = binds f x
binds (always f) x = binds f x
binds (until f g) x = binds f x || binds g x
binds (for_all range body v) x = v == x || (binds range x || binds body x)
binds (exists range body v) x = v == x || (binds range x || binds body x)

-- no quantifier lies below another of the same variable
unfoldable pub bound_once : Formula → Bool
bound_once truth = true
bound_once falsity = true
bound_once (atom a) = true
bound_once (goal a) = true
bound_once (same s t) = true
bound_once (negation f) = bound_once f
bound_once (conjunction f g) = bound_once f && bound_once g
bound_once (disjunction f g) = bound_once f && bound_once g
bound_once (next f) = bound_once f
bound_once (eventually f) = bound_once f
bound_once (always f) = bound_once f
bound_once (until f g) = bound_once f && bound_once g
bound_once (for_all range body v) = not (binds range v || binds body v) && (bound_once range && bound_once body)
bound_once (exists range body v) = not (binds range v || binds body v) && (bound_once range && bound_once body)
