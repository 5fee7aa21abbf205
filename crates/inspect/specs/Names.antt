-- Names: the words for predicates, parameters, kinds of nodes and actions.
use Rattle.std.specs.Prelude.{ℕ, cond, List, [], codes, ◌==◌}
use Rattle.books.specs.declared.node.Node.{Node}
use Rattle.books.specs.declared.node.Node.TheVariants.{True, False, Atom, Goal, Same, Not, And, Or, Next, Eventually, Always, Until, ForAll, Exists}
use Rattle.grid.specs.declared.action.Action.{Action}
use Rattle.grid.specs.declared.action.Action.TheVariants.{Open, Close, Earth, Lift}

-- the name of a predicate of a network
abbrev pub network_name : ℕ → List ℕ
network_name p = cond (p == 0) (codes "closed") (cond (p == 1) (codes "earthed") (codes "live"))

-- the parameters of an operator that has n
abbrev pub parameter_names : ℕ → List ℕ
parameter_names n = cond (n == 0) (codes "no parameters") (cond (n == 1) (codes "x0") (codes "x0, x1"))

-- the word of a node, with the spaces between it and its parts; nodes that hold an atom or two terms have none
abbrev pub word_of : Node → List ℕ
word_of True = codes "TRUE"
word_of False = codes "FALSE"
word_of (Atom a) = []
word_of (Goal a) = []
word_of (Same s t) = []
word_of (Not a) = codes "NOT "
word_of (And a b) = codes " AND "
word_of (Or a b) = codes " OR "
word_of (Next a) = codes "NEXT "
word_of (Eventually a) = codes "EVENTUALLY "
word_of (Always a) = codes "ALWAYS "
word_of (Until a b) = codes " UNTIL "
word_of (ForAll q) = codes "FORALL "
word_of (Exists q) = codes "EXISTS "

-- what an action does, up to the number of its switch or section
abbrev pub action_words : Action → List ℕ
action_words (Open a) = codes "open switch "
action_words (Close a) = codes "close switch "
action_words (Earth x) = codes "place an earth at section "
action_words (Lift x) = codes "lift the earth at section "
