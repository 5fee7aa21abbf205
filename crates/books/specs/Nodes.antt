-- Nodes: their bytes in a record, which of them a record can hold, and their parts.
use Rattle.std.specs.Prelude.{ℕ, Bool, true, ◌&&◌, List, [], ◌∷◌, nat_lt, slice_index_or}
use Rattle.model.specs.Atoms.{atom_bytes, atom_proper, term_byte, term_proper}
use Rattle.books.specs.declared.node.Node.{Node}
use Rattle.books.specs.declared.node.Node.TheVariants.{True, False, Atom, Goal, Same, Not, And, Or, Next, Eventually, Always, Until, ForAll, Exists}
use Rattle.books.specs.declared.node.Quantifier.{Quantifier}

-- the bytes of a quantifier: range, body, variable
abbrev pub quantifier_bytes : Quantifier → List ℕ
quantifier_bytes q = q.range ∷ (q.body ∷ (q.variable ∷ []))

-- the quantifiers that a record can hold: there are four variables
abbrev pub quantifier_proper : Quantifier → Bool
quantifier_proper q = nat_lt q.variable 4

-- a node's bytes: its kind, then its atom, terms, parts or variable; a byte that the kind does not use is 0
abbrev pub node_bytes : Node → List ℕ
node_bytes True = 0 ∷ (0 ∷ (0 ∷ (0 ∷ [])))
node_bytes False = 1 ∷ (0 ∷ (0 ∷ (0 ∷ [])))
node_bytes (Atom a) = 2 ∷ atom_bytes a
node_bytes (Goal a) = 3 ∷ atom_bytes a
node_bytes (Same s t) = 4 ∷ (0 ∷ (term_byte s ∷ (term_byte t ∷ [])))
node_bytes (Not a) = 5 ∷ (a ∷ (0 ∷ (0 ∷ [])))
node_bytes (And a b) = 6 ∷ (a ∷ (b ∷ (0 ∷ [])))
node_bytes (Or a b) = 7 ∷ (a ∷ (b ∷ (0 ∷ [])))
node_bytes (Next a) = 8 ∷ (a ∷ (0 ∷ (0 ∷ [])))
node_bytes (Eventually a) = 9 ∷ (a ∷ (0 ∷ (0 ∷ [])))
node_bytes (Always a) = 10 ∷ (a ∷ (0 ∷ (0 ∷ [])))
node_bytes (Until a b) = 11 ∷ (a ∷ (b ∷ (0 ∷ [])))
node_bytes (ForAll q) = 12 ∷ quantifier_bytes q
node_bytes (Exists q) = 13 ∷ quantifier_bytes q

-- the nodes that a record can hold: terms and variables must be ones that a record can hold
abbrev pub node_proper : Node → Bool
node_proper True = true
node_proper False = true
node_proper (Atom a) = atom_proper a
node_proper (Goal a) = atom_proper a
node_proper (Same s t) = term_proper s && term_proper t
node_proper (Not a) = true
node_proper (And a b) = true
node_proper (Or a b) = true
node_proper (Next a) = true
node_proper (Eventually a) = true
node_proper (Always a) = true
node_proper (Until a b) = true
node_proper (ForAll q) = quantifier_proper q
node_proper (Exists q) = quantifier_proper q

-- the numbers of a node's parts
abbrev pub parts : Node → List ℕ
parts True = []
parts False = []
parts (Atom a) = []
parts (Goal a) = []
parts (Same s t) = []
parts (Not a) = a ∷ []
parts (And a b) = a ∷ (b ∷ [])
parts (Or a b) = a ∷ (b ∷ [])
parts (Next a) = a ∷ []
parts (Eventually a) = a ∷ []
parts (Always a) = a ∷ []
parts (Until a b) = a ∷ (b ∷ [])
parts (ForAll q) = q.range ∷ (q.body ∷ [])
parts (Exists q) = q.range ∷ (q.body ∷ [])

-- the node of a number; behind the last node stands True
abbrev pub node_at : List Node → ℕ → Node
node_at nodes i = slice_index_or nodes i True
