-- Rules: what a list of nodes keeps to in order to be a formula. Its last node is the whole formula.
use Rattle.std.specs.Prelude.{◌≡◌, ℕ, ◌+◌, ◌-◌, ◌<◌, ◌≤◌, max, Bool, true, false, ◌&&◌, List, [], ◌∷◌, length, sum_by, count_by, Some, None, Option, ◌==◌, nat_lt, slice_index}
use Rattle.model.specs.declared.vocabulary.Vocabulary.{Vocabulary}
use Rattle.model.specs.Vocabularies.{atom_fits, term_fits}
use Rattle.books.specs.declared.node.Node.{Node}
use Rattle.books.specs.declared.node.Node.TheVariants.{True, False, Atom, Goal, Same, Not, And, Or, Next, Eventually, Always, Until, ForAll, Exists}
use Rattle.books.specs.declared.node.Quantifier.{Quantifier}
use Rattle.books.specs.Nodes.{node_at, parts}
use Rattle.books.specs.Trees.{Formula, bound_once, formula_at, free, mentions}

-- one more than the highest of some numbers, 0 where there is none
abbrev pub high : List ℕ → ℕ
high [] = 0
high (n ∷ ns) = max (n + 1) (high ns)

-- each part of node i has a number below i
abbrev pub Lower : List Node → Type 0
Lower nodes = (i : ℕ) → i < length nodes → high (parts (node_at nodes i)) ≤ i

-- how often a number stands in a list
abbrev pub times : ℕ → List ℕ → ℕ
times j ns = count_by (λ n. n == j) ns

-- how often node j is a part of some nodes
abbrev pub uses : ℕ → List Node → ℕ
uses j nodes = sum_by (λ n. times j (parts n)) nodes

-- every node except the last is a part of one node, and only once
abbrev pub Once : List Node → Type 0
Once nodes = (j : ℕ) → j + 1 < length nodes → uses j nodes ≡ 1

-- what counting the parts of node i answers: one use more of each, or none where some part's number is not below i
abbrev pub PartsUsed : Node → ℕ → List ℕ → List ℕ → Option (Unit {0}) → Type 0
PartsUsed n i before after (Some _) = (high (parts n) ≤ i) × ((j : ℕ) → j < 120 → slice_index after j ≡ slice_index before j + times j (parts n))
PartsUsed n i before after None = i < high (parts n)

-- what counting uses answers: how often each node is a part, or none where some part's number is not lower
abbrev pub UsesCounted : List Node → Option (List ℕ) → Type 0
UsesCounted nodes (Some used) = Lower nodes × ((j : ℕ) → j < 120 → slice_index used j ≡ uses j nodes)
UsesCounted nodes None = Lower nodes → ⊥

-- a node can be the range of a quantifier of the variable x: it is an atom or a goal that mentions x
abbrev pub ranges : ℕ → Node → Bool
ranges x True = false
ranges x False = false
ranges x (Atom a) = mentions x a
ranges x (Goal a) = mentions x a
ranges x (Same s t) = false
ranges x (Not a) = false
ranges x (And a b) = false
ranges x (Or a b) = false
ranges x (Next a) = false
ranges x (Eventually a) = false
ranges x (Always a) = false
ranges x (Until a b) = false
ranges x (ForAll q) = false
ranges x (Exists q) = false

-- a quantifier binds one of the four variables, over a range that mentions it
abbrev pub quantifier_fits : List Node → Quantifier → Bool
quantifier_fits nodes q = nat_lt q.variable 4 && ranges q.variable (node_at nodes q.range)

-- a node among some nodes speaks of what there is: atoms of the vocabulary, its objects, four variables
abbrev pub node_fits : Vocabulary → List Node → Node → Bool
node_fits v nodes True = true
node_fits v nodes False = true
node_fits v nodes (Atom a) = atom_fits v 4 a
node_fits v nodes (Goal a) = atom_fits v 4 a
node_fits v nodes (Same s t) = term_fits v.objects 4 s && term_fits v.objects 4 t
node_fits v nodes (Not a) = true
node_fits v nodes (And a b) = true
node_fits v nodes (Or a b) = true
node_fits v nodes (Next a) = true
node_fits v nodes (Eventually a) = true
node_fits v nodes (Always a) = true
node_fits v nodes (Until a b) = true
node_fits v nodes (ForAll q) = quantifier_fits nodes q
node_fits v nodes (Exists q) = quantifier_fits nodes q

-- every node fits
abbrev pub Fits : Vocabulary → List Node → Type 0
Fits v nodes = (i : ℕ) → i < length nodes → node_fits v nodes (node_at nodes i) ≡ true

-- the whole formula: that of the last node
abbrev pub whole_formula : List Node → Formula
whole_formula nodes = formula_at nodes (length nodes - 1)

-- no variable is free in a formula
abbrev pub Closed : Formula → Type 0
Closed f = (x : ℕ) → free f x ≡ false

-- what a formula over a vocabulary keeps to
pub record SoundFormula (v : Vocabulary) (nodes : List Node) : Type 0 where
  pub some : 1 ≤ length nodes
  pub few : length nodes ≤ 120
  pub lower : Lower nodes
  pub once : Once nodes
  pub fits : Fits v nodes
  pub closed : Closed (whole_formula nodes)
  pub bound : bound_once (whole_formula nodes) ≡ true
