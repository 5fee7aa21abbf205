-- Formula tables: what making one answers, and what asking one for a node answers.
use Rattle.std.specs.Prelude.{◌≡◌, ℕ, ◌<◌, ◌≤◌, List, length, Some, None, Option}
use Rattle.model.specs.declared.vocabulary.Vocabulary.{Vocabulary}
use Rattle.books.specs.declared.formula.FormulaTable.{FormulaTable}
use Rattle.books.specs.declared.node.Node.{Node}
use Rattle.books.specs.Nodes.{node_at, parts}
use Rattle.books.specs.Rules.{SoundFormula, high}
use Rattle.books.specs.Trees.{formula_at, shape}

-- what making a table answers: one of this vocabulary and these nodes, or none where they break a rule
abbrev pub FormulaMade : Vocabulary → List Node → Option FormulaTable → Type 0
FormulaMade v nodes (Some t) = (t.vocabulary ≡ v) × (t.nodes ≡ nodes)
FormulaMade v nodes None = SoundFormula v nodes → ⊥

-- node i of a table: its parts have lower numbers, and its formula is made of theirs
pub record NodeFound (t : FormulaTable) (i : ℕ) (n : Node) : Type 0 where
  pub within : i < length t.nodes
  pub is : n ≡ node_at t.nodes i
  pub lower : high (parts n) ≤ i
  pub tree : formula_at t.nodes i ≡ shape (formula_at t.nodes) n

-- what asking for node i answers: that node, or none where the table has fewer nodes
abbrev pub NodeAsked : FormulaTable → ℕ → Option Node → Type 0
NodeAsked t i (Some n) = NodeFound t i n
NodeAsked t i None = length t.nodes ≤ i
