-- Formulas: what is printed of them.
use Rattle.std.specs.Prelude.{ℕ, List, ◌++◌, length, codes, decimal, Some, None, Option}
use Rattle.books.specs.declared.formula.FormulaTable.{FormulaTable}
use Rattle.books.specs.declared.node.Node.{Node}
use Rattle.books.specs.declared.node.Node.TheVariants.{Atom, Goal, Same}
use Rattle.books.specs.Rules.{whole_formula}
use Rattle.books.specs.Trees.{Formula, truth, falsity, atom, goal, same, negation, conjunction, disjunction, next, eventually, always, until, for_all, exists, formula_at}
use Rattle.feeder.specs.declared.tables.RuleTable.{RuleTable}
use Rattle.feeder.specs.declared.tables.RuleTable.TheVariants as table
use Rattle.inspect.specs.declared.words.Words.{Words}
use Rattle.inspect.specs.Names.{word_of}
use Rattle.inspect.specs.Texts.{amount_text, atom_text, term_text}

-- a formula: AND, OR and UNTIL stand between their parts, with brackets around the whole; every other word stands
-- before its parts
abbrev pub formula_text : Words → Formula → List ℕ
formula_text w truth = codes "TRUE"
formula_text w falsity = codes "FALSE"
formula_text w (atom a) = atom_text w a
formula_text w (goal a) = codes "GOAL(" ++ (atom_text w a ++ codes ")")
formula_text w (same s t) = term_text s ++ (codes " = " ++ term_text t)
formula_text w (negation f) = codes "NOT " ++ formula_text w f
formula_text w (conjunction f g) = codes "(" ++ (formula_text w f ++ (codes " AND " ++ (formula_text w g ++ codes ")")))
formula_text w (disjunction f g) = codes "(" ++ (formula_text w f ++ (codes " OR " ++ (formula_text w g ++ codes ")")))
formula_text w (next f) = codes "NEXT " ++ formula_text w f
formula_text w (eventually f) = codes "EVENTUALLY " ++ formula_text w f
formula_text w (always f) = codes "ALWAYS " ++ formula_text w f
formula_text w (until f g) = codes "(" ++ (formula_text w f ++ (codes " UNTIL " ++ (formula_text w g ++ codes ")")))
formula_text w (for_all range body v) = codes "FORALL x" ++ (decimal v ++ (codes " IN " ++ (formula_text w range ++ (codes ": " ++ formula_text w body))))
formula_text w (exists range body v) = codes "EXISTS x" ++ (decimal v ++ (codes " IN " ++ (formula_text w range ++ (codes ": " ++ formula_text w body))))

-- a node that has no parts: its atom or terms, or else its word
abbrev pub leaf_text : Words → Node → List ℕ
leaf_text w (Atom a) = atom_text w a
leaf_text w (Goal a) = codes "GOAL(" ++ (atom_text w a ++ codes ")")
leaf_text w (Same s t) = term_text s ++ (codes " = " ++ term_text t)
leaf_text w n = word_of n

-- the formula of node i of a table
abbrev pub part_text : Words → FormulaTable → ℕ → List ℕ
part_text w t i = formula_text w (formula_at t.nodes i)

-- the formula of a table
abbrev pub table_text : Words → FormulaTable → List ℕ
table_text w t = formula_text w (whole_formula t.nodes)

-- the rules, where they are a formula; of a chart no more is said than that it is printed
abbrev pub rules_text : Words → RuleTable → Option (List ℕ)
rules_text w (table.Formula t) = Some (codes "rules: a formula of " ++ (amount_text (length t.nodes) (codes "node") ++ (codes "\n  " ++ (table_text w t ++ codes "\n"))))
rules_text w (table.Chart c) = None
