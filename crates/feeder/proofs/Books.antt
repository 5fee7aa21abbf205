-- Rules are known by their bytes: which table of the header's kind can have them.
use Rattle.std.proofs.Common.{◌≡◌, ℕ, true, List, refl, arith}
use Rattle.books.proofs.Proper.{formula_proper}
use Rattle.books.proofs.Sound.{formula_sound}
use Rattle.books.specs.declared.chart.Chart.{Chart}
use Rattle.books.specs.declared.formula.FormulaTable.{FormulaTable}
use Rattle.books.specs.declared.line.Line.{Line}
use Rattle.books.specs.declared.node.Node.{Node}
use Rattle.books.specs.contracts.line.LineCoded5.TheImpl.Laws as line
use Rattle.books.specs.contracts.node.NodeCoded4.TheImpl.Laws as node
use Rattle.books.specs.Lines.{line_bytes}
use Rattle.books.specs.Nodes.{node_bytes, node_proper}
use Rattle.codec.proofs.Coding.{known_list}
use Rattle.std.specs.List.{list_all}
use Rattle.model.specs.declared.vocabulary.Vocabulary.{Vocabulary}
use Rattle.std.specs.List.{flat_map}
use Rattle.feeder.specs.declared.header.BookKind.TheVariants as kind
use Rattle.feeder.specs.declared.header.Header.{Header}
use Rattle.feeder.specs.declared.tables.RuleTable.{RuleTable}
use Rattle.feeder.specs.declared.tables.RuleTable.TheVariants.{Chart as Drawn, Formula}
use Rattle.feeder.specs.Tables.{rule_bytes}
use Rattle.feeder.specs.Verdicts.{Found, SuitRules}
use Rattle.feeder.proofs.Known.{known_plain}

pub nodes_known : (xs ys : List Node) → list_all node_proper xs ≡ true → list_all node_proper ys ≡ true → flat_map node_bytes xs ≡ flat_map node_bytes ys → xs ≡ ys
nodes_known = known_list node_bytes node_proper 4 node.fixed-law (omega arith) node.one-law

pub nodes_proper : (t : FormulaTable) → list_all node_proper t.nodes ≡ true
nodes_proper t = formula_proper t.vocabulary t.nodes (formula_sound t)

pub lines_known : (xs ys : List Line) → flat_map line_bytes xs ≡ flat_map line_bytes ys → xs ≡ ys
lines_known = known_plain line_bytes 5 line.fixed-law (omega arith) (λ x y e. line.one-law x y refl refl e)

-- rules that suit a header of one kind are of that kind
pub as_formula : (h : Header) (v : Vocabulary) (bytes : List ℕ) (r : RuleTable) → h.book ≡ kind.Formula → Found (SuitRules h v) rule_bytes bytes r
    → (t : FormulaTable) × (r ≡ Formula t) × (t.vocabulary ≡ v) × (bytes ≡ flat_map node_bytes t.nodes)
as_formula h v bytes (Formula t) k f = (t, refl, f.suits.words, f.same)
as_formula h v bytes (Drawn t) k f = absurd (let z : ◌≡◌ {A = ℕ} 0 1 = let q = f.suits.kind in cc in omega arith)

pub as_chart : (h : Header) (v : Vocabulary) (bytes : List ℕ) (r : RuleTable) → h.book ≡ kind.Chart → Found (SuitRules h v) rule_bytes bytes r
    → (t : Chart) × (r ≡ Drawn t) × (t.vocabulary ≡ v) × (bytes ≡ flat_map line_bytes t.lines)
as_chart h v bytes (Formula t) k f = absurd (let z : ◌≡◌ {A = ℕ} 0 1 = let q = f.suits.kind in cc in omega arith)
as_chart h v bytes (Drawn t) k f = (t, refl, f.suits.words, f.same)
