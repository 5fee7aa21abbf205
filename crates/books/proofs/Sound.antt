-- What a table's type carries: its values keep the rules, and with the vocabulary they are all of the table.
use Rattle.std.proofs.Common.{◌≡◌}
use denote.Struct.Record.{values_one}
use Rattle.std.specs.Coded.{coded_list}
use Rattle.model.specs.contracts.vocabulary.Vocabulary as vocabulary
use Rattle.books.specs.contracts.chart.Chart as chart
use Rattle.books.specs.contracts.formula.FormulaTable as formula
use Rattle.books.specs.contracts.line.Line as line
use Rattle.books.specs.contracts.node.Node as node
use Rattle.books.specs.declared.chart.Chart.{Chart}
use Rattle.books.specs.declared.formula.FormulaTable.{FormulaTable}
use Rattle.books.specs.Lines.{SoundChart}
use Rattle.books.specs.Rules.{SoundFormula}

pub formula_sound : (t : FormulaTable) → SoundFormula t.vocabulary t.nodes
formula_sound t =
    record {
      some = t.some;
      few = t.few;
      lower = t.lower;
      once = t.once;
      fits = t.fits;
      closed = t.closed;
      bound = t.bound;
    }

pub same_formula_table : (x y : FormulaTable) → x.vocabulary ≡ y.vocabulary → x.nodes ≡ y.nodes → x ≡ y
same_formula_table x y e q = values_one formula.struct (formula.the_propositions (vocabulary.the_row).coded (coded_list (node.the_row).coded) (node.the_row).coded) x y (cc)

pub chart_sound : (t : Chart) → SoundChart t.vocabulary t.lines
chart_sound t = record { few = t.few; fits = t.fits }

pub same_chart : (x y : Chart) → x.vocabulary ≡ y.vocabulary → x.lines ≡ y.lines → x ≡ y
same_chart x y e q = values_one chart.struct (chart.the_propositions (vocabulary.the_row).coded (coded_list (line.the_row).coded) (line.the_row).coded) x y (cc)
