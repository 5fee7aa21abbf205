-- Parts have lower numbers than their node, so the number falls.
use Rattle.inspect.proofs.rules.InWords+FormulaTable.+write_part.Given as goal

abbrev pub decreases-write_part : goal.decreases-write_part
decreases-write_part g l = l.i
