use Rattle.std.proofs.Common.{refl}
use Rattle.books.proofs.Proper.{fitting_proper}
use Rattle.books.proofs.formula.FormulaTable.new.Goals as goal

pub scope_of-requires-clause-proper : goal.scope_of-requires-clause-proper
scope_of-requires-clause-proper c = fitting_proper c.args.vocabulary c.args.nodes.now (c.if-not-all_fit.ensures.0 refl)
