use Rattle.std.proofs.Common.{length, sym, ap, ◌∙◌, arith}
use Rattle.std.specs.List.{list_all}
use Rattle.plants.specs.Operators.{operator_fits}
use Rattle.plants.proofs.actions.ActionTable.new.Goals as goal

pub invariant_of-result : goal.invariant_of-result
invariant_of-result c =
    let t = c.in_ok-table.ensures in
    record {
      few = omega (arith, t.1, ap length t.0);
      fits = ap (list_all (operator_fits c.args.vocabulary)) t.0 ∙ sym c.if-not-all_fit.ensures;
    }
