use Rattle.std.proofs.Common.{List, sym, refl, ap, subst, arith, length}
use Rattle.model.specs.declared.fact.Literal.{Literal}
use Rattle.model.specs.Ascents.{Ascending, literal_facts}
use Rattle.model.proofs.goal.Goal.new.Goals as goal

pub invariant_of-result : goal.invariant_of-result
invariant_of-result c =
    let t = c.in_ok-table.ensures in
    record {
      few = omega (arith, t.1, ap length t.0);
      rises = subst (λ (xs : List Literal). Ascending (literal_facts xs)) (sym t.0) (c.if-not-ascend.ensures.0 refl);
    }
