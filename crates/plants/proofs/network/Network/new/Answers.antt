use Rattle.std.proofs.Common.{map, length, refl, sym, ap, ◌∙◌, arith}
use Rattle.std.specs.List.{list_all}
use Rattle.model.specs.Facts.{arity_byte}
use Rattle.plants.specs.Switches.{switch_fits}
use Rattle.plants.proofs.network.Network.new.Goals as goal

pub invariant_of-result : goal.invariant_of-result
invariant_of-result c =
    let t = c.in_ok-new.ensures in
    record {
      unary = ap (map arity_byte) (c.if-not-has_three_unary.ensures.0 refl);
      few = omega (arith, ap length t.0);
      ends = ap (list_all (switch_fits c.args.vocabulary.objects)) t.0 ∙ sym c.if-not-all_join.ensures;
      feeds = omega arith;
    }
