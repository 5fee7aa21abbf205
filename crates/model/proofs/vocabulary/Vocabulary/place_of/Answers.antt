use Rattle.std.proofs.Common.{◌*◌, ◌≤◌, sym, ap, arith}
use Rattle.std.proofs.lemmas.Nat.{mul-le}
use Rattle.model.specs.declared.vocabulary.Arity.{Arity}
use Rattle.model.specs.Numbering.{place}
use Rattle.model.proofs.vocabulary.Vocabulary.place_of.Goals as goal

pub returns-in-Two : goal.returns-in-Two
returns-in-Two c =
    let m : c.args.o * c.args.self.now.objects ≤ 255 * 16 = mul-le c.args.o c.args.self.now.objects 255 16 (omega arith) c.args.self.now.high in
    record {
      place = ap (λ (a : Arity). place c.args.self.now.objects a c.args.o c.args.r) (sym c.in-Two.is);
      bound = omega arith;
    }
