-- The parts' lengths, added up.
use Rattle.std.proofs.Common.{ap, arith}
use Rattle.model.proofs.Pictures.{members_few}
use Rattle.feeder.specs.declared.header.Header.{Header}
use Rattle.feeder.specs.Layouts.{rules_size}
use Rattle.feeder.specs.Tables.{plant_words}
use Rattle.feeder.proofs.Whole.{encode_long, first_long, goal_long, rules_long, rules_most, words_long}
use Rattle.feeder.proofs.write.record_length.Goals as goal

pub returns : goal.returns
returns c =
    let f = c.args.feeder.now in
    let e = c.header-header.ensures in
    let predicates = ap (λ (h : Header). h.predicates) e in
    let first = ap (λ (h : Header). h.first) e in
    let goal = ap (λ (h : Header). h.goal) e in
    let rules = ap (λ (h : Header). rules_size h.book h.rules) e in
    let plant = c.plant_length-plant.ensures.size in
    record {
      size = omega (arith, c.rules_bytes.ensures, encode_long f, words_long (plant_words f.plant), first_long f.first, goal_long f.goal, rules_long f.rules);
      bound = omega (
        arith,
        c.rules_bytes.ensures,
        rules_long f.rules,
        rules_most f.rules,
        members_few f.first,
        (plant_words f.plant).few,
        f.goal.few,
        c.plant_length-plant.ensures.bound,
      );
    }
