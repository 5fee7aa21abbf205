use Rattle.std.proofs.Common.{List, length, get_or, ap, ◌∙◌, arith}
use Rattle.model.specs.declared.vocabulary.Arity.{Arity}
use Rattle.model.specs.declared.vocabulary.Arity.TheVariants.{Zero}
use Rattle.model.specs.Facts.{facts_of}
use Rattle.model.proofs.Naming.{facts_more}
use Rattle.model.proofs.vocabulary.Vocabulary.atom.Goals as goal

pub loop-p-preserved : goal.loop-p-preserved
loop-p-preserved c =
    let v = c.args.self.now in
    let p = c.loop-p.p in
    let all = c.as_slice-arity-items.ensures.same in
    let size = c.facts-size.ensures ∙ ap (λ (xs : List Arity). facts_of v.objects (get_or xs p Zero)) all in
    (all, omega (arith, facts_more v.objects v.arities p (omega (arith, ap length all)), c.loop-p.invariant.1, size))
