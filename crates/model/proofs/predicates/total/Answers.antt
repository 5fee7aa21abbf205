-- The facts of predicates are those of each, added up.
use Rattle.std.proofs.Common.{rules, ◌≡◌, ℕ, ◌*◌, ◌≤◌, List, [], ◌∷◌, length, sym, refl, ◌∙◌, arith}
use Rattle.std.specs.List.{sum_by}
use Rattle.std.proofs.lemmas.List.Recursion.{is_sum_by}
use Rattle.std.proofs.iter.runs.Made.{chains}
use Rattle.model.specs.declared.vocabulary.Arity.{Arity}
use Rattle.model.specs.Facts.{facts, facts_of}
use Rattle.model.proofs.Counting.{facts_most}
use Rattle.model.proofs.predicates.total.Goals as goal

most : (n : ℕ) (xs : List Arity) → n ≤ 16 → facts n xs ≤ 256 * length xs
most n [] h = omega arith
most n (a ∷ xs) h = omega (arith, most n xs h, facts_most n a h)

pub returns : goal.returns
returns c =
    let n = c.args.objects in
    let all = c.args.arities.now in
    let added = is_sum_by (facts n) (facts_of n) refl (λ a xs. refl) all in
    let e : c.sum.result ≡ sum_by (facts_of n) all = search (rules, chains) in
    record { sum = e ∙ sym added; bound = omega (arith, most n all c.requires.1, c.requires.0) }
