use Rattle.std.proofs.Common.{◌≡◌, ℕ, ◌/◌, ◌%◌, ◌<◌, ltb, Some, ap, ◌∙◌, subst, arith}
use Rattle.std.proofs.lemmas.Nat.{div-add-mod', div_below, mod_below}
use Rattle.std.proofs.lemmas.Bool.{and_from, lt-ltb}
use Rattle.model.specs.declared.vocabulary.Arity.{Arity}
use Rattle.model.specs.declared.vocabulary.Arity.TheVariants.{Two}
use Rattle.model.specs.declared.term.Term.TheVariants.{Object}
use Rattle.model.specs.Facts.{facts_of}
use Rattle.model.specs.Numbering.{place}
use Rattle.model.specs.Vocabularies.{terms_fit}
use Rattle.model.proofs.vocabulary.Vocabulary.terms_at.Goals as goal

-- the row of a place lies within the objects
row_below : (n at : ℕ) (a : Arity) → 0 < n → a ≡ Two → at < facts_of n a → at / n < n
row_below n at a z e h = div_below at n n z (subst (λ (b : Arity). at < facts_of n b) e h)

pub overflow_cast-result-in-Two : goal.overflow_cast-result-in-Two
overflow_cast-result-in-Two c =
    omega (arith, row_below c.args.self.now.objects c.args.at c.args.arity c.args.self.now.low c.in-Two.is c.requires, c.args.self.now.high)

pub returns-in-Two : goal.returns-in-Two
returns-in-Two c =
    let n = c.args.self.now.objects in
    let at = c.args.at in
    record {
      place = ap (λ (a : Arity). place n a (at / n) (at % n)) c.in-Two.is ∙ div-add-mod' at n;
      fits =
          ap (λ (a : Arity). terms_fit n 0 (Some a) (Object (at / n)) (Object (at % n))) c.in-Two.is
          ∙ and_from (ltb (at / n) n) (ltb (at % n) n)
          (lt-ltb (at / n) n (row_below n at c.args.arity c.args.self.now.low c.in-Two.is c.requires))
          (lt-ltb (at % n) n (mod_below at n c.args.self.now.low));
    }
