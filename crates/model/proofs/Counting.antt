-- Counting facts: one predicate more, and the most that a predicate can have.
use Rattle.std.proofs.Common.{◌≡◌, ℕ, ◌+◌, ◌≤◌, List, [], ◌∷◌, ◌++◌, arith}
use Rattle.std.proofs.lemmas.Nat.{mul-le}
use Rattle.model.specs.declared.vocabulary.Arity.{Arity}
use Rattle.model.specs.declared.vocabulary.Arity.TheVariants.{Zero, One, Two}
use Rattle.model.specs.Facts.{facts, facts_of}

pub facts_most : (n : ℕ) (a : Arity) → n ≤ 16 → facts_of n a ≤ 256
facts_most n Zero h = omega arith
facts_most n One h = omega arith
facts_most n Two h = mul-le n n 16 16 h h

pub facts_push : (n : ℕ) (xs : List Arity) (a : Arity) → facts n (xs ++ (a ∷ [])) ≡ facts n xs + facts_of n a
facts_push n [] a = omega arith
facts_push n (b ∷ xs) a = omega (arith, facts_push n xs a)
