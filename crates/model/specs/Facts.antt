-- Facts: how many a vocabulary has and how they are numbered, predicate after predicate without gaps.
use Rattle.std.specs.Prelude.{ℕ, ◌+◌, ◌*◌, ◌≤◌, List, [], ◌∷◌, length}
use Rattle.model.specs.declared.vocabulary.Arity.{Arity}
use Rattle.model.specs.declared.vocabulary.Arity.TheVariants.{Zero, One, Two}

-- the byte of an arity: how many objects a predicate takes
abbrev pub arity_byte : Arity → ℕ
arity_byte Zero = 0
arity_byte One = 1
arity_byte Two = 2

-- how many facts a predicate has over n objects
abbrev pub facts_of : ℕ → Arity → ℕ
facts_of n Zero = 1
facts_of n One = n
facts_of n Two = n * n

-- how many facts a list of predicates has
abbrev pub facts : ℕ → List Arity → ℕ
facts n [] = 0
facts n (a ∷ arities) = facts_of n a + facts n arities

-- what a vocabulary of n objects keeps to: 1 to 16 objects, 1 to 16 predicates, at most 512 facts
pub record SoundVocabulary (n : ℕ) (arities : List Arity) : Type 0 where
  pub low : 1 ≤ n
  pub high : n ≤ 16
  pub some : 1 ≤ length arities
  pub few : length arities ≤ 16
  pub bound : facts n arities ≤ 512
