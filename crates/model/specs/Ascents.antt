-- Ascents: facts and literals in ascending order of their numbers.
use Rattle.std.specs.Prelude.{ℕ, ◌+◌, ◌<◌, List, map, length, slice_index}
use Rattle.model.specs.declared.fact.Fact.{Fact}
use Rattle.model.specs.declared.fact.Literal.{Literal}
use Rattle.model.specs.declared.fact.Sign.TheVariants.{Negative}

-- each number is below the next
abbrev pub Ascending : List ℕ → Type 0
Ascending xs = (i : ℕ) → i + 1 < length xs → slice_index xs i < slice_index xs (i + 1)

-- each number is below a bound
abbrev pub AllBelow : ℕ → List ℕ → Type 0
AllBelow n xs = (i : ℕ) → i < length xs → slice_index xs i < n

-- what the facts of a picture keep to: they ascend, and each is below 512
pub record SoundFacts (xs : List ℕ) : Type 0 where
  pub rises : Ascending xs
  pub below : AllBelow 512 xs

-- the numbers of some facts
abbrev pub fact_numbers : List Fact → List ℕ
fact_numbers facts = map (λ f. f.number) facts

-- the fact that stands in the places of a table that are not in use
abbrev pub blank_fact : Fact
blank_fact = record { number = 0 }

-- the numbers of the facts of some literals
abbrev pub literal_facts : List Literal → List ℕ
literal_facts literals = map (λ l. l.fact.number) literals

-- the literal that stands in the places of a table that are not in use
abbrev pub blank_literal : Literal
blank_literal = record { sign = Negative; fact = blank_fact }
