-- Literals: facts and signs, and their bytes in a record.
use Rattle.std.specs.Prelude.{ℕ, ◌/◌, ◌%◌, List, [], ◌∷◌}
use Rattle.model.specs.declared.fact.Fact.{Fact}
use Rattle.model.specs.declared.fact.Literal.{Literal}
use Rattle.model.specs.declared.fact.Sign.{Sign}
use Rattle.model.specs.declared.fact.Sign.TheVariants.{Negative, Positive}

-- the byte of a sign
abbrev pub sign_byte : Sign → ℕ
sign_byte Negative = 0
sign_byte Positive = 1

-- a number of two bytes, the high byte first
abbrev pub word_bytes : ℕ → List ℕ
word_bytes n = n / 256 ∷ (n % 256 ∷ [])

abbrev pub fact_bytes : Fact → List ℕ
fact_bytes f = word_bytes f.number

-- a literal's bytes: its sign, then its fact
abbrev pub literal_bytes : Literal → List ℕ
literal_bytes l = sign_byte l.sign ∷ fact_bytes l.fact
