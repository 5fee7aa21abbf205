-- Refusals: the number of each.
use Rattle.std.specs.Prelude.{ℕ}
use Rattle.feeder.specs.declared.refusal.ReadRefusal.{ReadRefusal}
use Rattle.feeder.specs.declared.refusal.ReadRefusal.TheVariants.{FirstFacts, Goal, Header, Length, Plant, Predicates, Rules, Short, Version}
use Rattle.feeder.specs.declared.refusal.WriteRefusal.{WriteRefusal}
use Rattle.feeder.specs.declared.refusal.WriteRefusal.TheVariants as write

-- the number of a refusal to read, which is also the place of its check
abbrev pub read_number : ReadRefusal → ℕ
read_number Short = 1
read_number Version = 2
read_number Header = 3
read_number Length = 4
read_number Predicates = 5
read_number Plant = 6
read_number FirstFacts = 7
read_number Goal = 8
read_number Rules = 9

-- the number of a refusal to write
abbrev pub write_number : WriteRefusal → ℕ
write_number write.Short = 62
