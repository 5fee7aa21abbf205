-- Tables: the kind, size, vocabulary and bytes of a feeder's plant and rules.
use Rattle.std.specs.Prelude.{ℕ, ◌+◌, Bool, ◌&&◌, ◌||◌, List, ◌∷◌, map, length, nat_le, nat_lt}
use Rattle.books.specs.Lines.{line_bytes}
use Rattle.books.specs.Nodes.{node_bytes}
use Rattle.model.specs.declared.fact.Literal.{Literal}
use Rattle.model.specs.declared.vocabulary.Vocabulary.{Vocabulary}
use Rattle.model.specs.Facts.{arity_byte}
use Rattle.plants.specs.Actions.{action_bytes}
use Rattle.plants.specs.Networks.{network_bytes}
use Rattle.std.specs.List.{flat_map}
use Rattle.feeder.specs.declared.header.BookKind.{BookKind}
use Rattle.feeder.specs.declared.header.BookKind.TheVariants as book
use Rattle.feeder.specs.declared.header.PlantKind.{PlantKind}
use Rattle.feeder.specs.declared.header.PlantKind.TheVariants as plant
use Rattle.feeder.specs.declared.tables.PlantTable.{PlantTable}
use Rattle.feeder.specs.declared.tables.PlantTable.TheVariants.{Actions, Network}
use Rattle.feeder.specs.declared.tables.RuleTable.{RuleTable}
use Rattle.feeder.specs.declared.tables.RuleTable.TheVariants.{Chart, Formula}

-- the kind of a plant
abbrev pub plant_kind : PlantTable → PlantKind
plant_kind (Actions t) = plant.Actions
plant_kind (Network w) = plant.Network

-- how many operators or switches a plant has
abbrev pub plant_rows : PlantTable → ℕ
plant_rows (Actions t) = length t.operators
plant_rows (Network w) = length w.switches

-- the objects and predicates of a plant
abbrev pub plant_words : PlantTable → Vocabulary
plant_words (Actions t) = t.vocabulary
plant_words (Network w) = w.vocabulary

-- a plant's bytes
abbrev pub plant_bytes : PlantTable → List ℕ
plant_bytes (Actions t) = action_bytes t
plant_bytes (Network w) = network_bytes w

-- the kind of the rules
abbrev pub rule_kind : RuleTable → BookKind
rule_kind (Formula t) = book.Formula
rule_kind (Chart c) = book.Chart

-- how many nodes or lines the rules have
abbrev pub rule_rows : RuleTable → ℕ
rule_rows (Formula t) = length t.nodes
rule_rows (Chart c) = length c.lines

-- the objects and predicates that the rules speak of
abbrev pub rule_words : RuleTable → Vocabulary
rule_words (Formula t) = t.vocabulary
rule_words (Chart c) = c.vocabulary

-- the rules' bytes
abbrev pub rule_bytes : RuleTable → List ℕ
rule_bytes (Formula t) = flat_map node_bytes t.nodes
rule_bytes (Chart c) = flat_map line_bytes c.lines

-- a vocabulary as numbers: how many objects, then the arities
abbrev pub word_code : Vocabulary → List ℕ
word_code v = v.objects ∷ map arity_byte v.arities

-- which facts may be first facts: all of an action table; of a network the positions of its switches and the earths
abbrev pub may_be_first : PlantKind → ℕ → ℕ → ℕ → ℕ → Bool
may_be_first plant.Actions total n rows f = nat_lt f total
may_be_first plant.Network total n rows f = nat_lt f rows || (nat_le n f && nat_lt f (n + n))

-- a literal on one of the facts
abbrev pub fact_below : ℕ → Literal → Bool
fact_below total l = nat_lt l.fact.number total
