-- Switches: their bytes in a record, which of them join sections, and the predicates of a network.
use Rattle.std.specs.Prelude.{ℕ, Bool, not, ◌&&◌, List, [], ◌∷◌, ◌==◌, nat_lt}
use Rattle.model.specs.declared.vocabulary.Arity.{Arity}
use Rattle.model.specs.declared.vocabulary.Arity.TheVariants.{One}
use Rattle.plants.specs.declared.network.Switch.{Switch}

-- a switch's bytes: its two ends
abbrev pub switch_bytes : Switch → List ℕ
switch_bytes s = s.from ∷ (s.to ∷ [])

-- a switch that joins two different sections, of n
abbrev pub switch_fits : ℕ → Switch → Bool
switch_fits n s = nat_lt s.from n && (nat_lt s.to n && not (s.from == s.to))

-- what stands in a place for a switch that is not in use
abbrev pub blank_switch : Switch
blank_switch = record { from = 0; to = 0 }

-- the arities of a network's three predicates: each takes one object
abbrev pub network_arities : List Arity
network_arities = One ∷ (One ∷ (One ∷ []))
