-- Networks: what one is made from, and its bytes in a record.
use Rattle.std.specs.Prelude.{◌≡◌, ℕ, ◌^◌, ◌<◌, ◌≤◌, true, List, ◌++◌, length, Some, None, Option}
use Rattle.model.specs.declared.vocabulary.Vocabulary.{Vocabulary}
use Rattle.model.specs.Literals.{word_bytes}
use Rattle.std.specs.List.{flat_map, list_all}
use Rattle.plants.specs.declared.network.Network.{Network}
use Rattle.plants.specs.declared.network.Switch.{Switch}
use Rattle.plants.specs.Switches.{network_arities, switch_bytes, switch_fits}

-- a network's bytes: its switches, then which sections are fed
abbrev pub network_bytes : Network → List ℕ
network_bytes w = flat_map switch_bytes w.switches ++ word_bytes w.fed

-- what a network keeps to: three predicates of one object each, no more switches than sections, each switch between
-- two different sections, and no feed but of a section
pub record SoundNetwork (v : Vocabulary) (switches : List Switch) (fed : ℕ) : Type 0 where
  pub unary : v.arities ≡ network_arities
  pub few : length switches ≤ v.objects
  pub ends : list_all (switch_fits v.objects) switches ≡ true
  pub feeds : fed < 2 ^ v.objects

-- what making a network answers: one of these parts, or none where they are unsound
abbrev pub NetworkMade : Vocabulary → List Switch → ℕ → Option Network → Type 0
NetworkMade v switches fed (Some w) = (w.vocabulary ≡ v) × (w.switches ≡ switches) × (w.fed ≡ fed)
NetworkMade v switches fed None = SoundNetwork v switches fed → ⊥
