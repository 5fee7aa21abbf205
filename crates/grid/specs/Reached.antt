-- Reached sections: what a search along closed switches gives, and what one switch adds on the way.
use Rattle.std.specs.Prelude.{◌≡◌, ℕ, ◌≤◌, Bool, true, ◌&&◌, ◌||◌, Decides, ◌==◌}
use Rattle.model.specs.Pictures.{bit}
use Rattle.plants.specs.declared.network.Network.{Network}
use Rattle.plants.specs.declared.network.Switch.{Switch}
use Rattle.grid.specs.declared.sections.Sections.{Sections}
use Rattle.grid.specs.declared.state.NetworkState.{NetworkState}
use Rattle.grid.specs.Paths.{Joined, switch_at}
use Rattle.grid.specs.States.{is_closed}

-- the sections that paths of closed switches join to some sources: just these, and every one
abbrev pub Reached : Network → NetworkState → Sections → Sections → Type 0
Reached w s sources r = (x : ℕ) → Decides (bit r.bits x) (Joined w s (bit sources.bits) x)

-- all of these sections are joined to a source
abbrev pub AllJoined : Network → NetworkState → (ℕ → Bool) → Sections → Type 0
AllJoined w s source r = (x : ℕ) → bit r.bits x ≡ true → Joined w s source x

-- if switch a is closed, its ends are both in a set or both outside
abbrev pub Even : Network → NetworkState → ℕ → Sections → Type 0
Even w s a r = is_closed w s a ≡ true → bit r.bits (switch_at w a).from ≡ bit r.bits (switch_at w a).to

-- what switch a adds to some sections: it keeps them, adds only what is joined to where they are, and adds nothing only
-- where there is nothing to add
pub record Spread (w : Network) (s : NetworkState) (a : ℕ) (before after : Sections) : Type 0 where
  pub keeps : (x : ℕ) → bit before.bits x ≡ true → bit after.bits x ≡ true
  pub more : before.bits ≤ after.bits
  pub sound : (source : ℕ → Bool) → AllJoined w s source before → AllJoined w s source after
  pub done : after.bits ≡ before.bits → Even w s a after

-- some sections, and both ends of a switch where it is closed and one of them is among these
abbrev pub with_ends : Switch → Bool → (ℕ → Bool) → ℕ → Bool
with_ends l closed there x = there x || ((closed && (there l.from || there l.to)) && (x == l.from || x == l.to))
