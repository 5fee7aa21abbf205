-- The law of a network's moves, action by action: which are possible, and what each changes and leaves.
use Rattle.std.specs.Prelude.{◌≡◌, ℕ, ◌<◌, Bool, true, false, ◌≢◌, length}
use Rattle.model.specs.Pictures.{bit}
use Rattle.plants.specs.declared.network.Network.{Network}
use Rattle.grid.specs.declared.action.Action.{Action}
use Rattle.grid.specs.declared.action.Action.TheVariants.{Open, Close, Earth, Lift}
use Rattle.grid.specs.declared.state.NetworkState.{NetworkState}
use Rattle.grid.specs.Actions.{action_number}
use Rattle.grid.specs.States.{closed_at}

-- the switch or section of an action exists, and is not yet as the action leaves it
abbrev pub Possible : Network → NetworkState → Action → Type 0
Possible w s (Open a) = (a < length w.switches) × (closed_at s a ≡ true)
Possible w s (Close a) = (a < length w.switches) × (closed_at s a ≡ false)
Possible w s (Earth x) = (x < w.vocabulary.objects) × (bit s.earths.bits x ≡ false)
Possible w s (Lift x) = (x < w.vocabulary.objects) × (bit s.earths.bits x ≡ true)

-- switch a is put into a position; every other switch and all earths stay as they were
pub record SwitchPut (s : NetworkState) (a : ℕ) (on : Bool) (r : NetworkState) : Type 0 where
  pub put : closed_at r a ≡ on
  pub others : (b : ℕ) → (b ≢ a) → closed_at r b ≡ closed_at s b
  pub earths : r.earths ≡ s.earths

-- the earth at section x is put there or taken away; every other earth and all switches stay as they were
pub record EarthPut (s : NetworkState) (x : ℕ) (there : Bool) (r : NetworkState) : Type 0 where
  pub put : bit r.earths.bits x ≡ there
  pub others : (y : ℕ) → (y ≢ x) → bit r.earths.bits y ≡ bit s.earths.bits y
  pub switches : r.switches ≡ s.switches

-- what an action changes
abbrev pub Done : NetworkState → Action → NetworkState → Type 0
Done s (Open a) r = SwitchPut s a false r
Done s (Close a) r = SwitchPut s a true r
Done s (Earth x) r = EarthPut s x true r
Done s (Lift x) r = EarthPut s x false r

-- a number is that of an action which is possible
abbrev pub CanMove : Network → NetworkState → ℕ → Type 0
CanMove w s m = (c : Action) × ((action_number c ≡ m) × Possible w s c)

-- the state after a move: what a possible action with this number changes is changed and nothing else, and where no
-- possible action has the number nothing is
pub record Stepped (w : Network) (s : NetworkState) (m : ℕ) (r : NetworkState) : Type 0 where
  pub done : (c : Action) → action_number c ≡ m → Possible w s c → Done s c r
  pub idle : (CanMove w s m → ⊥) → r ≡ s
