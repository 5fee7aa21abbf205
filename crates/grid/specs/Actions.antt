-- Actions of a network: the number that each has, when it changes something, and what then.
use Rattle.std.specs.Prelude.{◌≡◌, ℕ, zero, suc, ◌+◌, ◌*◌, ◌/◌, ◌%◌, ◌<◌, Bool, true, false, cond, not, ◌&&◌, Some, None, Option, ◌==◌, ◌≢◌, nat_lt, length}
use Rattle.model.specs.Pictures.{bit}
use Rattle.plants.specs.declared.network.Network.{Network}
use Rattle.grid.specs.declared.action.Action.{Action}
use Rattle.grid.specs.declared.action.Action.TheVariants.{Open, Close, Earth, Lift}
use Rattle.grid.specs.declared.state.NetworkState.{NetworkState}
use Rattle.grid.specs.States.{closed_at, has_earth, is_closed, with_earth, with_position}

-- the number of an action as a move: operator × 256 + argument × 16
abbrev pub action_number : Action → ℕ
action_number (Open a) = a * 16
action_number (Close a) = 256 + a * 16
action_number (Earth x) = 512 + x * 16
action_number (Lift x) = 768 + x * 16

-- the switch or section that an action is about
abbrev pub argument : Action → ℕ
argument (Open a) = a
argument (Close a) = a
argument (Earth x) = x
argument (Lift x) = x

-- the action of an operator on a switch or section, if there is such an operator
abbrev pub action_by : ℕ → ℕ → Option Action
action_by zero a = Some (Open a)
action_by (suc zero) a = Some (Close a)
action_by (suc (suc zero)) a = Some (Earth a)
action_by (suc (suc (suc zero))) a = Some (Lift a)
action_by (suc (suc (suc (suc k)))) a = None

-- the action of a move number, if it has one: its second argument is 0
abbrev pub action_of : ℕ → Option Action
action_of m = cond (m % 16 == 0) (action_by (m / 256) (m / 16 % 16)) None

-- what asking for a number's action answers: the action of that number, or none where no action has it
abbrev pub Numbered : ℕ → Option Action → Type 0
Numbered m (Some c) = (action_number c ≡ m) × (argument c < 16)
Numbered m None = (c : Action) → argument c < 16 → action_number c ≢ m

-- whether an action changes something: its switch or section exists and is not yet as the action leaves it
abbrev pub changes : Network → NetworkState → Action → Bool
changes w s (Open a) = is_closed w s a
changes w s (Close a) = nat_lt a (length w.switches) && not (closed_at s a)
changes w s (Earth x) = nat_lt x w.vocabulary.objects && not (bit s.earths.bits x)
changes w s (Lift x) = has_earth w s x

-- the state after an action
abbrev pub acted : NetworkState → Action → NetworkState
acted s (Open a) = with_position s a false
acted s (Close a) = with_position s a true
acted s (Earth x) = with_earth s x true
acted s (Lift x) = with_earth s x false

-- whether what a number stands for, if anything, changes something
abbrev pub some_changes : Network → NetworkState → Option Action → Bool
some_changes w s None = false
some_changes w s (Some c) = changes w s c

-- the state after what a number stands for, if anything
abbrev pub some_acted : NetworkState → Option Action → NetworkState
some_acted s None = s
some_acted s (Some c) = acted s c

-- whether a move is allowed
unfoldable pub network_allowed : Network → NetworkState → ℕ → Bool
network_allowed w s m = some_changes w s (action_of m)

-- the state after a move; the same state where it is not allowed
unfoldable pub network_next : Network → NetworkState → ℕ → NetworkState
network_next w s m = cond (network_allowed w s m) (some_acted s (action_of m)) s
