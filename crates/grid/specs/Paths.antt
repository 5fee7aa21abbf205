-- Paths: which sections are joined to some source by closed switches.
use Rattle.std.specs.Prelude.{◌≡◌, ℕ, zero, suc, Bool, true, false, ◌&&◌, ◌||◌, ◌==◌, slice_index_or, length}
use Rattle.plants.specs.declared.network.Network.{Network}
use Rattle.plants.specs.declared.network.Switch.{Switch}
use Rattle.plants.specs.Switches.{blank_switch}
use Rattle.grid.specs.declared.state.NetworkState.{NetworkState}
use Rattle.grid.specs.States.{is_closed}

-- switch a of a network
abbrev pub switch_at : Network → ℕ → Switch
switch_at w a = slice_index_or w.switches a blank_switch

-- two sections are linked where a closed switch joins them, either way round
pub data Linked (w : Network) (s : NetworkState) : ℕ → ℕ → Type 0 where
  along : (a : ℕ) → is_closed w s a ≡ true → Linked w s (switch_at w a).from (switch_at w a).to
  back : (a : ℕ) → is_closed w s a ≡ true → Linked w s (switch_at w a).to (switch_at w a).from

-- closed switches lead from a source to a section, along a path of any length, zero included
pub data Joined (w : Network) (s : NetworkState) (source : ℕ → Bool) : ℕ → Type 0 where
  here : (x : ℕ) → source x ≡ true → Joined w s source x
  further : (x y : ℕ) → Joined w s source x → Linked w s x y → Joined w s source y

-- whether one of the numbers below n passes a test
abbrev pub some_below : ℕ → (ℕ → Bool) → Bool
some_below zero test = false
some_below (suc n) test = test n || some_below n test

-- whether switch a is closed and joins section x to one that passes a test
abbrev pub joins_to : Network → NetworkState → (ℕ → Bool) → ℕ → ℕ → Bool
joins_to w s test x a =
    is_closed w s a
    && ((x == (switch_at w a).from && test (switch_at w a).to) || (x == (switch_at w a).to && test (switch_at w a).from))

-- whether a path of at most n closed switches joins a section to a source
unfoldable pub joined_within : Network → NetworkState → (ℕ → Bool) → ℕ → ℕ → Bool
joined_within w s source zero x = source x
joined_within w s source (suc n) x =
    joined_within w s source n x || some_below (length w.switches) (joins_to w s (joined_within w s source n) x)

-- whether a path of closed switches joins a section to a source: no path need be longer than there are sections
abbrev pub is_joined : Network → NetworkState → (ℕ → Bool) → ℕ → Bool
is_joined w s source x = joined_within w s source w.vocabulary.objects x
