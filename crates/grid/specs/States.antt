-- States of a network: where its switches stand and where earths are placed.
use Rattle.std.specs.Prelude.{ℕ, ◌+◌, Bool, false, cond, ◌&&◌, map, ◌==◌, nat_lt, slice_index_or, slice_set, refl, length}
use Rattle.std.proofs.Common.{◌∙◌, length-set}
use Rattle.model.specs.declared.picture.Picture.{Picture}
use Rattle.model.specs.Drawn.{bits_below, bits_of}
use Rattle.model.specs.Pictures.{bit, holds}
use Rattle.plants.specs.declared.network.Network.{Network}
use Rattle.std.specs.List.{range_with_len}
use Rattle.grid.specs.declared.sections.Sections.{Sections}
use Rattle.grid.specs.declared.state.NetworkState.{NetworkState}
use Rattle.grid.specs.declared.state.Position.{Position}

-- whether the place of switch a says closed
abbrev pub closed_at : NetworkState → ℕ → Bool
closed_at s a = (slice_index_or s.switches a (record { closed = false })).closed

-- whether the network has a switch a, and it is closed
abbrev pub is_closed : Network → NetworkState → ℕ → Bool
is_closed w s a = nat_lt a (length w.switches) && closed_at s a

-- whether the network has a section x, and an earth is placed at it
abbrev pub has_earth : Network → NetworkState → ℕ → Bool
has_earth w s x = nat_lt x w.vocabulary.objects && bit s.earths.bits x

-- switch a in a position, and nothing else changed
abbrev pub with_position : NetworkState → ℕ → Bool → NetworkState
with_position s a on =
    record {
      switches = slice_set s.switches a (record { closed = on });
      earths = s.earths;
      places = length-set s.switches a (record { closed = on }) ∙ s.places;
    }

-- the sections, of sixteen, that pass a test
abbrev pub sections_of : (ℕ → Bool) → Sections
sections_of test = record { bits = bits_of 16 test; small = bits_below 16 test }

-- the earth at section x there or not, and nothing else changed
abbrev pub with_earth : NetworkState → ℕ → Bool → NetworkState
with_earth s x there =
    record {
      switches = s.switches;
      earths = sections_of (λ k. cond (k == x) there (bit s.earths.bits k));
      places = s.places;
    }

-- the position of switch a at the start: closed where there is such a switch and the first facts say so
abbrev pub first_position : Network → Picture → ℕ → Position
first_position w p a = record { closed = holds p a && nat_lt a (length w.switches) }

-- whether an earth is placed at section x at the start; the facts of earths follow those of the switches' positions
abbrev pub has_first_earth : Network → Picture → ℕ → Bool
has_first_earth w p x = nat_lt x w.vocabulary.objects && holds p (w.vocabulary.objects + x)

-- the state at the start, by the first facts
unfoldable pub first_state : Network → Picture → NetworkState
first_state w p =
    record {
      switches = map (first_position w p) (range_with_len 0 16);
      earths = sections_of (has_first_earth w p);
      places = refl;
    }
