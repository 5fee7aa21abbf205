-- The picture of a network's state, fact by fact.
use Rattle.std.specs.Prelude.{◌≡◌, ℕ, ◌+◌, ◌-◌, ◌<◌, ◌≤◌, Bool, false, cond, ◌&&◌, Decides, nat_lt}
use Rattle.model.specs.declared.picture.Picture.{Picture}
use Rattle.model.specs.declared.term.Term.TheVariants.{Object}
use Rattle.model.specs.Drawn.{picture_of}
use Rattle.model.specs.Numbering.{number_of}
use Rattle.model.specs.Pictures.{bit, holds}
use Rattle.model.specs.Vocabularies.{fact_total}
use Rattle.plants.specs.declared.network.Network.{Network}
use Rattle.grid.specs.declared.state.NetworkState.{NetworkState}
use Rattle.grid.specs.Paths.{Joined, is_joined}
use Rattle.grid.specs.States.{has_earth, is_closed}

-- whether section x exists and is live: a path of closed switches joins it to a fed section
abbrev pub is_live : Network → NetworkState → ℕ → Bool
is_live w s x = nat_lt x w.vocabulary.objects && is_joined w s (bit w.fed) x

-- three tests of n objects each, one after the other
abbrev pub in_turn : ℕ → (ℕ → Bool) → (ℕ → Bool) → (ℕ → Bool) → ℕ → Bool
in_turn n first second third f = cond (nat_lt f n) (first f) (cond (nat_lt f (n + n)) (second (f - n)) (third (f - (n + n))))

-- the same for tests that are given by bits
abbrev pub side_by_side : ℕ → ℕ → ℕ → ℕ → ℕ → Bool
side_by_side n first second third = in_turn n (bit first) (bit second) (bit third)

-- the picture of a state: the facts of the closed switches, of the placed earths and of the live sections
unfoldable pub network_shown : Network → NetworkState → Picture
network_shown w s = picture_of (in_turn w.vocabulary.objects (is_closed w s) (has_earth w s) (is_live w s))

-- the number of the fact that a predicate, 0 to 2, says of an object
abbrev pub fact_about : Network → ℕ → ℕ → ℕ
fact_about w p o = number_of w.vocabulary (record { predicate = p; first = Object o; second = Object 0 })

-- what a picture of a state says: predicate 0 of the switches that they are closed, predicate 1 of the sections that an
-- earth is placed there, predicate 2 of them that a path of closed switches joins them to a fed section; no other fact
pub record Depicts (w : Network) (s : NetworkState) (r : Picture) : Type 0 where
  pub closed : (a : ℕ) → a < w.vocabulary.objects → holds r (fact_about w 0 a) ≡ is_closed w s a
  pub earthed : (x : ℕ) → x < w.vocabulary.objects → holds r (fact_about w 1 x) ≡ has_earth w s x
  pub live : (x : ℕ) → x < w.vocabulary.objects → Decides (holds r (fact_about w 2 x)) (Joined w s (bit w.fed) x)
  pub others : (f : ℕ) → fact_total w.vocabulary ≤ f → holds r f ≡ false
