-- The ends of a network's switches are two of its sections.
use Rattle.std.proofs.Common.{◌≡◌, ℕ, ◌<◌, ◌≤◌, true, not, ◌&&◌, eqb, ltb, length, arith}
use Rattle.codec.proofs.Coding.{every_at}
use Rattle.plants.specs.declared.network.Network.{Network}
use Rattle.plants.specs.Switches.{blank_switch, switch_fits}
use Rattle.std.proofs.lemmas.Bool.{and_parts, ltb-true}
use Rattle.grid.specs.Paths.{switch_at}

pub count_small : (w : Network) → length w.switches ≤ 16
count_small w = omega (arith, w.few, w.vocabulary.high)

pub switch_sound : (w : Network) (a : ℕ) → a < length w.switches → switch_fits w.vocabulary.objects (switch_at w a) ≡ true
switch_sound w a h = every_at (switch_fits w.vocabulary.objects) w.switches blank_switch a w.ends h

pub ends_below : (w : Network) (a : ℕ) → a < length w.switches → ((switch_at w a).from < w.vocabulary.objects) × ((switch_at w a).to < w.vocabulary.objects)
ends_below w a h =
    let n = w.vocabulary.objects in
    let from = (switch_at w a).from in
    let to = (switch_at w a).to in
    let p = and_parts (ltb from n) (ltb to n && not (eqb from to)) (switch_sound w a h) in
    let q = and_parts (ltb to n) (not (eqb from to)) p.1 in
    (ltb-true from n p.0, ltb-true to n q.0)
