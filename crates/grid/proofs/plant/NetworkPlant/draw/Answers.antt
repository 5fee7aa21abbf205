-- What is packed is, fact by fact, what is defined to hold: a section is reached just where a path joins it to a fed one.
use Rattle.std.proofs.Common.{◌≡◌, Bool, ◌&&◌, ltb, sym, ap, ◌∙◌, subst}
use Rattle.model.specs.Drawn.{bits_of}
use Rattle.model.specs.Pictures.{bit}
use Rattle.model.proofs.Drawn.{bit_of_bits, drawn}
use Rattle.std.proofs.lemmas.Bool.Decides.{same_from_decides}
use Rattle.grid.specs.Paths.{is_joined}
use Rattle.grid.specs.Shown.{Depicts, in_turn, is_live, network_shown}
use Rattle.grid.specs.States.{has_earth, is_closed}
use Rattle.grid.proofs.Depicting.{closed_within, in_turn_same, shown_law}
use Rattle.grid.proofs.Paths.{joined_decided}
use Rattle.grid.proofs.plant.NetworkPlant.draw.Goals as goal

pub returns : goal.returns
unfolding network_shown
returns c =
    let w = c.args.self.now.network in
    let s = c.args.state.now in
    let n = w.vocabulary.objects in
    let closed = c.closed-closed.result.bits in
    let live = c.reach-live.result.bits in
    let shown : c.pack.result ≡ network_shown w s =
    drawn c.pack.result (in_turn n (is_closed w s) (has_earth w s) (is_live w s))
    (λ f h.
    c.pack.ensures f h
    ∙ in_turn_same n (bit (bits_of n (bit closed))) (bit (bits_of n (bit s.earths.bits))) (bit (bits_of n (bit live))) (is_closed w s) (has_earth w s) (is_live w s)
    (λ k. bit_of_bits n (bit closed) k ∙ ap (λ (b : Bool). ltb k n && b) (c.closed-closed.ensures k) ∙ closed_within w s k)
    (λ k. bit_of_bits n (bit s.earths.bits) k)
    (λ k.
    bit_of_bits n (bit live) k
    ∙ ap (λ (b : Bool). ltb k n && b)
    (same_from_decides (bit live k) (is_joined w s (bit w.fed) k) (c.reach-live.ensures k) (joined_decided w s (bit w.fed) k)))
    f)
    in
    record { shown = shown; law = subst (Depicts w s) (sym shown) (shown_law w s) }
