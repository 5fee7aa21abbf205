-- Runs: lists of one picture or more, the last of which goes on for ever, and what a label takes in.
use Rattle.std.specs.Prelude.{ℕ, zero, suc, List, [], ◌∷◌}
use Rattle.model.specs.declared.picture.Picture.{Picture}

-- the picture at a position of the run of q and then qs: positions behind the last picture have the last picture
abbrev pub picture_at : Picture → List Picture → ℕ → Picture
picture_at q [] i = q
picture_at q (r ∷ rs) zero = q
picture_at q (r ∷ rs) (suc i) = picture_at r rs i

-- the label after taking in the pictures of a list in turn
abbrev pub taking : {L : Type 0} → (L → Picture → L) → L → List Picture → L
taking next l [] = l
taking next l (q ∷ qs) = taking next (next l q) qs
