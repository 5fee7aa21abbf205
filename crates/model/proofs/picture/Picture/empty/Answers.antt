use Rattle.std.proofs.Common.{◌≡◌, ℕ, ◌/◌, ◌%◌, [], get_or, replicate, refl, ap, ◌∙◌, arith}
use Rattle.codec.specs.Padding.{table_unused}
use Rattle.model.specs.Pictures.{bit, holds}
use Rattle.model.proofs.Bits.{bit_none}
use Rattle.model.proofs.picture.Picture.empty.Goals as goal

-- every place of eight zeros, and every place past them, reads as 0
zeros : (i : ℕ) → ◌≡◌ {A = ℕ} (get_or (replicate 8 0) i 0) 0
zeros i = table_unused 0 8 0 [] refl (omega arith) i (omega arith)

pub returns : goal.returns
unfolding holds
returns c = λ f. ap (λ (w : ℕ). bit w (f % 64)) (zeros (f / 64)) ∙ bit_none (f % 64)
