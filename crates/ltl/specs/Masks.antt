-- Masks: what is known of a formula at n positions and behind them, as two numbers with a bit for each.
use Rattle.std.specs.Prelude.{◌≡◌, ℕ, suc}
use Rattle.model.specs.Drawn.{bits_of}
use Rattle.ltl.specs.declared.classes.Classes.{Classes}
use Rattle.ltl.specs.Classes.{Class}

-- two masks hold the classes of n positions and of the one behind them
pub record Masked (n : ℕ) (class : ℕ → Class) (m : Classes) : Type 0 where
  pub sure : m.sure ≡ bits_of (suc n) (λ i. (class i).sure)
  pub lost : m.lost ≡ bits_of (suc n) (λ i. (class i).lost)
