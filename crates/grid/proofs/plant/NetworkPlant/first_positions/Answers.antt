-- Each call of the closure gives the position of one switch, and leaves the closure as it is.
use Rattle.std.proofs.Common.{◌≡◌, ℕ, zero, suc, ◌+◌, ◌<◌, ◌≤◌, false, List, get_or, ap, ◌∙◌, subst, ⊎_elim, arith, rules}
use denote.Param.Members.{Mut, Called}
use Rattle.std.specs.Array.{IsFromFnResultFrom}
use Rattle.std.proofs.lemmas.Bool.{cases_eq}
use Rattle.std.proofs.lemmas.List.FromFn.{fill_by_all}
use Rattle.grid.specs.States.{first_position}
use Rattle.grid.proofs.plant.NetworkPlant.first_positions.Goals as goal

module _ {F B : Type 0} (g : Mut F (ℕ × Unit {0}) B) (f : F) (v : ℕ → B)
    (gives : (i : ℕ) (y : B) (q : F) → Called g f (i, tt) y q → (y ≡ v i) × (q ≡ f)) where
  filled : (ys : List B) (d : B) (i n k : ℕ) → IsFromFnResultFrom g f ys i n → i ≤ k → k < i + n → get_or ys k d ≡ v k
  filled ys d i zero k r l h = absurd (omega arith)
  filled ys d i (suc n) k (q, y, at, call, rest) l h =
      let e = gives i y q call in
      ⊎_elim
      (λ p. ap (λ (j : ℕ). get_or ys j d) p ∙ at.1 d ∙ e.0 ∙ ap v (omega arith))
      (λ p. filled ys d (i + 1) n k (subst (λ (p : F). IsFromFnResultFrom g p ys (i + 1) n) e.1 rest) (omega arith) (omega arith))
      (cases_eq k i)

pub returns : goal.returns
returns c =
    let w = c.args.self.now.network in
    let p = c.args.self.now.first in
    fill_by_all (first_position w p) c.from_fn.result 16 (record { closed = false }) c.from_fn.ensures.items.long
    (λ k h. filled _ _ (first_position w p) (λ i y q k. search rules) c.from_fn.result _ 0 16 k c.from_fn.ensures.items.each (omega arith) (omega arith))
