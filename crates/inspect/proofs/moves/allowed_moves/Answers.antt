-- The walk meets each allowed move once, in ascending order, and no other.
use Rattle.std.proofs.Common.{◌≡◌, ℕ, suc, ◌+◌, List, [], ◌∷◌, ◌++◌, sym, ap, ◌∙◌, arith, rules}
use Rattle.model.specs.Pictures.{chosen}
use Rattle.inspect.proofs.Walks.{next_move, no_move}
use Rattle.inspect.proofs.moves.allowed_moves.Goals as goal

pub loop-found-init : goal.loop-found-init
unfolding chosen
loop-found-init g c = (omega arith, search rules)

pub overflow_add-from : goal.overflow_add-from
overflow_add-from g c =
    let n = next_move _ c.loop-found.from c.loop-found.invariant.0 c.in-Some.found c.in-Some.ensures in
    omega (arith, n.1.0)

pub loop-found-smaller : goal.loop-found-smaller
loop-found-smaller g c =
    let n = next_move _ c.loop-found.from c.loop-found.invariant.0 c.in-Some.found c.in-Some.ensures in
    omega (arith, n.0, n.1.0)

pub loop-found-preserved : goal.loop-found-preserved
loop-found-preserved g c =
    let m = c.in-Some.found in
    let n = next_move _ c.loop-found.from c.loop-found.invariant.0 m c.in-Some.ensures in
    let e : suc m ≡ m + 1 = omega arith in (
      omega (arith, n.1.0),
      c.in_ok-push.ensures.items
          ∙ ap (λ (t : List ℕ). t ++ (m ∷ [])) c.loop-found.invariant.1
          ∙ sym n.1.1
          ∙ ap (λ (k : ℕ). chosen k (g.P.Plant.allowed c.args.plant.now c.args.state.now)) e,
    )

pub returns : goal.returns
returns g c =
    c.loop-found.invariant.1
    ∙ sym (no_move _ c.loop-found.from c.loop-found.invariant.0 c.in_default.ensures)
