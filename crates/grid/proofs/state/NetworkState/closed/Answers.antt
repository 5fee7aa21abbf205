use Rattle.std.proofs.Common.{sym, ◌∙◌, ⊎_elim, arith, rules, length}
use Rattle.std.proofs.lemmas.Bool.{and_left, cases_lt, le-ltb, lt-ltb}
use Rattle.grid.specs.States.{closed_at}
use Rattle.grid.proofs.state.NetworkState.closed.Goals as goal

pub returns : goal.returns
returns c = λ k.
    let w = c.args.network.now in
    let s = c.args.self.now in
    ⊎_elim
    (λ h. search (rules, c.those.ensures.tested k h, lt-ltb k (length w.switches) (omega (arith, h, c.len.ensures.same))))
    (λ h. c.those.ensures.others k h ∙ sym (and_left _ (closed_at s k) (le-ltb k (length w.switches) (omega (arith, h, c.len.ensures.same)))))
    (cases_lt k c.len.result)
