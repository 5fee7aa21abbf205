-- Each round keeps what was reached and adds only what is joined. The search ends with a round that added nothing, so
-- that no closed switch leaves the set, or once every section is in it.
use Rattle.std.proofs.Common.{ℕ, length, sym, ap, ◌∙◌, arith, rules, length-append}
use Rattle.std.proofs.lemmas.Bool.{eqb-true}
use Rattle.std.proofs.lemmas.Slice.Zip.{zip_end, zip_turn}
use Rattle.model.specs.Pictures.{bit}
use Rattle.model.proofs.Bits.{bit_full}
use Rattle.grid.specs.Reached.{Spread}
use Rattle.grid.proofs.Ends.{count_small}
use Rattle.grid.proofs.Growing.{even_more, grown_more, grown_round, reached_all, reached_even, spread_turn}
use Rattle.grid.proofs.reach.reach.Goals as goal
use Rattle.grid.proofs.reach.reach.Goals.{After-spread-reached}

-- the pair of this turn is a switch and its position
turned : (c : After-spread-reached) → Spread c.args.network.now c.args.state.now (length c.loop-switch.yielded) c.loop-switch.reached c.spread-reached.result
turned c =
    let w = c.args.network.now in
    let s = c.args.state.now in
    let t = zip_turn w.switches s.switches c.loop-switch.yielded c.into_iter-switch-iterator.result c.loop-switch.switch-iterator c.next.new.self c.next.result
    (search rules) (search rules) c.loop-switch.yielded_by (c.in-Some.switch, c.in-Some.position) c.in-Some.is c.next.ensures.steps
    in
    spread_turn w s _ c.in-Some.switch.now c.in-Some.position.now _ _ t.0 t.2 t.3 c.spread-reached.ensures.ends c.spread-reached.ensures.more

pub loop-switch-preserved : goal.loop-switch-preserved
loop-switch-preserved c =
    let h = turned (goal.at.loop-switch-preserved c).After-spread-reached in
    let i = c.loop-switch.invariant in
    (grown_more _ _ _ _ _ _ i.0 h, omega (arith, h.more, i.1), λ e b l. even_more _ _ _ _ _ _ h i.1 i.2 e b (omega (arith, simp length-append at l)))

pub returns-then-eq : goal.returns-then-eq
returns-then-eq c =
    let w = c.args.network.now in
    let g = grown_more _ _ _ _ _ _ c.loop-switch.invariant.0 (turned (goal.at.returns-then-eq c).After-spread-reached) in
    reached_all w c.args.state.now c.args.sources c.spread-reached.result (grown_round _ _ _ _ _ c.grow.invariant g)
    (λ x h. ap (λ (m : ℕ). bit m x) (eqb-true _ _ (sym c.eq.ensures ∙ c.if-eq.true) ∙ c.all-all.ensures) ∙ bit_full w.vocabulary.objects x h)

pub returns-then-eq-2 : goal.returns-then-eq-2
returns-then-eq-2 c =
    let w = c.args.network.now in
    let i = c.loop-switch.invariant in
    let n = zip_end w.switches c.args.state.now.switches c.loop-switch.yielded c.into_iter-switch-iterator.result c.loop-switch.switch-iterator c.next.new.self c.next.result
    (search rules) (search rules) c.loop-switch.yielded_by c.in-None.is c.next.ensures.steps
    in
    let few = count_small w in
    reached_even w c.args.state.now c.args.sources c.loop-switch.reached (grown_round _ _ _ _ _ c.grow.invariant i.0)
    (λ a h. i.2 (eqb-true _ _ (sym c.eq-in-grow.ensures ∙ c.if-eq-2.true)) a (omega (arith, n, few, c.args.state.now.places)))
