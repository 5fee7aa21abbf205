-- What the set holds afterwards, section by section.
use Rattle.std.proofs.Common.{◌≡◌, Bool, true, false, cond, not, ◌&&◌, ◌||◌, eqb, sym, refl, ap, ◌∙◌}
use Rattle.model.specs.Pictures.{bit}
use Rattle.grid.specs.declared.sections.Sections.{Sections}
use Rattle.grid.proofs.Same.{same_sections, same_state}
use Rattle.grid.proofs.state.NetworkState.put_earth.Goals as goal
use Rattle.grid.proofs.state.NetworkState.put_earth.Goals.{then-there, else-there}

placed : (here there old : Bool) → there ≡ true → (here || old) ≡ cond here there old
placed true there old e = sym e
placed false there old e = refl

lifted : (here there old : Bool) → there ≡ false → (not here && old) ≡ cond here there old
lifted true there old e = sym e
lifted false there old e = refl

pub returns : goal.returns
returns c =
    let old = c.args.self.now.earths.bits in
    let x = c.args.section in
    let there = c.args.there in
    same_state _ _ refl
    (elim c.if-there.branch [
      | then-there w ↦ same_sections c.if-there.self _
          (λ k h. ap (λ (s : Sections). bit s.bits k) w.self-is ∙ w.with-self.ensures.bits k h ∙ placed (eqb k x) there (bit old k) w.if-there.true)
      | else-there w ↦ same_sections c.if-there.self _
          (λ k h. ap (λ (s : Sections). bit s.bits k) w.self-is ∙ w.without-self.ensures k h ∙ lifted (eqb k x) there (bit old k) w.if-there.false)
    ])
